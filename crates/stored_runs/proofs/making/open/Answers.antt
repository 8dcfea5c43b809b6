-- What is owed of `open`.
use Rattle.stored_runs.proofs.Bound.{opens}
use Rattle.stored_runs.proofs.making.open.Goals as goal

pub returns : goal.returns
returns g c = opens g.S.Store.view c.args.opening c.open.result c.open.ensures.opened
