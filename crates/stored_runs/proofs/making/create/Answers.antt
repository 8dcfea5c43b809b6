-- What is owed of `create`.
use Rattle.stored_runs.proofs.Bound.{makes}
use Rattle.stored_runs.proofs.making.create.Goals as goal

pub returns : goal.returns
returns g c = makes g.S.Store.view c.args.party c.args.policy c.args.bounds c.create.result c.create.ensures.made
