-- What is owed of `retire`.
use Rattle.stored_runs.proofs.Bound.{retires}
use Rattle.stored_runs.proofs.making.retire.Goals as goal

pub returns : goal.returns
returns g c = retires g.S.Store.view _ _ c.args.id.now c.args.now _ c.retire.ensures.told c.retire.ensures.beside c.retire.ensures.ends.one
