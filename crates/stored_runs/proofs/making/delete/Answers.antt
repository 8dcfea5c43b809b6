-- What is owed of `delete`.
use Rattle.stored_runs.proofs.Bound.{deletes}
use Rattle.stored_runs.proofs.making.delete.Goals as goal

pub returns : goal.returns
returns g c = deletes g.S.Store.view _ _ c.args.id.now c.args.now _ c.delete.ensures.told c.delete.ensures.beside c.delete.ensures.ends.one
