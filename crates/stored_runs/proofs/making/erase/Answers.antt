-- What is owed of `erase`.
use Rattle.stored_runs.proofs.Bound.{erases}
use Rattle.stored_runs.proofs.making.erase.Goals as goal

pub returns : goal.returns
returns g c = erases g.S.Store.view _ _ c.args.user.now c.args.now _ c.erase.ensures.told c.erase.ensures.beside c.erase.ensures.ends.one
