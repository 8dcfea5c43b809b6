-- What is owed of `retire_all`.
use Rattle.stored_runs.proofs.Bound.{retires_all}
use Rattle.stored_runs.proofs.making.retire_all.Goals as goal

pub returns : goal.returns
returns g c = retires_all g.S.Store.view _ _ c.args.user.now c.args.now _ c.retire_all.ensures.told c.retire_all.ensures.beside c.retire_all.ensures.ends.one
