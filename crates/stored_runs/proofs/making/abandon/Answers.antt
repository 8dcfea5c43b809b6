-- What is owed of `abandon`.
use Rattle.stored_runs.proofs.Bound.{abandons}
use Rattle.stored_runs.proofs.making.abandon.Goals as goal

pub returns : goal.returns
returns g c = abandons g.S.Store.view _ _ c.args.text.now c.args.now _ c.abandon.ensures.told c.abandon.ensures.held c.abandon.ensures.beside c.abandon.ensures.one
