-- What is owed of `finish_parts`.
use Rattle.verification.specs.Views.{assertion_parts_view}
use Rattle.stored_runs.proofs.Bound.{signs_in}
use Rattle.stored_runs.proofs.making.finish_parts.Goals as goal

pub returns : goal.returns
returns g c = signs_in g.S.Store.view _ _ (g.V.Verifier.valid c.args.verifier.now) c.args.text.now (assertion_parts_view c.args.response.now) c.args.now _
    c.finish_parts.ensures.accepted c.finish_parts.ensures.ended c.finish_parts.ensures.beside c.finish_parts.ensures.one
