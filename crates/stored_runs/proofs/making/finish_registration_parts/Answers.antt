-- What is owed of `finish_registration_parts`.
use Rattle.verification.specs.Views.{registration_parts_view}
use Rattle.stored_runs.proofs.Bound.{registers}
use Rattle.stored_runs.proofs.making.finish_registration_parts.Goals as goal

pub returns : goal.returns
returns g c = registers g.S.Store.view _ _ (g.V.Verifier.valid c.args.verifier.now) c.args.text.now (registration_parts_view c.args.response.now) c.args.now _
    c.finish_registration_parts.ensures.accepted c.finish_registration_parts.ensures.ended c.finish_registration_parts.ensures.beside c.finish_registration_parts.ensures.one
