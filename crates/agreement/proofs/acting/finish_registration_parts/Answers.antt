-- What is owed of `finish_registration_parts`.
use Rattle.verification.specs.Views.{registration_parts_view}
use Rattle.agreement.proofs.Acted.{registers}
use Rattle.agreement.proofs.acting.finish_registration_parts.Goals as goal

pub returns : goal.returns
returns g c = registers (g.V.Verifier.valid c.args.verifier.now) _ _ c.args.session (registration_parts_view c.args.response.now) _ c.finish_registration_parts.result c.finish_registration_parts.ensures.accepted c.finish_registration_parts.ensures.after
