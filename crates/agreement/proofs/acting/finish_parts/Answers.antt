-- What is owed of `finish_parts`.
use Rattle.verification.specs.Views.{assertion_parts_view}
use Rattle.agreement.proofs.Acted.{signs_in}
use Rattle.agreement.proofs.acting.finish_parts.Goals as goal

pub returns : goal.returns
returns g c = signs_in (g.V.Verifier.valid c.args.verifier.now) _ _ c.args.session (assertion_parts_view c.args.response.now) _ c.finish_parts.result c.finish_parts.ensures.accepted c.finish_parts.ensures.after
