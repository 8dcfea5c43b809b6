-- What is owed of `check_apple`.
use Rattle.std.proofs.Common.{refl}
use Rattle.refusal_order.proofs.Laws.{first_at}
use Rattle.certificates.specs.Form.{certificate_view}
use Rattle.attestation.specs.Inputs.{inputs_view}
use Rattle.attestation.specs.Apple.{PassesApple, apple_steps}
use Rattle.attestation.proofs.Leaves.{no_leaf, passes_lifted, refused_lifted}
use Rattle.attestation.proofs.apple.check_apple.Goals as goal

pub returns-in_default-clause-refused : goal.returns-in_default-clause-refused
returns-in_default-clause-refused c = first_at 0 refl tt (no_leaf _ c.args.leaf.now (λ d is. c.in_default.ensures.none refl d is.is is.octets))

pub returns-clause-passes : goal.returns-clause-passes
returns-clause-passes c =
    passes_lifted (λ s t. PassesApple (inputs_view c.args.inputs.now) t s)
    (certificate_view c.in-Ok.certificate) c.args.leaf.now (record { is = c.in-Ok.ensures.found.0; octets = c.in-Ok.ensures.found.1 }) apple_steps
    c.check_content.result c.check_content.ensures.passes

pub returns-clause-refused : goal.returns-clause-refused
returns-clause-refused c =
    refused_lifted (λ s t. PassesApple (inputs_view c.args.inputs.now) t s)
    (certificate_view c.in-Ok.certificate) c.args.leaf.now (record { is = c.in-Ok.ensures.found.0; octets = c.in-Ok.ensures.found.1 }) apple_steps
    c.check_content.result c.check_content.ensures.refused
