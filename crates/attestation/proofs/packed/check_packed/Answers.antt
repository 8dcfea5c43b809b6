-- What is owed of `check_packed`.
use Rattle.std.proofs.Common.{refl}
use Rattle.refusal_order.proofs.Laws.{first_at}
use Rattle.certificates.specs.Form.{certificate_view}
use Rattle.attestation.specs.Inputs.{inputs_view}
use Rattle.attestation.specs.Packed.{PassesPacked, packed_steps}
use Rattle.attestation.proofs.Leaves.{no_leaf, passes_lifted, refused_lifted}
use Rattle.attestation.proofs.packed.check_packed.Goals as goal

pub returns-in_default-clause-refused : goal.returns-in_default-clause-refused
returns-in_default-clause-refused g c = first_at 0 refl tt (no_leaf _ c.args.leaf.now (λ d is. c.in_default.ensures.none refl d is.is is.octets))

pub returns-clause-passes : goal.returns-clause-passes
returns-clause-passes g c =
    passes_lifted (λ s t. PassesPacked (g.V.SignatureVerifier.valid c.args.verifier.now) c.args.algorithm c.args.signature.now (inputs_view c.args.inputs.now) t s)
    (certificate_view c.in-Ok.certificate) c.args.leaf.now (record { is = c.in-Ok.ensures.found.0; octets = c.in-Ok.ensures.found.1 }) packed_steps
    c.check_content.result c.check_content.ensures.passes

pub returns-clause-refused : goal.returns-clause-refused
returns-clause-refused g c =
    refused_lifted (λ s t. PassesPacked (g.V.SignatureVerifier.valid c.args.verifier.now) c.args.algorithm c.args.signature.now (inputs_view c.args.inputs.now) t s)
    (certificate_view c.in-Ok.certificate) c.args.leaf.now (record { is = c.in-Ok.ensures.found.0; octets = c.in-Ok.ensures.found.1 }) packed_steps
    c.check_content.result c.check_content.ensures.refused
