-- What is owed of `packed_signature`.
use Rattle.certificates.specs.Form.{certificate_view}
use Rattle.attestation.specs.Inputs.{inputs_view}
use Rattle.attestation.specs.Messages.{response_message}
use Rattle.attestation.specs.Signed.{IsBy}
use Rattle.attestation.proofs.Signing.{maybe_by, maybe_signed}
use Rattle.attestation.proofs.packed.packed_signature.Goals as goal

pub returns : goal.returns
returns c =
    let i = inputs_view c.args.inputs.now in
    let m = response_message i.auth_data i.hash in
    maybe_signed (certificate_view c.in-Ok.certificate) c.args.leaf.now (record { is = c.in-Ok.ensures.found.0; octets = c.in-Ok.ensures.found.1 })
    (λ t s. IsBy t.key c.args.algorithm m c.args.signature.now s) c.signature_by.result
    (maybe_by _ c.args.algorithm _ m c.args.signature.now c.signature_by.result c.response.ensures c.signature_by.ensures)
