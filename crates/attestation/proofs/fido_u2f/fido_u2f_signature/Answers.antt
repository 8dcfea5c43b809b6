-- What is owed of `fido_u2f_signature`.
use Rattle.certificates.specs.Form.{certificate_view}
use Rattle.attestation.specs.Inputs.{inputs_view}
use Rattle.attestation.specs.FidoU2f.{IsU2fSigned}
use Rattle.attestation.proofs.Leaves.{uncertified}
use Rattle.attestation.proofs.PointSigning.{none_signed}
use Rattle.attestation.proofs.fido_u2f.fido_u2f_signature.Goals as goal

pub returns-in-Err : goal.returns-in-Err
returns-in-Err c = λ s.
    uncertified (λ t. IsU2fSigned t.key c.args.signature.now (inputs_view c.args.inputs.now) s) (certificate_view c.in-Ok.certificate) c.args.leaf.now
    (record { is = c.in-Ok.ensures.found.0; octets = c.in-Ok.ensures.found.1 })
    (none_signed _ c.args.signature.now (inputs_view c.args.inputs.now) c.in-Err.field-0 c.in-Err.ensures.refused s)
