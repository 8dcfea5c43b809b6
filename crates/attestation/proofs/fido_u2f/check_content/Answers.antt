-- What is owed of `check_content`.
use Rattle.std.proofs.Common.{refl}
use Rattle.refusal_order.proofs.Laws.{first_at}
use Rattle.certificates.specs.Form.{tbs_view}
use Rattle.attestation.specs.Asked.{asked_view}
use Rattle.attestation.specs.Inputs.{inputs_view}
use Rattle.attestation.proofs.PointSigning.{first_unsigned, not_u2f}
use Rattle.attestation.proofs.fido_u2f.check_content.Goals as goal

pub returns-in-Err-clause-refused : goal.returns-in-Err-clause-refused
returns-in-Err-clause-refused g c =
    first_unsigned (g.V.SignatureVerifier.valid c.args.verifier.now) c.args.signature.now (inputs_view c.args.inputs.now) (tbs_view c.args.content.now)
    c.in-Err.refusal c.in-Err.ensures.refused

pub returns-then-not-verify-clause-refused : goal.returns-then-not-verify-clause-refused
returns-then-not-verify-clause-refused g c =
    first_at 3 refl (tt, (c.in-Ok.ensures.key, (c.in-Ok.ensures.point, tt)))
    (not_u2f (g.V.SignatureVerifier.valid c.args.verifier.now) c.args.content.now.key.now c.args.signature.now (inputs_view c.args.inputs.now)
    (asked_view c.in-Ok.asked) c.in-Ok.ensures.signed (λ valid. let yes = c.verify.ensures.1 valid in let not = c.if-not-verify.true in absurd cc))
