-- What is owed of `signature_asked`.
use Rattle.std.proofs.Common.{MatchOption, ap, List, ℕ, subst}
use Rattle.attestation.specs.declared.statement.Content.{Content}
use Rattle.attestation.specs.Asked.{asked_view}
use Rattle.attestation.specs.Certified.{Certified}
use Rattle.attestation.specs.FidoU2f.{IsU2fSigned}
use Rattle.attestation.specs.Inputs.{inputs_view}
use Rattle.attestation.specs.Messages.{response_message}
use Rattle.attestation.specs.Signed.{Signed, IsBy}
use Rattle.attestation.specs.Statements.{certificates_view, content_view, packed, fido_u2f}
use Rattle.attestation.proofs.Formats.{asks_as}
use Rattle.attestation.proofs.judging.signature_asked.Goals as goal

pub returns-in-Packed : goal.returns-in-Packed
returns-in-Packed c =
    let cs = certificates_view c.args.statement.now.certificates in
    let i = inputs_view c.args.inputs.now in
    let m = response_message i.auth_data i.hash in
    asks_as i _ (packed c.in-Packed.algorithm c.in-Packed.signature.now cs) c.packed_signature.result (ap (λ (x : Content). content_view x cs) c.in-Packed.is)
    (subst (λ (l : List ℕ). MatchOption c.packed_signature.result ((s : Signed) → Certified (λ t. IsBy t.key c.in-Packed.algorithm m c.in-Packed.signature.now s) l → ⊥)
    (λ a. Certified (λ t. IsBy t.key c.in-Packed.algorithm m c.in-Packed.signature.now (asked_view a)) l)) c.leaf-leaf.ensures c.packed_signature.ensures)

pub returns-in-FidoU2f : goal.returns-in-FidoU2f
returns-in-FidoU2f c =
    let cs = certificates_view c.args.statement.now.certificates in
    let i = inputs_view c.args.inputs.now in
    asks_as i _ (fido_u2f c.in-FidoU2f.signature.now cs) c.fido_u2f_signature.result (ap (λ (x : Content). content_view x cs) c.in-FidoU2f.is)
    (subst (λ (l : List ℕ). MatchOption c.fido_u2f_signature.result ((s : Signed) → Certified (λ t. IsU2fSigned t.key c.in-FidoU2f.signature.now i s) l → ⊥)
    (λ a. Certified (λ t. IsU2fSigned t.key c.in-FidoU2f.signature.now i (asked_view a)) l)) c.leaf-leaf.ensures c.fido_u2f_signature.ensures)
