-- What is owed of `check`.
use Rattle.std.proofs.Common.{ap, List, ℕ, subst}
use Rattle.std.specs.Prelude.{OnOk, IfErr}
use Rattle.refusal_order.specs.Lines.{Each, FirstFailing}
use Rattle.attestation.specs.declared.statement.Content.{Content}
use Rattle.attestation.specs.Apple.{PassesApple, apple_steps}
use Rattle.attestation.specs.Certified.{Certified}
use Rattle.attestation.specs.Inputs.{inputs_view}
use Rattle.attestation.specs.Packed.{PassesPacked, packed_steps}
use Rattle.attestation.specs.Statements.{certificates_view, content_view, self_attestation, packed, fido_u2f}
use Rattle.attestation.proofs.Formats.{passes_as, refused_as}
use Rattle.attestation.proofs.judging.check.Goals as goal

pub returns-in-SelfSigned-clause-refused : goal.returns-in-SelfSigned-clause-refused
returns-in-SelfSigned-clause-refused g c =
    let cs = certificates_view c.args.statement.now.certificates in
    refused_as (g.V.SignatureVerifier.valid c.args.verifier.now) (inputs_view c.args.inputs.now) _ (self_attestation c.in-SelfSigned.algorithm c.in-SelfSigned.signature.now)
    c.check_self.result (ap (λ (x : Content). content_view x cs) c.in-SelfSigned.is) c.check_self.ensures.refused

pub returns-in-Packed-clause-passes : goal.returns-in-Packed-clause-passes
returns-in-Packed-clause-passes g c =
    let cs = certificates_view c.args.statement.now.certificates in
    let valid = g.V.SignatureVerifier.valid c.args.verifier.now in
    let i = inputs_view c.args.inputs.now in
    passes_as valid i _ (packed c.in-Packed.algorithm c.in-Packed.signature.now cs) c.check_packed.result (ap (λ (x : Content). content_view x cs) c.in-Packed.is)
    (subst (λ (l : List ℕ). OnOk c.check_packed.result (Each (λ s. Certified (λ t. PassesPacked valid c.in-Packed.algorithm c.in-Packed.signature.now i t s) l) packed_steps))
    c.leaf-leaf.ensures c.check_packed.ensures.passes)

pub returns-in-Packed-clause-refused : goal.returns-in-Packed-clause-refused
returns-in-Packed-clause-refused g c =
    let cs = certificates_view c.args.statement.now.certificates in
    let valid = g.V.SignatureVerifier.valid c.args.verifier.now in
    let i = inputs_view c.args.inputs.now in
    refused_as valid i _ (packed c.in-Packed.algorithm c.in-Packed.signature.now cs) c.check_packed.result (ap (λ (x : Content). content_view x cs) c.in-Packed.is)
    (subst (λ (l : List ℕ). IfErr c.check_packed.result (FirstFailing (λ s. Certified (λ t. PassesPacked valid c.in-Packed.algorithm c.in-Packed.signature.now i t s) l) packed_steps))
    c.leaf-leaf.ensures c.check_packed.ensures.refused)

pub returns-in-FidoU2f-clause-refused : goal.returns-in-FidoU2f-clause-refused
returns-in-FidoU2f-clause-refused g c =
    let cs = certificates_view c.args.statement.now.certificates in
    refused_as (g.V.SignatureVerifier.valid c.args.verifier.now) (inputs_view c.args.inputs.now) _ (fido_u2f c.in-FidoU2f.signature.now cs)
    c.check_fido_u2f.result (ap (λ (x : Content). content_view x cs) c.in-FidoU2f.is) c.check_fido_u2f.ensures.refused

pub returns-in-Apple-clause-passes : goal.returns-in-Apple-clause-passes
returns-in-Apple-clause-passes g c =
    let cs = certificates_view c.args.statement.now.certificates in
    let i = inputs_view c.args.inputs.now in
    passes_as (g.V.SignatureVerifier.valid c.args.verifier.now) i _ _ c.check_apple.result (ap (λ (x : Content). content_view x cs) c.in-Apple.is)
    (subst (λ (l : List ℕ). OnOk c.check_apple.result (Each (λ s. Certified (λ t. PassesApple i t s) l) apple_steps)) c.leaf-leaf.ensures c.check_apple.ensures.passes)

pub returns-in-Apple-clause-refused : goal.returns-in-Apple-clause-refused
returns-in-Apple-clause-refused g c =
    let cs = certificates_view c.args.statement.now.certificates in
    let i = inputs_view c.args.inputs.now in
    refused_as (g.V.SignatureVerifier.valid c.args.verifier.now) i _ _ c.check_apple.result (ap (λ (x : Content). content_view x cs) c.in-Apple.is)
    (subst (λ (l : List ℕ). IfErr c.check_apple.result (FirstFailing (λ s. Certified (λ t. PassesApple i t s) l) apple_steps)) c.leaf-leaf.ensures c.check_apple.ensures.refused)
