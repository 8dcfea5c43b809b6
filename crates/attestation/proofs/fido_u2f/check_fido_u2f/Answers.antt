-- What is owed of `check_fido_u2f`.
use Rattle.std.proofs.Common.{◌≡◌, sym, ◌∙◌, refl, ℕ, List, length, Result, Ok, Err}
use Rattle.std.specs.Prelude.{OnOk, IfErr}
use Rattle.refusal_order.specs.Lines.{Each, FirstFailing, later}
use Rattle.refusal_order.proofs.Laws.{first_at, first_along}
use Rattle.certificates.specs.Form.{Form, TbsForm, certificate_view}
use Rattle.attestation.specs.declared.refusal.AttestationRefusal.{AttestationRefusal}
use Rattle.attestation.specs.declared.refusal.AttestationRefusal.TheVariants as step
use Rattle.attestation.specs.Certified.{CertificateOf, Certified, leaf_of}
use Rattle.attestation.specs.Inputs.{Inputs, inputs_view}
use Rattle.attestation.specs.Signed.{Validity}
use Rattle.attestation.specs.FidoU2f.{PassesU2fLeaf, PassesFidoU2f, u2f_leaf_steps, fido_u2f_steps}
use Rattle.attestation.specs.Statements.{certificates_view}
use Rattle.attestation.proofs.Leaves.{first_lifted, no_leaf, passes_lifted}
use Rattle.attestation.proofs.fido_u2f.check_fido_u2f.Goals as goal

module _ (valid : Validity) (sig : List ℕ) (cs : List (List ℕ)) (i : Inputs) where
  abbrev OfLeaf : AttestationRefusal → Type 0
  OfLeaf s = Certified (λ t. PassesU2fLeaf valid sig i t s) (leaf_of cs)

  abbrev Q : AttestationRefusal → TbsForm → Type 0
  Q s t = PassesU2fLeaf valid sig i t s

  -- the step on the number of certificates, and those on the leaf
  behind_one : (e : AttestationRefusal) → length cs ≡ 1 → FirstFailing OfLeaf u2f_leaf_steps e → FirstFailing (PassesFidoU2f valid sig cs i) fido_u2f_steps e
  behind_one e one f =
      later step.NotOneCertificate u2f_leaf_steps e one
      (first_along ((λ h. h, λ h. h), ((λ h. h, λ h. h), ((λ h. h, λ h. h), ((λ h. h, λ h. h), tt)))) f)

  all_passed : {A : Type 0} (c : Form) (r : Result A AttestationRefusal) → length cs ≡ 1 → CertificateOf c (leaf_of cs)
      → OnOk r (Each (PassesU2fLeaf valid sig i c.tbs) u2f_leaf_steps) → OnOk r (Each (PassesFidoU2f valid sig cs i) fido_u2f_steps)
  all_passed c (Ok x) one is h = (one, passes_lifted Q c (leaf_of cs) is u2f_leaf_steps (Ok x) h)
  all_passed c (Err e) one is h = tt

  one_refused : {A : Type 0} (c : Form) (r : Result A AttestationRefusal) → length cs ≡ 1 → CertificateOf c (leaf_of cs)
      → IfErr r (FirstFailing (PassesU2fLeaf valid sig i c.tbs) u2f_leaf_steps) → IfErr r (FirstFailing (PassesFidoU2f valid sig cs i) fido_u2f_steps)
  one_refused c (Ok x) one is h = tt
  one_refused c (Err e) one is h = behind_one e one (first_lifted Q c (leaf_of cs) is u2f_leaf_steps e h)

pub returns-then-count-ne1-clause-refused : goal.returns-then-count-ne1-clause-refused
returns-then-count-ne1-clause-refused g c = first_at 0 refl tt (λ one. absurd (c.if-count-ne1.true (c.count.ensures ∙ one)))

pub returns-in_default-clause-refused : goal.returns-in_default-clause-refused
returns-in_default-clause-refused g c =
    behind_one (g.V.SignatureVerifier.valid c.args.verifier.now) c.args.signature.now (certificates_view c.args.certificates.now) (inputs_view c.args.inputs.now)
    step.BadCertificate (sym c.count.ensures ∙ c.if-count-ne1.false)
    (first_at 0 refl tt (no_leaf _ (leaf_of (certificates_view c.args.certificates.now)) (λ d is. c.in_default.ensures.none refl d is.is (c.leaf.ensures ∙ is.octets))))

pub returns-clause-passes : goal.returns-clause-passes
returns-clause-passes g c =
    all_passed (g.V.SignatureVerifier.valid c.args.verifier.now) c.args.signature.now (certificates_view c.args.certificates.now) (inputs_view c.args.inputs.now)
    (certificate_view c.in-Ok.certificate) c.check_content.result (sym c.count.ensures ∙ c.if-count-ne1.false)
    (record { is = c.in-Ok.ensures.found.0; octets = sym c.leaf.ensures ∙ c.in-Ok.ensures.found.1 }) c.check_content.ensures.passes

pub returns-clause-refused : goal.returns-clause-refused
returns-clause-refused g c =
    one_refused (g.V.SignatureVerifier.valid c.args.verifier.now) c.args.signature.now (certificates_view c.args.certificates.now) (inputs_view c.args.inputs.now)
    (certificate_view c.in-Ok.certificate) c.check_content.result (sym c.count.ensures ∙ c.if-count-ne1.false)
    (record { is = c.in-Ok.ensures.found.0; octets = sym c.leaf.ensures ∙ c.in-Ok.ensures.found.1 }) c.check_content.ensures.refused
