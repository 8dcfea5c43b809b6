-- What a leaf certificate has, from what was read of it.
use Rattle.std.proofs.Common.{◌≡◌, ℕ, List, [], ◌∷◌, Result, Ok, Err, subst}
use Rattle.std.specs.Prelude.{OnOk, IfErr}
use Rattle.refusal_order.specs.Lines.{Each, FirstFailing}
use Rattle.refusal_order.proofs.Laws.{first_along}
use Rattle.certificates.specs.Form.{Form, TbsForm}
use Rattle.certificates.proofs.Unique.{one_certificate}
use Rattle.attestation.specs.Certified.{CertificateOf, Certified}

pub one_leaf : (c d : Form) (bs : List ℕ) → CertificateOf c bs → CertificateOf d bs → c ≡ d
one_leaf c d bs h k = one_certificate c d bs h.is k.is h.octets k.octets

-- what does not hold of the certificate that the bytes are
pub uncertified : (P : TbsForm → Type 0) (c : Form) (bs : List ℕ) → CertificateOf c bs → (P c.tbs → ⊥) → Certified P bs → ⊥
uncertified P c bs is not h = not (subst (λ (f : Form). P f.tbs) (one_leaf h.0 c bs h.1 is) h.2)

-- where they are none, nothing holds
pub no_leaf : (P : TbsForm → Type 0) (bs : List ℕ) → ((c : Form) → CertificateOf c bs → ⊥) → Certified P bs → ⊥
no_leaf P bs none h = none h.0 h.1

-- steps on its content are steps on the bytes
module _ {L : Type 0} (Q : L → TbsForm → Type 0) (c : Form) (bs : List ℕ) (is : CertificateOf c bs) where
  abbrev On : L → Type 0
  On s = Q s c.tbs

  abbrev OfBytes : L → Type 0
  OfBytes s = Certified (Q s) bs

  each_lifted : (lines : List L) → Each On lines → Each OfBytes lines
  each_lifted [] h = tt
  each_lifted (s ∷ lines) h = ((c, is, h.0), each_lifted lines h.1)

  both : (lines : List L) → Each (λ s. (On s → OfBytes s) × ((On s → ⊥) → OfBytes s → ⊥)) lines
  both [] = tt
  both (s ∷ lines) = ((λ h. (c, is, h), λ not h. uncertified (Q s) c bs is not h), both lines)

  pub passes_lifted : {A : Type 0} (lines : List L) (r : Result A L) → OnOk r (Each On lines) → OnOk r (Each OfBytes lines)
  passes_lifted lines (Ok x) h = each_lifted lines h
  passes_lifted lines (Err e) h = tt

  pub first_lifted : (lines : List L) (line : L) → FirstFailing On lines line → FirstFailing OfBytes lines line
  first_lifted lines line f = first_along (both lines) f

  pub refused_lifted : {A : Type 0} (lines : List L) (r : Result A L) → IfErr r (FirstFailing On lines) → IfErr r (FirstFailing OfBytes lines)
  refused_lifted lines (Ok x) h = tt
  refused_lifted lines (Err e) h = first_lifted lines e h
