-- Signatures by the key of a certificate.
use Rattle.std.proofs.Common.{◌≡◌, ℕ, List, Option, Some, None, MatchOption, subst, sym, ap, ◌∙◌}
use Rattle.certificates.specs.Form.{Form, TbsForm}
use Rattle.certificates.specs.Keys.{KeyForm, IsKey}
use Rattle.certificates.proofs.Unique.{one_key}
use Rattle.attestation.specs.declared.algorithm.Algorithm.{Algorithm}
use Rattle.attestation.specs.declared.signature.AskedSignature.{AskedSignature}
use Rattle.attestation.specs.Asked.{asked_view}
use Rattle.attestation.specs.Certified.{CertificateOf, Certified}
use Rattle.attestation.proofs.Leaves.{uncertified}
use Rattle.attestation.specs.Signed.{Signed, Validity, HasKeyOf, IsBy, IsSignedBy}

abbrev made : KeyForm → Algorithm → List ℕ → List ℕ → Signed
made k algorithm message signature = record { key = k; algorithm = algorithm; message = message; signature = signature }

-- a certificate has one key
pub not_key : (P : KeyForm → Type 0) (k : KeyForm) (info : List ℕ) → IsKey k info → (P k → ⊥) → (l : KeyForm) → IsKey l info → P l → ⊥
not_key P k info is not l other p = not (subst P (one_key l k info other is) p)

module _ (info : List ℕ) (algorithm : Algorithm) (signature : List ℕ) where
  pub one_signed : (message : List ℕ) (s t : Signed) → IsBy info algorithm message signature s → IsBy info algorithm message signature t → s ≡ t
  one_signed message s t h k =
      h.3 ∙ ap (λ (key : KeyForm). made key algorithm message signature) (one_key h.0 k.0 info h.1 k.1) ∙ sym k.3

  pub has_key : (message : List ℕ) (s : Signed) → IsBy info algorithm message signature s → HasKeyOf algorithm info
  has_key message s h = (h.0, h.1, h.2)

  -- the message by another name
  pub same_message : (m n : List ℕ) (s : Signed) → m ≡ n → IsBy info algorithm m signature s → IsBy info algorithm n signature s
  same_message m n s e h = subst (λ (l : List ℕ). IsBy info algorithm l signature s) e h

  pub signed_by : (valid : Validity) (message : List ℕ) (s : Signed) → IsBy info algorithm message signature s → valid s
      → IsSignedBy valid info algorithm message signature
  signed_by valid message s h v = (s, h, v)

  pub unsigned : (valid : Validity) (message : List ℕ) (s : Signed) → IsBy info algorithm message signature s → (valid s → ⊥)
      → IsSignedBy valid info algorithm message signature → ⊥
  unsigned valid message s h not k = not (subst valid (one_signed message k.0 s k.1 h) k.2)

-- a signature by the key of a certificate's content is one by that of the certificate
pub maybe_signed : (c : Form) (bs : List ℕ) → CertificateOf c bs → (Y : TbsForm → Signed → Type 0) (r : Option AskedSignature)
    → MatchOption r ((s : Signed) → Y c.tbs s → ⊥) (λ a. Y c.tbs (asked_view a))
    → MatchOption r ((s : Signed) → Certified (λ t. Y t s) bs → ⊥) (λ a. Certified (λ t. Y t (asked_view a)) bs)
maybe_signed c bs is Y (Some a) h = (c, is, h)
maybe_signed c bs is Y None h = λ s. uncertified (λ t. Y t s) c bs is (h s)

pub maybe_by : (info : List ℕ) (algorithm : Algorithm) (m n signature : List ℕ) (r : Option AskedSignature) → m ≡ n
    → MatchOption r (HasKeyOf algorithm info → ⊥) (λ a. IsBy info algorithm m signature (asked_view a))
    → MatchOption r ((s : Signed) → IsBy info algorithm n signature s → ⊥) (λ a. IsBy info algorithm n signature (asked_view a))
maybe_by info algorithm m n signature (Some a) e h = same_message info algorithm signature m n (asked_view a) e h
maybe_by info algorithm m n signature None e h = λ s k. h (has_key info algorithm signature n s k)
