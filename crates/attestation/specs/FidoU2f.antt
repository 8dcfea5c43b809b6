-- FIDO U2F attestation: WebAuthn Level 2, section 8.6.
use Rattle.std.specs.Prelude.{◌≡◌, ℕ, List, [], ◌∷◌, length}
use Rattle.cose.specs.declared.key.CoseKey.{CoseKey}
use Rattle.cose.specs.declared.key.CoseKey.TheVariants as keys
use Rattle.certificates.specs.Form.{TbsForm}
use Rattle.attestation.specs.declared.algorithm.Algorithm.TheVariants as algorithms
use Rattle.attestation.specs.declared.refusal.AttestationRefusal.{AttestationRefusal}
use Rattle.attestation.specs.declared.refusal.AttestationRefusal.TheVariants as step
use Rattle.attestation.specs.Certified.{Certified, leaf_of}
use Rattle.attestation.specs.Inputs.{Inputs}
use Rattle.attestation.specs.Messages.{u2f_message}
use Rattle.attestation.specs.Signed.{Signed, Validity, HasKeyOf, IsBy}

-- the credential's key is this point
abbrev pub IsPoint : CoseKey → List ℕ → List ℕ → Type 0
IsPoint key x y = key ≡ keys.Es256 x y

abbrev pub HasPoint : CoseKey → Type 0
HasPoint key = (x : List ℕ) × (y : List ℕ) × IsPoint key x y

-- the signature by the certificate's key, of ES256, over the message of 8.6
abbrev pub IsU2fSigned : List ℕ → List ℕ → Inputs → Signed → Type 0
IsU2fSigned info sig i s =
    (x : List ℕ) × (y : List ℕ) × IsPoint i.credential.key x y
    × IsBy info algorithms.Es256 (u2f_message i.rp_id_hash i.hash i.credential.id x y) sig s

-- what is asked of the certificate's content
abbrev pub PassesU2fLeaf : Validity → List ℕ → Inputs → TbsForm → AttestationRefusal → Type 0
-- it can be read
PassesU2fLeaf valid sig i t step.BadCertificate = Unit {0}
-- its key is a point of P-256
PassesU2fLeaf valid sig i t step.OtherAlgorithm = HasKeyOf algorithms.Es256 t.key
-- so is the credential's
PassesU2fLeaf valid sig i t step.OtherCredentialKey = HasPoint i.credential.key
-- sig is a signature by the certificate's key
PassesU2fLeaf valid sig i t step.BadSignature = (s : Signed) × IsU2fSigned t.key sig i s × valid s
PassesU2fLeaf valid sig i t _ = ⊥

abbrev pub u2f_leaf_steps : List AttestationRefusal
u2f_leaf_steps = step.BadCertificate ∷ step.OtherAlgorithm ∷ step.OtherCredentialKey ∷ step.BadSignature ∷ []

abbrev pub PassesFidoU2f : Validity → List ℕ → List (List ℕ) → Inputs → AttestationRefusal → Type 0
-- there is exactly one certificate
PassesFidoU2f valid sig cs i step.NotOneCertificate = length cs ≡ 1
PassesFidoU2f valid sig cs i s = Certified (λ t. PassesU2fLeaf valid sig i t s) (leaf_of cs)

abbrev pub fido_u2f_steps : List AttestationRefusal
fido_u2f_steps = step.NotOneCertificate ∷ u2f_leaf_steps

-- why a statement can be signed by no such key
abbrev pub IsUnsigned : List ℕ → Inputs → AttestationRefusal → Type 0
IsUnsigned info i step.OtherAlgorithm = HasKeyOf algorithms.Es256 info → ⊥
IsUnsigned info i step.OtherCredentialKey = HasKeyOf algorithms.Es256 info × (HasPoint i.credential.key → ⊥)
IsUnsigned info i _ = ⊥
