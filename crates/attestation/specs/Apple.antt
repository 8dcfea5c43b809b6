-- Apple anonymous attestation: WebAuthn Level 2, section 8.8.
use Rattle.std.specs.Prelude.{ℕ, List, [], ◌∷◌, ◌++◌, Option, IsSomeAnd}
use Rattle.sha2.specs.Sha256.{sha256}
use Rattle.certificates.specs.Form.{TbsForm}
use Rattle.certificates.specs.Extensions.{ExtensionForm}
use Rattle.certificates.specs.Keys.{IsKey}
use Rattle.certificates.specs.Meanings.{IsNonce}
use Rattle.attestation.specs.declared.refusal.AttestationRefusal.{AttestationRefusal}
use Rattle.attestation.specs.declared.refusal.AttestationRefusal.TheVariants as step
use Rattle.attestation.specs.Certified.{Extends}
use Rattle.attestation.specs.Inputs.{Inputs}
use Rattle.attestation.specs.Signed.{credential_key}

-- 1.2.840.113635.100.8.2
abbrev pub apple_nonce : List ℕ
apple_nonce = 0x2a ∷ 0x86 ∷ 0x48 ∷ 0x86 ∷ 0xf7 ∷ 0x63 ∷ 0x64 ∷ 0x08 ∷ 0x02 ∷ []

-- SHA-256 of the authenticator data and then the hash of the client data
abbrev pub nonce_of : Inputs → List ℕ
nonce_of i = sha256 (i.auth_data ++ i.hash)

-- the extension is there, and says this nonce
abbrev pub IsNonceOf : List ℕ → Option ExtensionForm → Type 0
IsNonceOf nonce found = IsSomeAnd found (λ e. IsNonce nonce e.value)

abbrev pub HasNonce : Option (List ℕ) → List ℕ → Type 0
HasNonce extensions nonce = Extends extensions apple_nonce (IsNonceOf nonce)

-- what is asked of the leaf's content
abbrev pub PassesApple : Inputs → TbsForm → AttestationRefusal → Type 0
-- it can be read
PassesApple i t step.BadCertificate = Unit {0}
-- its nonce is that of the authenticator data and the hash
PassesApple i t step.WrongNonce = HasNonce t.extensions (nonce_of i)
-- its key is the credential's
PassesApple i t step.OtherKey = IsKey (credential_key i.credential.key) t.key
PassesApple i t _ = ⊥

abbrev pub apple_steps : List AttestationRefusal
apple_steps = step.BadCertificate ∷ step.WrongNonce ∷ step.OtherKey ∷ []
