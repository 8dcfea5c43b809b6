-- Which signatures are valid to a relying party whose host verifies them (WebAuthn Level 2, section 7.2, step 20; section 8.2).
use Rattle.std.specs.Prelude.{◌≡◌, ℕ, List, Option, Some, None}
use Rattle.cose.specs.Keys.{lent_key_view}
use Rattle.cose.specs.Schemes.{Validity}
use Rattle.cose.specs.declared.key.CoseKey.{CoseKey}
use Rattle.verification.specs.declared.signature.SignatureView.{SignatureView}
use Rattle.verification.specs.declared.signature.VerifiedSignature.{VerifiedSignature}

-- a public key, a message, and a signature of it
pub record Signed : Type 0 where
  pub key : CoseKey
  pub message : List ℕ
  pub signature : List ℕ

-- the only valid signature is the one that the host verified: of this key, this message, this signature; without one none is
-- valid
abbrev pub only_verified : Option Signed → Validity
only_verified None key message signature = ⊥
only_verified (Some v) key message signature = (v.key ≡ key) × (v.message ≡ message) × (v.signature ≡ signature)

abbrev pub signature_view : VerifiedSignature → Signed
signature_view s = record { key = s.key; message = s.message.items; signature = s.signature.items }

abbrev pub lent_signature_view : SignatureView → Signed
lent_signature_view s = record { key = lent_key_view s.key; message = s.message.now; signature = s.signature.now }
