-- Signatures of statements: by which key, of which algorithm, of which message.
use Rattle.std.specs.Prelude.{◌≡◌, ℕ, List}
use Rattle.certificates.specs.Keys.{KeyForm, p256, p384, ed25519, rsa, IsKey}
use Rattle.cose.specs.declared.key.CoseKey.{CoseKey}
use Rattle.cose.specs.declared.key.CoseKey.TheVariants as keys
use Rattle.attestation.specs.declared.algorithm.Algorithm.{Algorithm}
use Rattle.attestation.specs.declared.key.SigningKey.{SigningKey}
use Rattle.attestation.specs.declared.key.SigningKey.TheVariants as signing
use Rattle.attestation.specs.Algorithms.{WorksWith}

abbrev pub signing_view : SigningKey → KeyForm
signing_view (signing.P256 x y) = p256 x.now y.now
signing_view (signing.P384 x y) = p384 x.now y.now
signing_view (signing.Ed25519 k) = ed25519 k.now
signing_view (signing.Rsa n e) = rsa n.now e.now

-- a credential's key, as a certificate has it
abbrev pub credential_key : CoseKey → KeyForm
credential_key (keys.Es256 x y) = p256 x y
credential_key (keys.EdDsa x) = ed25519 x
credential_key (keys.Rs256 k) = rsa k.n k.e

-- a signature of a message by a key
pub record Signed : Type 0 where
  pub key : KeyForm
  pub algorithm : Algorithm
  pub message : List ℕ
  pub signature : List ℕ

-- which signatures are valid
abbrev pub Validity : Type 1
Validity = Signed → Type 0

-- the certificate's key works with the algorithm
abbrev pub HasKeyOf : Algorithm → List ℕ → Type 0
HasKeyOf algorithm info = (k : KeyForm) × IsKey k info × WorksWith algorithm k

-- this is a signature by the certificate's key, which works with the algorithm
abbrev pub IsBy : List ℕ → Algorithm → List ℕ → List ℕ → Signed → Type 0
IsBy info algorithm message signature s =
    (k : KeyForm) × IsKey k info × WorksWith algorithm k
    × (s ≡ record { key = k; algorithm = algorithm; message = message; signature = signature })

-- and it is valid
abbrev pub IsSignedBy : Validity → List ℕ → Algorithm → List ℕ → List ℕ → Type 0
IsSignedBy valid info algorithm message signature = (s : Signed) × IsBy info algorithm message signature s × valid s
