-- The subject's public key and its one encoding: RFC 5280, 4.1.2.7, with the algorithms of RFC 3279, 2.3.1 (RSA), RFC 5480, 2 (points
-- of curves) and RFC 8410, 3 and 4 (Ed25519), in DER.
use Rattle.std.specs.Prelude.{◌≡◌, ℕ, ◌^◌, ◌<◌, List, [], ◌∷◌, ◌++◌, length, Option, Some, None}
use Rattle.der.specs.Encoding.{element, unsigned_octets, IsDigits}
use Rattle.certificates.specs.declared.key.PublicKey.{PublicKey}
use Rattle.certificates.specs.declared.key.PublicKey.TheVariants as keys
use Rattle.certificates.specs.Tags.{INTEGER, BIT_STRING, OBJECT_IDENTIFIER, SEQUENCE, NULL}

-- a key, without where it lies in memory
pub data KeyForm : Type 0 where
  p256 : List ℕ → List ℕ → KeyForm
  p384 : List ℕ → List ℕ → KeyForm
  ed25519 : List ℕ → KeyForm
  rsa : List ℕ → List ℕ → KeyForm

-- another key is none of these
abbrev pub key_view : PublicKey → Option KeyForm
key_view (keys.P256 x y) = Some (p256 x.now y.now)
key_view (keys.P384 x y) = Some (p384 x.now y.now)
key_view (keys.Ed25519 k) = Some (ed25519 k.now)
key_view (keys.Rsa n e) = Some (rsa n.now e.now)
key_view keys.Other = None

-- 1.2.840.10045.2.1, RFC 5480, 2.1.1
abbrev pub ec_public_key : List ℕ
ec_public_key = 0x2a ∷ 0x86 ∷ 0x48 ∷ 0xce ∷ 0x3d ∷ 0x02 ∷ 0x01 ∷ []

-- 1.2.840.10045.3.1.7 and 1.3.132.0.34, RFC 5480, 2.1.1.1
abbrev pub secp256r1 : List ℕ
secp256r1 = 0x2a ∷ 0x86 ∷ 0x48 ∷ 0xce ∷ 0x3d ∷ 0x03 ∷ 0x01 ∷ 0x07 ∷ []

abbrev pub secp384r1 : List ℕ
secp384r1 = 0x2b ∷ 0x81 ∷ 0x04 ∷ 0x00 ∷ 0x22 ∷ []

-- 1.3.101.112, RFC 8410, 3: with no parameters
abbrev pub id_ed25519 : List ℕ
id_ed25519 = 0x2b ∷ 0x65 ∷ 0x70 ∷ []

-- 1.2.840.113549.1.1.1, RFC 3279, 2.3.1: with the parameters NULL
abbrev pub rsa_encryption : List ℕ
rsa_encryption = 0x2a ∷ 0x86 ∷ 0x48 ∷ 0x86 ∷ 0xf7 ∷ 0x0d ∷ 0x01 ∷ 0x01 ∷ 0x01 ∷ []

abbrev pub algorithm_octets : KeyForm → List ℕ
algorithm_octets (p256 x y) = element OBJECT_IDENTIFIER ec_public_key ++ element OBJECT_IDENTIFIER secp256r1
algorithm_octets (p384 x y) = element OBJECT_IDENTIFIER ec_public_key ++ element OBJECT_IDENTIFIER secp384r1
algorithm_octets (ed25519 k) = element OBJECT_IDENTIFIER id_ed25519
algorithm_octets (rsa n e) = element OBJECT_IDENTIFIER rsa_encryption ++ element NULL []

-- A point is uncompressed (RFC 5480, 2.2). An RSA key is two integers (RFC 3279, 2.3.1).
abbrev pub key_octets : KeyForm → List ℕ
key_octets (p256 x y) = 0x04 ∷ (x ++ y)
key_octets (p384 x y) = 0x04 ∷ (x ++ y)
key_octets (ed25519 k) = k
key_octets (rsa n e) = element SEQUENCE (element INTEGER (unsigned_octets n) ++ element INTEGER (unsigned_octets e))

-- the content of a SubjectPublicKeyInfo (RFC 5280, 4.1): the algorithm, and a bit string of this content
abbrev pub info_octets : List ℕ → List ℕ → List ℕ
info_octets algorithm bits = element SEQUENCE algorithm ++ element BIT_STRING bits

pub record IsInfo (algorithm bits info : List ℕ) : Type 0 where
  pub parts : info ≡ info_octets algorithm bits
  pub algorithm_size : length algorithm < 2 ^ 32
  pub bits_size : length bits < 2 ^ 32

-- which keys are read here: both coordinates of a point of P-256 have 32 octets, of P-384 48; a key of Ed25519 has 32
abbrev pub Fits : KeyForm → Type 0
Fits (p256 x y) = (length x ≡ 32) × (length y ≡ 32)
Fits (p384 x y) = (length x ≡ 48) × (length y ≡ 48)
Fits (ed25519 k) = length k ≡ 32
Fits (rsa n e) = IsDigits n × IsDigits e

-- the content is that of this key
pub record IsKey (k : KeyForm) (info : List ℕ) : Type 0 where
  pub fits : Fits k
  pub is : IsInfo (algorithm_octets k) (0 ∷ key_octets k) info
