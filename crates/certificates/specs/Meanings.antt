-- What extensions of attestation certificates say, and the one encoding of each, in DER.
use Rattle.std.specs.Prelude.{◌≡◌, ℕ, ◌^◌, ◌<◌, Bool, true, List, [], ◌++◌, length, Option, Some, None, IfSome}
use Rattle.der.specs.Encoding.{element, unsigned_octets, IsDigits}
use Rattle.certificates.specs.Extensions.{critical_octets}
use Rattle.certificates.specs.Tags.{context, INTEGER, OCTET_STRING, SEQUENCE}

-- id-fido-gen-ce-aaguid, WebAuthn 8.2.1: an octet string of 16 octets
pub record IsAaguid (aaguid value : List ℕ) : Type 0 where
  pub size : length aaguid ≡ 16
  pub parts : value ≡ element OCTET_STRING aaguid

-- the nonce of Apple's anonymous attestation, WebAuthn 8.8: a sequence of [1] EXPLICIT an octet string, which is a hash of 32 octets
pub record IsNonce (nonce value : List ℕ) : Type 0 where
  pub size : length nonce ≡ 32
  pub parts : value ≡ element SEQUENCE (element (context true 1) (element OCTET_STRING nonce))

-- a number that may be absent
abbrev pub path_octets : Option (List ℕ) → List ℕ
path_octets None = []
path_octets (Some digits) = element INTEGER (unsigned_octets digits)

-- basic constraints, RFC 5280, 4.2.1.9: whether the subject is a certificate authority, which is left out where it is not, and how
-- many certificates may follow, by the digits of the number
pub record IsConstraints (authority : Bool) (path : Option (List ℕ)) (value : List ℕ) : Type 0 where
  pub digits : IfSome path IsDigits
  pub size : length (critical_octets authority ++ path_octets path) < 2 ^ 32
  pub parts : value ≡ element SEQUENCE (critical_octets authority ++ path_octets path)
