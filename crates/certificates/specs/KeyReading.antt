-- Reading a key from left to right.
use Rattle.std.specs.Prelude.{ℕ, ◌*◌, List, [], ◌∷◌, length, take, drop, Option, Some, None, option_map, Result, Ok, Err, ◌==◌, if◌then◌else◌}
use Rattle.std.specs.Str.{bytes_eq}
use Rattle.der.specs.Reading.{unsigned_in}
use Rattle.certificates.specs.declared.error.Error.{Error}
use Rattle.certificates.specs.Tags.{INTEGER, BIT_STRING, SEQUENCE}
use Rattle.certificates.specs.Keys.{KeyForm, p256, p384, ed25519, rsa}
use Rattle.certificates.specs.Steps.{◌>>=◌, lifted, field_at, whole_field_at}

-- the algorithm, and the content of the bit string
unfoldable pub info_at : List ℕ → Result (List ℕ × List ℕ) Error
info_at bs = do
  algorithm ← field_at SEQUENCE bs
  bits ← whole_field_at BIT_STRING algorithm.1
  Ok (algorithm.0, bits)

-- the content of each algorithm's identifier
abbrev pub p256_algorithm : List ℕ
p256_algorithm = 0x06 ∷ 0x07 ∷ 0x2a ∷ 0x86 ∷ 0x48 ∷ 0xce ∷ 0x3d ∷ 0x02 ∷ 0x01 ∷ 0x06 ∷ 0x08 ∷ 0x2a ∷ 0x86 ∷ 0x48 ∷ 0xce ∷ 0x3d ∷ 0x03 ∷ 0x01 ∷ 0x07 ∷ []

abbrev pub p384_algorithm : List ℕ
p384_algorithm = 0x06 ∷ 0x07 ∷ 0x2a ∷ 0x86 ∷ 0x48 ∷ 0xce ∷ 0x3d ∷ 0x02 ∷ 0x01 ∷ 0x06 ∷ 0x05 ∷ 0x2b ∷ 0x81 ∷ 0x04 ∷ 0x00 ∷ 0x22 ∷ []

abbrev pub ed25519_algorithm : List ℕ
ed25519_algorithm = 0x06 ∷ 0x03 ∷ 0x2b ∷ 0x65 ∷ 0x70 ∷ []

abbrev pub rsa_algorithm : List ℕ
rsa_algorithm = 0x06 ∷ 0x09 ∷ 0x2a ∷ 0x86 ∷ 0x48 ∷ 0x86 ∷ 0xf7 ∷ 0x0d ∷ 0x01 ∷ 0x01 ∷ 0x01 ∷ 0x05 ∷ 0x00 ∷ []

-- the coordinates of an uncompressed point, of so many octets each
unfoldable pub point_in : ℕ → List ℕ → Option (List ℕ × List ℕ)
point_in size [] = None
point_in size (form ∷ rest) =
    if form == 4 then (if length rest == 2 * size then Some (take size rest, drop size rest) else None) else None

-- the modulus and the exponent
unfoldable pub rsa_at : List ℕ → Result (List ℕ × List ℕ) Error
rsa_at bs = do
  content ← whole_field_at SEQUENCE bs
  modulus ← field_at INTEGER content
  exponent ← whole_field_at INTEGER modulus.1
  n ← lifted (unsigned_in modulus.0)
  e ← lifted (unsigned_in exponent)
  Ok (n, e)

abbrev pub from_rsa : Result (List ℕ × List ℕ) Error → Option KeyForm
from_rsa (Ok x) = Some (rsa x.0 x.1)
from_rsa (Err e) = None

unfoldable pub known_key : List ℕ → List ℕ → Option KeyForm
known_key algorithm octets =
    if bytes_eq algorithm p256_algorithm then option_map (λ x. p256 x.0 x.1) (point_in 32 octets)
    else if bytes_eq algorithm p384_algorithm then option_map (λ x. p384 x.0 x.1) (point_in 48 octets)
    else if bytes_eq algorithm ed25519_algorithm then (if length octets == 32 then Some (ed25519 octets) else None)
    else if bytes_eq algorithm rsa_algorithm then from_rsa (rsa_at octets)
    else None

-- the bit string is of whole octets
unfoldable pub key_in : List ℕ → List ℕ → Option KeyForm
key_in algorithm [] = None
key_in algorithm (unused ∷ octets) = if unused == 0 then known_key algorithm octets else None
