-- A public key by its algorithm and its numbers: RFC 9053, section 7, and for RSA RFC 8230, section 4.
use Rattle.std.specs.Prelude.{◌≡◌, ℕ, List, length}
use Rattle.cose.specs.Rsa.{IsExponent, IsModulus}
use Rattle.cose.specs.declared.key.Alg.{Alg}
use Rattle.cose.specs.declared.key.Alg.TheVariants as algs
use Rattle.cose.specs.declared.key.CoseKey.{CoseKey}
use Rattle.cose.specs.declared.key.CoseKey.TheVariants as keys
use Rattle.verification.specs.declared.coordinates.Coordinate.{Coordinate}
use Rattle.verification.specs.declared.coordinates.Coordinate.TheVariants as coordinates

-- x: a coordinate of 32 bytes, or a modulus
abbrev pub IsX : Alg → List ℕ → Type 0
IsX algs.Es256 x = length x ≡ 32
IsX algs.EdDsa x = length x ≡ 32
IsX algs.Rs256 n = IsModulus n

-- y, where it is looked at: a coordinate of 32 bytes, or an exponent
abbrev pub IsY : Alg → List ℕ → Type 0
IsY algs.Es256 y = length y ≡ 32
IsY algs.EdDsa y = Unit {0}
IsY algs.Rs256 e = IsExponent e

abbrev pub key_with : Alg → List ℕ → List ℕ → CoseKey
key_with algs.Es256 x y = keys.Es256 x y
key_with algs.EdDsa x y = keys.EdDsa x
key_with algs.Rs256 n e = keys.Rs256 (record { n = n; e = e })

-- why they are no key of the algorithm
abbrev pub IsNot : Alg → List ℕ → List ℕ → Coordinate → Type 0
IsNot alg x y coordinates.X = IsX alg x → ⊥
IsNot alg x y coordinates.Y = IsY alg y → ⊥
