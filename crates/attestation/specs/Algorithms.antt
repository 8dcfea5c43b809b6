-- The algorithms of attestation signatures by their COSE numbers, and which keys work with each: RFC 9053, sections 2.1 and 2.2, and RFC
-- 8812, section 2. The number -1 - n is `nint n` (RFC 8949, section 3.1).
use Rattle.std.specs.Prelude.{ℕ, List}
use Rattle.ccbor.specs.Item.{Item, nint}
use Rattle.certificates.specs.Keys.{KeyForm, p256, p384, ed25519, rsa}
use Rattle.cose.specs.Rsa.{IsRsaKey}
use Rattle.attestation.specs.declared.algorithm.Algorithm.{Algorithm}
use Rattle.attestation.specs.declared.algorithm.Algorithm.TheVariants as algorithms

-- ES256 is -7, ES384 -35, EdDSA -8, RS256 -257, RS384 -258, RS512 -259 and RS1 -65535
abbrev pub argument_of : Algorithm → ℕ
argument_of algorithms.Es256 = 6
argument_of algorithms.Es384 = 34
argument_of algorithms.EdDsa = 7
argument_of algorithms.Rs256 = 256
argument_of algorithms.Rs384 = 257
argument_of algorithms.Rs512 = 258
argument_of algorithms.Rs1 = 65534

abbrev pub algorithm_item : Algorithm → Item
algorithm_item a = nint (argument_of a)

-- an RSA key as a COSE key may be: of 2,048 bits or more
abbrev pub IsStrong : List ℕ → List ℕ → Type 0
IsStrong n e = IsRsaKey (record { n = n; e = e })

-- the key works with the algorithm
abbrev pub WorksWith : Algorithm → KeyForm → Type 0
WorksWith algorithms.Es256 (p256 x y) = Unit {0}
WorksWith algorithms.Es384 (p384 x y) = Unit {0}
WorksWith algorithms.EdDsa (ed25519 k) = Unit {0}
WorksWith algorithms.Rs256 (rsa n e) = IsStrong n e
WorksWith algorithms.Rs384 (rsa n e) = IsStrong n e
WorksWith algorithms.Rs512 (rsa n e) = IsStrong n e
WorksWith algorithms.Rs1 (rsa n e) = IsStrong n e
WorksWith _ _ = ⊥
