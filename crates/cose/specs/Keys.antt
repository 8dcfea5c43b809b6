-- COSE keys and their CBOR values: RFC 9052, section 7, RFC 9053, section 7, and for RSA RFC 8230, section 4. The
-- negative number -1 - n is `nint n` as a CBOR item (RFC 8949, section 3.1) and `negsuc n` as a number.
use Rattle.std.specs.Prelude.{◌≡◌, ◌+◌, ℕ, ℤ, negsuc, List, length}
use Rattle.ccbor.specs.Item.{Item, uint, nint, bytes, map, no_pairs, pair}
use Rattle.cose.specs.declared.key.Alg.{Alg}
use Rattle.cose.specs.declared.key.Alg.TheVariants as algs
use Rattle.cose.specs.declared.key.SigningAlg.{SigningAlg}
use Rattle.cose.specs.declared.key.SigningAlg.TheVariants as signing
use Rattle.cose.specs.declared.key.CoseKey.{CoseKey}
use Rattle.cose.specs.declared.key.CoseKey.TheVariants as keys
use Rattle.cose.specs.declared.key.KeyView.{KeyView}
use Rattle.cose.specs.declared.key.KeyView.TheVariants as views
use Rattle.cose.specs.Rsa.{IsRsaKey}

-- the algorithm of a key
abbrev pub alg_of : CoseKey → Alg
alg_of (keys.Es256 x y) = algs.Es256
alg_of (keys.EdDsa x) = algs.EdDsa
alg_of (keys.Rs256 k) = algs.Rs256

-- an algorithm's number is -1 - n: ES256 is -7 (RFC 9053, section 2.1), EdDSA is -8 (section 2.2), RS256 is -257
-- (RFC 8812, section 2)
abbrev pub argument_of : Alg → ℕ
argument_of algs.Es256 = 6
argument_of algs.EdDsa = 7
argument_of algs.Rs256 = 256

-- the algorithm by which a signature of a signer is valid
abbrev pub signed_alg : SigningAlg → Alg
signed_alg signing.Es256 = algs.Es256
signed_alg signing.EdDsa = algs.EdDsa

abbrev pub number_of : Alg → ℤ
number_of alg = negsuc (argument_of alg)

-- an algorithm's number as a CBOR item
abbrev pub alg_item : Alg → Item
alg_item alg = nint (argument_of alg)

-- the x coordinate; of an RSA key its modulus
abbrev pub x_of : CoseKey → List ℕ
x_of (keys.Es256 x y) = x
x_of (keys.EdDsa x) = x
x_of (keys.Rs256 k) = k.n

-- the common members (RFC 9052, section 7.1): 1 kty, 2 for EC2 and 1 for OKP (RFC 9053, section 7), 3 for RSA (RFC
-- 8230, section 4); 3 alg. For ES256 (RFC 9053, section 7.1.1): -1 crv, 1 for P-256; -2 x; -3 y. For EdDSA (RFC 9053,
-- section 7.2): -1 crv, 6 for Ed25519; -2 x. For RS256 (RFC 8230, section 4): -1 n; -2 e.
abbrev pub item_of : CoseKey → Item
item_of (keys.Es256 x y) =
    map (pair (uint 1) (uint 2)
    (pair (uint 3) (alg_item algs.Es256)
    (pair (nint 0) (uint 1)
    (pair (nint 1) (bytes x)
    (pair (nint 2) (bytes y) no_pairs)))))
item_of (keys.EdDsa x) =
    map (pair (uint 1) (uint 1)
    (pair (uint 3) (alg_item algs.EdDsa)
    (pair (nint 0) (uint 6)
    (pair (nint 1) (bytes x) no_pairs))))
item_of (keys.Rs256 k) =
    map (pair (uint 1) (uint 3)
    (pair (uint 3) (alg_item algs.Rs256)
    (pair (nint 0) (bytes k.n)
    (pair (nint 1) (bytes k.e) no_pairs))))

-- each coordinate has 32 bytes: RFC 9053, sections 7.1.1 and 7.2; a modulus and an exponent are in their one form
abbrev pub IsKey : CoseKey → Type 0
IsKey (keys.Es256 x y) = (length x ≡ 32) × (length y ≡ 32)
IsKey (keys.EdDsa x) = length x ≡ 32
IsKey (keys.Rs256 k) = IsRsaKey k

-- the item is the key's value
abbrev pub KeyOf : CoseKey → Item → Type 0
KeyOf key v = IsKey key × (v ≡ item_of key)

-- how many bytes a key's value is in canonical CBOR
abbrev pub encoded_length : CoseKey → ℕ
encoded_length (keys.Es256 x y) = 77
encoded_length (keys.EdDsa x) = 42
encoded_length (keys.Rs256 k) = 13 + length k.n + length k.e

-- the key that is lent
abbrev pub lent_key_view : KeyView → CoseKey
lent_key_view (views.Es256 x y) = keys.Es256 x y
lent_key_view (views.EdDsa x) = keys.EdDsa x
lent_key_view (views.Rs256 k) = keys.Rs256 (record { n = k.n.now; e = k.e.now })
