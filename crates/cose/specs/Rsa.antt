-- Public keys of RSA (RFC 8017, section 3.1) as COSE writes them (RFC 8230, section 4): numbers as bytes, big-endian, in
-- the fewest bytes.
use Rattle.std.specs.Prelude.{◌≡◌, ◌≢◌, ◌≤◌, ◌-◌, ◌%◌, ℕ, List, [], ◌∷◌, length, slice_index}

-- the modulus and the public exponent
pub record RsaPublicKey : Type 0 where
  pub n : List ℕ
  pub e : List ℕ

-- the bytes are an odd number in the fewest bytes: the first is not zero, and the last is odd
abbrev pub IsOddNumber : List ℕ → Type 0
IsOddNumber bs = (slice_index bs 0 ≢ 0) × (slice_index bs (length bs - 1) % 2 ≡ 1)

-- the modulus has 256, 384 or 512 bytes, the multiples of 128 within the product's limits, and is odd; its highest bit is
-- set, so that it has 2,048 bits or more (RFC 8812, section 2)
abbrev pub IsModulus : List ℕ → Type 0
IsModulus n =
    (256 ≤ length n) × (length n ≤ 512) × (length n % 128 ≡ 0) × (128 ≤ slice_index n 0) × IsOddNumber n

-- the exponent has 1 to 4 bytes, the product's limit, and is odd and at least 3
abbrev pub IsExponent : List ℕ → Type 0
IsExponent e = (1 ≤ length e) × (length e ≤ 4) × IsOddNumber e × (e ≢ 1 ∷ [])

abbrev pub IsRsaKey : RsaPublicKey → Type 0
IsRsaKey k = IsModulus k.n × IsExponent k.e
