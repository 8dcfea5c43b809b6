-- HMAC (RFC 2104, section 2) by SHA-256, whose blocks have 64 bytes.
use Rattle.std.specs.Prelude.{ℕ, ◌-◌, List, ◌++◌, length, map, replicate, bit_xor}
use Rattle.sha2.specs.Sha256.{sha256}

-- the key, of at most a block, with zeros up to one, each byte of it with this one by exclusive or
abbrev pub masked : ℕ → List ℕ → List ℕ
masked mask key = map (λ byte. bit_xor byte mask) (key ++ replicate (64 - length key) 0)

-- H(K XOR opad, H(K XOR ipad, text)): ipad is of bytes 36, opad of bytes 5C (hexadecimal)
unfoldable pub hmac_sha256 : List ℕ → List ℕ → List ℕ
hmac_sha256 key message = sha256 (masked 0x5C key ++ sha256 (masked 0x36 key ++ message))
