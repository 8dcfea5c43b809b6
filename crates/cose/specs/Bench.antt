-- The insecure scheme for tests, over SHA-256 of FIPS 180-4.
use Rattle.std.specs.Prelude.{◌≡◌, refl, ℕ, List, ◌++◌}
use Rattle.sha2.specs.Sha256.{sha256}
use Rattle.cose.specs.declared.key.CoseKey.{CoseKey}
use Rattle.cose.specs.declared.key.CoseKey.TheVariants as keys
use Rattle.cose.specs.declared.key.SigningAlg.{SigningAlg}
use Rattle.cose.specs.declared.key.SigningAlg.TheVariants as algs
use Rattle.cose.specs.Keys.{alg_of, signed_alg, x_of}

-- the signature is the digest of the key's x and the message
abbrev pub bench_valid : CoseKey → List ℕ → List ℕ → Type 0
bench_valid key message sig = sig ≡ sha256 (x_of key ++ message)

-- the key of a secret
abbrev pub bench_public : SigningAlg → List ℕ → CoseKey
bench_public algs.Es256 secret = keys.Es256 (sha256 secret) (sha256 (sha256 secret))
bench_public algs.EdDsa secret = keys.EdDsa (sha256 secret)

-- the key has the algorithm
pub bench_keeps_alg : (alg : SigningAlg) (secret : List ℕ) → alg_of (bench_public alg secret) ≡ signed_alg alg
bench_keeps_alg algs.Es256 secret = refl
bench_keeps_alg algs.EdDsa secret = refl
