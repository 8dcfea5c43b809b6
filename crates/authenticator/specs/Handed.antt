-- The public keys of one secret that are passed.
use Rattle.std.specs.Prelude.{◌≡◌, refl}
use Rattle.cose.specs.declared.key.SigningAlg.{SigningAlg}
use Rattle.cose.specs.declared.key.SigningAlg.TheVariants as algs
use Rattle.cose.specs.declared.key.CoseKey.{CoseKey}
use Rattle.cose.specs.declared.key.CoseKey.TheVariants as keys
use Rattle.cose.specs.Keys.{alg_of, signed_alg}
use Rattle.authenticator.specs.declared.keys.HandedKeys.{HandedKeys}

-- the one of the algorithm
abbrev pub handed_key : HandedKeys → SigningAlg → CoseKey
handed_key k algs.Es256 = keys.Es256 k.es256_x k.es256_y
handed_key k algs.EdDsa = keys.EdDsa k.eddsa_x

-- it has the algorithm
pub handed_keeps_alg : (k : HandedKeys) (alg : SigningAlg) → alg_of (handed_key k alg) ≡ signed_alg alg
handed_keeps_alg k algs.Es256 = refl
handed_keeps_alg k algs.EdDsa = refl
