use Rattle.std.proofs.Common.{◌++◌, map, take}
use Rattle.std.specs.List.{concat}
use Rattle.sha2.specs.Hashers.{Holds256}
use Rattle.site_seal.specs.Hmac.{masked}
use Rattle.site_seal.proofs.hmac.hmac_sha256.Given as goal

abbrev pub invariant-loop-part : goal.invariant-loop-part
invariant-loop-part l = Holds256 l.inner (masked 0x36 l.key ++ concat (map (λ part. part.now) (take l.part-index l.parts)))
