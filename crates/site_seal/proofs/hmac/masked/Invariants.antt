use Rattle.std.proofs.Common.{◌≡◌, ◌++◌, ◌-◌, map, take, replicate}
use Rattle.std.specs.Prelude.{bit_xor}
use Rattle.site_seal.proofs.hmac.masked.Given as goal

abbrev pub invariant-loop-i : goal.invariant-loop-i
invariant-loop-i l = l.block ≡ map (λ byte. bit_xor byte l.mask) (take l.i l.key) ++ replicate (64 - l.i) l.mask
