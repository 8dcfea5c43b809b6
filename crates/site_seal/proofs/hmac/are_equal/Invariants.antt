use Rattle.std.proofs.Common.{◌≡◌, ◌↔◌, take}
use Rattle.site_seal.proofs.hmac.are_equal.Given as goal

abbrev pub invariant-loop-i : goal.invariant-loop-i
invariant-loop-i l = (l.difference ≡ 0) ↔ (take l.i l.a ≡ take l.i l.b)
