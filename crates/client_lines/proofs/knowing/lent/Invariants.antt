-- What the loop of `lent` keeps.
use Rattle.std.proofs.Common.{◌≡◌, map, take}
use Rattle.client_lines.proofs.knowing.lent.Given as goal

abbrev pub invariant-loop-bytes : goal.invariant-loop-bytes
invariant-loop-bytes l = map (λ b. b.now) l.lent.items ≡ map (λ v. v.items) (take l.bytes-index l.list)
