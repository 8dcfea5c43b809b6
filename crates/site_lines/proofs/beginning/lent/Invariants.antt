-- What the loop of `lent` keeps.
use Rattle.std.proofs.Common.{◌≡◌, map, take}
use Rattle.site_lines.proofs.beginning.lent.Given as goal

abbrev pub invariant-loop-id : goal.invariant-loop-id
invariant-loop-id l = map (λ id. id.now) l.list.items ≡ map (λ id. id.items) (take l.id-index l.ids)
