-- What the loop of `ids_of` keeps.
use Rattle.std.proofs.Common.{◌≡◌, map, take}
use Rattle.site_lines.proofs.acting.ids_of.Given as goal

abbrev pub invariant-loop-row : goal.invariant-loop-row
invariant-loop-row l = map (λ id. id.now) l.list.items ≡ map (λ r. r.id.items) (take l.row-index l.rows)
