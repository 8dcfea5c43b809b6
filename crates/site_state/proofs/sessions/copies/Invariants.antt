-- What the loop of `copies` keeps.
use Rattle.std.proofs.Common.{◌≡◌, map, take}
use Rattle.site_state.proofs.sessions.copies.Given as goal

abbrev pub invariant-loop-id : goal.invariant-loop-id
invariant-loop-id l = map (λ id. id.items) l.copies.items ≡ map (λ id. id.now) (take l.id-index l.ids)
