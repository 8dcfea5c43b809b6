-- What the loop of `are_ids` keeps.
use Rattle.std.proofs.Common.{◌≡◌, map, take}
use Rattle.std.specs.List.{AllByRecursion}
use Rattle.authdata.specs.Profiles.{max_id}
use Rattle.site_state.specs.Table.{IsWithin}
use Rattle.site_state.proofs.sessions.are_ids.Given as goal

abbrev pub invariant-loop-id : goal.invariant-loop-id
invariant-loop-id l = AllByRecursion (IsWithin (max_id l.fn.profile)) (map (λ id. id.now) (take l.id-index l.ids)) × (l.most ≡ max_id l.fn.profile)
