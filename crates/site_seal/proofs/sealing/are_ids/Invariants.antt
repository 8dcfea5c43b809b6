use Rattle.std.proofs.Common.{map, take}
use Rattle.std.specs.List.{AllByRecursion}
use Rattle.site_seal.specs.Seal.{IsWithin}
use Rattle.site_seal.proofs.sealing.are_ids.Given as goal

abbrev pub invariant-loop-id : goal.invariant-loop-id
invariant-loop-id l = AllByRecursion (IsWithin 1023) (map (λ id. id.items) (take l.id-index l.ids))
