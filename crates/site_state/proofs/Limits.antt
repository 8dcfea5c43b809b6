-- Ids within their limits.
use Rattle.std.proofs.Common.{◌<◌, ℕ, zero, suc, List, [], ◌∷◌, length, slice_index_or, map, arith}
use Rattle.std.specs.Borrow.{Bor}
use Rattle.std.specs.List.{AllByRecursion}
use Rattle.site_state.specs.Table.{IsWithin}

-- of ids that are within their limits, each one is
pub within_at : {most : ℕ} (ids : List (Bor (List ℕ))) (k : ℕ) (d : Bor (List ℕ)) → k < length ids → AllByRecursion (IsWithin most) (map (λ id. id.now) ids)
    → IsWithin most (slice_index_or ids k d).now
within_at [] k d lt all = let bad : k < 0 = lt in absurd (omega arith)
within_at (id ∷ ids) zero d lt all = all.0
within_at (id ∷ ids) (suc k) d lt all = within_at ids k d (omega arith) all.1
