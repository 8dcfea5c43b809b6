-- What the loop of `count_rows` keeps.
use Rattle.std.proofs.Common.{◌≡◌, ◌≤◌, ◌+◌, ℕ, IsSome, List, Some, length}
use Rattle.std.specs.List.{AllByRecursion}
use Rattle.sqlite_value.specs.Order.{Row as Columns}
use Rattle.sqlite_trees.specs.Tree.{Trees}
use Rattle.sqlite_trees.specs.View.{IsClean, KeepsSchema}
use Rattle.site_rows.specs.Held.{IsSameView}
use Rattle.site_stored.specs.Private.{IsUpTo}
use Rattle.site_stored.proofs.open.count_rows.Given as goal

abbrev pub invariant-loop-count : goal.invariant-loop-count
invariant-loop-count g l =
    IsSome ((g.S.Store.view l.store).cursors 0)
    × IsSameView (g.S.Store.view l.fn.store) (g.S.Store.view l.store)
    × ((db : Trees) → g.S.Store.recovers l.store db → g.S.Store.recovers l.fn.store db)
    × (IsClean (g.S.Store.view l.store) → (left : List Columns) × ((g.S.Store.view l.store).cursors 0 ≡ Some left)
    × (length ((g.S.Store.view l.fn.store).trees 0) ≡ l.count + length left)
    × ((most : ℕ) → l.last ≤ most → AllByRecursion (IsUpTo most) left → AllByRecursion (IsUpTo most) ((g.S.Store.view l.fn.store).trees 0)))
    × (g.S.Store.faults l.fn.store ≤ g.S.Store.faults l.store)
    × KeepsSchema (g.S.Store.view l.fn.store) (g.S.Store.view l.store)
