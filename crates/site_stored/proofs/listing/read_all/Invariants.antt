-- What the loop of `read_all` keeps.
use Rattle.std.proofs.Common.{◌≡◌, ◌≤◌, IsSome, List, Some, length}
use Rattle.sqlite_value.specs.Order.{Row as Columns}
use Rattle.sqlite_trees.specs.Tree.{Trees}
use Rattle.sqlite_trees.specs.View.{IsClean, KeepsSchema}
use Rattle.site_state.specs.RowViews.{rows_view}
use Rattle.site_rows.specs.Held.{IsSameView}
use Rattle.site_stored.specs.Private.{AreCredentials}
use Rattle.site_stored.proofs.ReadTo.{IsReadTo}
use Rattle.site_stored.proofs.listing.read_all.Given as goal

abbrev pub invariant-loop-read : goal.invariant-loop-read
invariant-loop-read g l =
    IsSome ((g.S.Store.view l.store).cursors 0)
    × IsSameView (g.S.Store.view l.fn.store) (g.S.Store.view l.store)
    × ((db : Trees) → g.S.Store.recovers l.store db → g.S.Store.recovers l.fn.store db)
    × (IsClean (g.S.Store.view l.store) → (left : List Columns) × ((g.S.Store.view l.store).cursors 0 ≡ Some left)
    × IsReadTo ((g.S.Store.view l.fn.store).trees 0) (rows_view l.rows.items) left
    × (AreCredentials ((g.S.Store.view l.fn.store).trees 0) → AreCredentials left))
    × (g.S.Store.faults l.fn.store ≤ g.S.Store.faults l.store)
    × (length l.rows.items ≡ l._read)
    × KeepsSchema (g.S.Store.view l.fn.store) (g.S.Store.view l.store)
