-- What the loop of `find_all` keeps.
use Rattle.std.proofs.Common.{◌≡◌, ◌≤◌, length, IsSome, List, Some}
use Rattle.sqlite_value.specs.Keys.{plain}
use Rattle.sqlite_value.specs.Order.{Row as Columns}
use Rattle.sqlite_trees.specs.Tree.{IsIndex, Trees}
use Rattle.sqlite_trees.specs.View.{IsClean, KeepsSchema}
use Rattle.site_state.specs.RowViews.{rows_view}
use Rattle.site_rows.specs.Held.{IsSameView}
use Rattle.site_rows.specs.Private.{AreEntries}
use Rattle.site_rows.proofs.Users.{IsReadTo}
use Rattle.site_rows.proofs.listing.find_all.Given as goal

abbrev pub invariant-loop-read : goal.invariant-loop-read
invariant-loop-read g l =
    IsSome ((g.S.Store.view l.store).cursors 0)
    × IsSameView (g.S.Store.view l.fn.store) (g.S.Store.view l.store)
    × KeepsSchema (g.S.Store.view l.fn.store) (g.S.Store.view l.store)
    × ((db : Trees) → g.S.Store.recovers l.store db → g.S.Store.recovers l.fn.store db)
    × (IsClean (g.S.Store.view l.store) → IsIndex plain ((g.S.Store.view l.fn.store).trees 4))
    × (IsClean (g.S.Store.view l.store) → AreEntries ((g.S.Store.view l.fn.store).trees 4) → (left : List Columns)
    × ((g.S.Store.view l.store).cursors 0 ≡ Some left) × AreEntries left
    × IsReadTo l.fn.user ((g.S.Store.view l.fn.store).trees 4) ((g.S.Store.view l.fn.store).trees 0) (rows_view l.rows.items) left)
    × (g.S.Store.faults l.fn.store ≤ g.S.Store.faults l.store)
    × (length l.rows.items ≡ l._read)
