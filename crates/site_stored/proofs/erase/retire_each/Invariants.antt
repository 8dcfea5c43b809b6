-- What the loop of `retire_each` keeps.
use Rattle.std.proofs.Common.{◌≡◌, false, drop}
use Rattle.sqlite_trees.specs.View.{IsClean}
use Rattle.site_state.specs.RowViews.{rows_view}
use Rattle.site_rows.specs.Calls.{IsQuiet}
use Rattle.site_rows.specs.Held.{Holds, Placed}
use Rattle.site_stored.specs.Private.{IsReadyStore, KeepsNumbers}
use Rattle.site_stored.proofs.Erasing.{IsRetiring}
use Rattle.site_stored.proofs.erase.retire_each.Given as goal

abbrev pub invariant-loop-row : goal.invariant-loop-row
invariant-loop-row g l = record {
  ready : IsReadyStore g.S.Store l.held;
  opened : l.held.is_shut ≡ false;
  reserved : KeepsNumbers l.fn.held l.held;
  quiet : IsQuiet g.S.Store l.fn.held.store l.held.store;
  reals : IsClean (g.S.Store.view l.held.store) → (g.S.Store.view l.held.store).reals ≡ (g.S.Store.view l.fn.held.store).reals;
  retiring : IsClean (g.S.Store.view l.held.store) → (placed : Placed) → Holds placed (g.S.Store.view l.fn.held.store).trees
      → IsRetiring (rows_view l.rows) (rows_view (drop l.row-index l.rows)) placed (g.S.Store.view l.fn.held.store) (g.S.Store.view l.held.store);
}
