-- What the loop of `Table::with_profile` keeps.
use Rattle.std.proofs.Common.{◌≡◌, ◌++◌}
use Rattle.site_state.specs.Table.{IsTable}
use Rattle.site_state.specs.RowViews.{rows_view}
use Rattle.site_state.proofs.table.Table.with_profile.Given as goal

abbrev pub invariant-loop-row : goal.invariant-loop-row
invariant-loop-row l =
    (goal.iterator-loop-row).can_next l.row-iterator ×
    (goal.iterator-loop-row).is_finite l.row-iterator ×
    (l.table ≡ rows_view l.yielded) ×
    IsTable l.profile l.table ×
    (l.fn.rows.items ≡ l.yielded ++ l.row-iterator.rest.items)
