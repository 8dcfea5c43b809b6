-- What the loop of `Table::has_long_id` keeps.
use Rattle.std.proofs.Common.{◌≡◌, ◌++◌, map, false}
use Rattle.verification.specs.Views.{credential_view}
use Rattle.site_state.specs.Table.{has_long}
use Rattle.site_state.specs.RowViews.{stored_row_view}
use Rattle.site_state.proofs.table.Table.has_long_id.Given as goal

abbrev pub invariant-loop-row : goal.invariant-loop-row
invariant-loop-row l =
    (goal.iterator-loop-row).can_next l.row-iterator ×
    (goal.iterator-loop-row).is_finite l.row-iterator ×
    (has_long (map credential_view l.yielded) ≡ false) ×
    (l.self ≡ map credential_view l.yielded ++ map (λ e. stored_row_view e.0.items e.1) l.row-iterator.0)
