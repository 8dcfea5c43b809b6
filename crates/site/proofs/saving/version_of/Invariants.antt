-- What the loop of `version_of` keeps.
use Rattle.std.proofs.Common.{◌≡◌, ◌++◌, map, false}
use Rattle.verification.specs.Views.{credential_view}
use Rattle.site_state.specs.RowViews.{stored_row_view}
use Rattle.site.specs.Saved.{has_version_4}
use Rattle.site.proofs.saving.version_of.Given as goal

abbrev pub invariant-loop-row : goal.invariant-loop-row
invariant-loop-row l =
    (goal.iterator-loop-row).can_next l.row-iterator ×
    (goal.iterator-loop-row).is_finite l.row-iterator ×
    (has_version_4 (map credential_view l.yielded) ≡ false) ×
    (l.table ≡ map credential_view l.yielded ++ map (λ e. stored_row_view e.0.items e.1) l.row-iterator.0)
