-- What the loop of `credential_values` keeps.
use Rattle.std.proofs.Common.{◌≡◌, ◌++◌, map}
use Rattle.refusal_order.specs.Lines.{Each}
use Rattle.ccbor.specs.View.{view}
use Rattle.verification.specs.Views.{credential_view}
use Rattle.authdata.specs.declared.profile.Profile.TheVariants.{Open}
use Rattle.site_state.specs.Table.{IsTable}
use Rattle.site_state.specs.RowViews.{stored_row_view}
use Rattle.site.specs.Saved.{FitsVersion, credential_item}
use Rattle.site.proofs.saving.credential_values.Given as goal

abbrev pub invariant-loop-row : goal.invariant-loop-row
invariant-loop-row l =
    (goal.iterator-loop-row).can_next l.row-iterator ×
    (goal.iterator-loop-row).is_finite l.row-iterator ×
    IsTable Open l.table ×
    Each (FitsVersion 4) (map credential_view l.yielded) ×
    (map view l.values.items ≡ map credential_item (map credential_view l.yielded)) ×
    (l.table ≡ map credential_view l.yielded ++ map (λ e. stored_row_view e.0.items e.1) l.row-iterator.0)
