-- What the loop of `credentials_in` keeps.
use Rattle.std.proofs.Common.{◌≡◌}
use Rattle.refusal_order.specs.Lines.{Each}
use Rattle.ccbor.specs.Viewing.{shown_items}
use Rattle.site_state.specs.Table.{IsTable}
use Rattle.site.specs.Saved.{FitsVersion}
use Rattle.site.proofs.Tables.{in_front}
use Rattle.site.proofs.loading.credentials_in.Given as goal

abbrev pub invariant-loop-item : goal.invariant-loop-item
invariant-loop-item l =
    IsTable l.profile l.table × Each (FitsVersion l.version) l.table ×
    (in_front l.table (shown_items l.rest) ≡ shown_items l.fn.items)

abbrev pub decreases-loop-item : goal.decreases-loop-item
decreases-loop-item l = l.rest.0
