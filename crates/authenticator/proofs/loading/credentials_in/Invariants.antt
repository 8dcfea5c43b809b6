-- What the loop of `credentials_in` keeps.
use Rattle.std.proofs.Common.{◌≡◌}
use Rattle.refusal_order.specs.Lines.{Each}
use Rattle.ccbor.specs.Viewing.{shown_items}
use Rattle.authenticator.specs.Private.{IsStore}
use Rattle.authenticator.specs.Saved.{IsSource}
use Rattle.authenticator.specs.Views.{credential_sources_view}
use Rattle.authenticator.proofs.SavedMaps.{in_front}
use Rattle.authenticator.proofs.loading.credentials_in.Given as goal

abbrev pub invariant-loop-item : goal.invariant-loop-item
invariant-loop-item l =
    IsStore (credential_sources_view l.credentials.items) × Each IsSource (credential_sources_view l.credentials.items)
    × (in_front (credential_sources_view l.credentials.items) (shown_items l.rest) ≡ shown_items l.fn.items)

abbrev pub decreases-loop-item : goal.decreases-loop-item
decreases-loop-item l = l.rest.0
