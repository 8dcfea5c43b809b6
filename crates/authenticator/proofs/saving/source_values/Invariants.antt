-- What the loop of `source_values` keeps.
use Rattle.std.proofs.Common.{map, take}
use Rattle.ccbor.specs.View.{view}
use Rattle.authenticator.specs.Views.{credential_sources_view}
use Rattle.authenticator.proofs.SavedValues.{AreValues}
use Rattle.authenticator.proofs.saving.source_values.Given as goal

abbrev pub invariant-loop-credential : goal.invariant-loop-credential
invariant-loop-credential l = AreValues (credential_sources_view (take l.credential-index l.credentials)) (map view l.values.items)
