-- What the loop of `first_supported` keeps.
use Rattle.std.proofs.Common.{◌≡◌, drop, map}
use Rattle.ctap_requests.specs.RequestView.{parameters_view}
use Rattle.authenticator.specs.Orders.{first_supported}
use Rattle.authenticator.proofs.make_credential.first_supported.Given as goal

abbrev pub invariant-loop-parameters : goal.invariant-loop-parameters
invariant-loop-parameters l = first_supported (map parameters_view (drop l.parameters-index l.list)) ≡ first_supported (map parameters_view l.list)
