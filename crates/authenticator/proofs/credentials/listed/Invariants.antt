-- What the loop of `listed` keeps.
use Rattle.std.proofs.Common.{◌≡◌, Some, drop, map}
use Rattle.ctap_requests.specs.RequestView.{lent_descriptor_view}
use Rattle.authenticator.specs.Orders.{candidates}
use Rattle.authenticator.specs.Views.{credential_sources_view}
use Rattle.authenticator.proofs.credentials.listed.Given as goal

abbrev pub invariant-loop-descriptor : goal.invariant-loop-descriptor
invariant-loop-descriptor l = candidates (credential_sources_view l.credentials) l.rp_id
    (Some (map lent_descriptor_view (drop l.descriptor-index l.descriptors)))
    ≡ candidates (credential_sources_view l.credentials) l.rp_id (Some (map lent_descriptor_view l.descriptors))
