-- What the loop of `owned_descriptors` keeps.
use Rattle.std.proofs.Common.{◌≡◌, take, map}
use Rattle.ctap_requests.specs.RequestView.{descriptor_view, lent_descriptor_view}
use Rattle.ctap_requests.proofs.owned.owned_descriptors.Given as goal

abbrev pub invariant-loop-descriptor : goal.invariant-loop-descriptor
invariant-loop-descriptor l = map descriptor_view l.all.items ≡ map lent_descriptor_view (take l.descriptor-index l.list)
