-- What the loop of `each_descriptor` keeps.
use Rattle.std.proofs.Common.{◌≡◌, map, take}
use Rattle.ctap_requests.specs.RequestView.{descriptor_view}
use Rattle.client.specs.Asked.{descriptor_of}
use Rattle.client.specs.Options.{ids_of}
use Rattle.client.proofs.entities.each_descriptor.Given as goal

abbrev pub invariant-loop-id : goal.invariant-loop-id
invariant-loop-id l = map descriptor_view l.all.items ≡ map descriptor_of (ids_of (take l.id-index l.ids))
