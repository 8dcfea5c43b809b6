-- What the loop of `descriptors_value` keeps.
use Rattle.std.proofs.Common.{◌≡◌, take, map}
use Rattle.ccbor.specs.View.{view}
use Rattle.ctap_requests.specs.Entities.{descriptor_members, descriptor_content}
use Rattle.ctap_encoding.specs.Table.{record_of}
use Rattle.ctap_encoding.specs.Content.{item_of}
use Rattle.ctap_requests.specs.RequestView.{descriptor_view}
use Rattle.ctap_requests.proofs.values.descriptors_value.Given as goal

abbrev pub invariant-loop-descriptor : goal.invariant-loop-descriptor
invariant-loop-descriptor l = map view l.items.items ≡ map (item_of (record_of descriptor_members))
    (map descriptor_content (map descriptor_view (take l.descriptor-index l.list)))
