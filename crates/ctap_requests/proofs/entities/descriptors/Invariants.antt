-- What the loop of `descriptors` keeps.
use Rattle.std.proofs.Common.{◌≡◌, map}
use Rattle.ccbor.specs.Viewing.{shown, shown_items}
use Rattle.ctap_encoding.specs.Table.{record_of, list_of}
use Rattle.ctap_encoding.specs.Reading.{each_in, read_in}
use Rattle.ctap_encoding.proofs.Fronts.{with_front}
use Rattle.ctap_requests.specs.Entities.{descriptor_members, descriptor_content}
use Rattle.ctap_requests.specs.RequestView.{lent_descriptor_view}
use Rattle.ctap_requests.proofs.entities.descriptors.Given as goal

abbrev pub invariant-loop-item : goal.invariant-loop-item
invariant-loop-item l = with_front (map descriptor_content (map lent_descriptor_view l.all.items))
    (each_in (read_in (record_of descriptor_members)) (shown_items l.rest)) ≡ read_in (list_of (record_of descriptor_members)) (shown l.value)

abbrev pub decreases-loop-item : goal.decreases-loop-item
decreases-loop-item l = l.rest.0
