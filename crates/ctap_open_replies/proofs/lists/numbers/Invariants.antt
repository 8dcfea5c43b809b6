-- What the loop of `numbers` keeps.
use Rattle.std.proofs.Common.{◌≡◌}
use Rattle.ccbor.specs.Viewing.{shown, shown_items}
use Rattle.ctap_encoding.specs.Table.{list_of, unsigned}
use Rattle.ctap_encoding.specs.Reading.{each_in, read_in}
use Rattle.ctap_encoding.proofs.Fronts.{with_front}
use Rattle.ctap_open_replies.specs.Reading.{open_in}
use Rattle.ctap_open_replies.proofs.lists.numbers.Given as goal

abbrev pub invariant-loop-item : goal.invariant-loop-item
invariant-loop-item l = with_front l.all.items (each_in (read_in (unsigned 0)) (shown_items l.rest)) ≡ open_in (list_of (unsigned 0)) (shown l.value)

abbrev pub decreases-loop-item : goal.decreases-loop-item
decreases-loop-item l = l.rest.0
