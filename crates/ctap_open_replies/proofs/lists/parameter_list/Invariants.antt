-- What the loop of `parameter_list` keeps.
use Rattle.std.proofs.Common.{◌≡◌, map}
use Rattle.ccbor.specs.Viewing.{shown, shown_items}
use Rattle.ctap_encoding.specs.Table.{list_of, record_of}
use Rattle.ctap_encoding.specs.Reading.{each_in}
use Rattle.ctap_encoding.proofs.Fronts.{with_front}
use Rattle.ctap_open_replies.specs.Reading.{open_in}
use Rattle.ctap_open_replies.specs.Replies.{parameters_content, parameters_members}
use Rattle.ctap_open_replies.specs.ReplyView.{parameters_view}
use Rattle.ctap_open_replies.proofs.lists.parameter_list.Given as goal

abbrev pub invariant-loop-item : goal.invariant-loop-item
invariant-loop-item l = with_front (map parameters_content (map parameters_view l.all.items)) (each_in (open_in (record_of parameters_members)) (shown_items l.rest))
    ≡ open_in (list_of (record_of parameters_members)) (shown l.value)

abbrev pub decreases-loop-item : goal.decreases-loop-item
decreases-loop-item l = l.rest.0
