-- What the loop of `truths` keeps.
use Rattle.std.proofs.Common.{◌≡◌, map}
use Rattle.ccbor.specs.Viewing.{shown, shown_pairs}
use Rattle.ctap_encoding.specs.Table.{truths}
use Rattle.ctap_encoding.specs.Reading.{each_truth}
use Rattle.ctap_encoding.proofs.Fronts.{with_front}
use Rattle.ctap_open_replies.specs.Reading.{open_in}
use Rattle.ctap_open_replies.proofs.lists.truths.Given as goal

abbrev pub invariant-loop-name : goal.invariant-loop-name
invariant-loop-name l = with_front (map (λ o. (o.0.now, o.1)) l.all.items) (each_truth (shown_pairs l.rest)) ≡ open_in truths (shown l.value)

abbrev pub decreases-loop-name : goal.decreases-loop-name
decreases-loop-name l = l.rest.0
