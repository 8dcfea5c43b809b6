-- What the loop of `texts` keeps.
use Rattle.std.proofs.Common.{◌≡◌, map}
use Rattle.ccbor.specs.Access.{text_in}
use Rattle.ccbor.specs.Viewing.{shown, shown_items}
use Rattle.ctap_encoding.specs.Table.{a_text, list_of}
use Rattle.ctap_encoding.specs.Reading.{each_in}
use Rattle.ctap_encoding.proofs.Fronts.{with_front}
use Rattle.ctap_open_replies.specs.Reading.{open_in}
use Rattle.ctap_open_replies.proofs.lists.texts.Given as goal

abbrev pub invariant-loop-item : goal.invariant-loop-item
invariant-loop-item l = with_front (map (λ s. s.now) l.all.items) (each_in text_in (shown_items l.rest)) ≡ open_in (list_of a_text) (shown l.value)

abbrev pub decreases-loop-item : goal.decreases-loop-item
decreases-loop-item l = l.rest.0
