-- What the functions of `faults` that call each other keep.
use Rattle.std.proofs.Common.{◌≡◌, drop}
use Rattle.ccbor.specs.View.{view, items_view}
use Rattle.ctap_encoding.specs.Table.{has_fault, any_item, in_members}
use Rattle.ctap_encoding.specs.TableView.{holds_view, members_view}
use Rattle.ctap_encoding.proofs.faults.+faults.Given as goal

abbrev pub invariant-any_item-loop-item : goal.invariant-any_item-loop-item
invariant-any_item-loop-item l = any_item (has_fault l.fault (holds_view l.holds)) (items_view (drop l.item-index l.items))
    ≡ any_item (has_fault l.fault (holds_view l.holds)) (items_view l.items)

abbrev pub invariant-in_members-loop-key : goal.invariant-in_members-loop-key
invariant-in_members-loop-key l = in_members l.fault (members_view (drop l.key-index l.members)) (view l.value)
    ≡ in_members l.fault (members_view l.members) (view l.value)
