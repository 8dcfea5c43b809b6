-- What is owed of `ArrayView::split_first`.
use Rattle.std.proofs.Common.{arith}
use Rattle.ccbor.specs.Viewing.{shown_items}
use Rattle.ccbor.proofs.Elements.{no_item, first_item}
use Rattle.ccbor.proofs.view.ArrayView.split_first.Goals as goal

pub invariant_of-result : goal.invariant_of-result
invariant_of-result c = let s = c.self.inside in let f = c.in_ok-item in
    (first_item (shown_items (s.left, s.bytes.now)) s.left s.bytes.now f.item.now f.rest.now c.self.invariant (omega arith) f.ensures).0

pub invariant_of-result-2 : goal.invariant_of-result-2
invariant_of-result-2 c = let s = c.self.inside in let f = c.in_ok-item in
    (first_item (shown_items (s.left, s.bytes.now)) s.left s.bytes.now f.item.now f.rest.now c.self.invariant (omega arith) f.ensures).1

pub returns-clause-parts : goal.returns-clause-parts
returns-clause-parts c = let s = c.self.inside in let f = c.in_ok-item in
    rw (← c.self.view_is) (first_item (shown_items (s.left, s.bytes.now)) s.left s.bytes.now f.item.now f.rest.now c.self.invariant (omega arith) f.ensures).2

pub returns-in_err-item-clause-parts : goal.returns-in_err-item-clause-parts
returns-in_err-item-clause-parts c = let s = c.self.inside in
    absurd (no_item (shown_items (s.left, s.bytes.now)) s.left s.bytes.now c.self.invariant (omega arith) c.in_err-item.ensures)
