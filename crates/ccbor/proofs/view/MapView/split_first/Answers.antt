-- What is owed of `MapView::split_first`.
use Rattle.std.proofs.Common.{arith}
use Rattle.ccbor.specs.Viewing.{shown_pairs}
use Rattle.ccbor.proofs.Elements.{no_key, no_value, first_pair}
use Rattle.ccbor.proofs.view.MapView.split_first.Goals as goal

pub returns-in_err-key-clause-parts : goal.returns-in_err-key-clause-parts
returns-in_err-key-clause-parts c = let s = c.self.inside in
    absurd (no_key (shown_pairs (s.left, s.bytes.now)) s.left s.bytes.now c.self.invariant (omega arith) c.in_err-key.ensures)

pub returns-in_err-value-clause-parts : goal.returns-in_err-value-clause-parts
returns-in_err-value-clause-parts c =
    let s = c.self.inside in let k = c.in_ok-key in
    absurd (no_value (shown_pairs (s.left, s.bytes.now)) s.left s.bytes.now k.key.now k.rest.now c.self.invariant
    (omega arith) k.ensures c.in_err-value.ensures)

pub invariant_of-result : goal.invariant_of-result
invariant_of-result c =
    let s = c.self.inside in let k = c.in_ok-key in let v = c.in_ok-value in
    (first_pair (shown_pairs (s.left, s.bytes.now)) s.left s.bytes.now k.key.now k.rest.now v.value.now v.rest.now c.self.invariant
    (omega arith) k.ensures v.ensures).0

pub invariant_of-result-2 : goal.invariant_of-result-2
invariant_of-result-2 c =
    let s = c.self.inside in let k = c.in_ok-key in let v = c.in_ok-value in
    (first_pair (shown_pairs (s.left, s.bytes.now)) s.left s.bytes.now k.key.now k.rest.now v.value.now v.rest.now c.self.invariant
    (omega arith) k.ensures v.ensures).1

pub invariant_of-result-3 : goal.invariant_of-result-3
invariant_of-result-3 c =
    let s = c.self.inside in let k = c.in_ok-key in let v = c.in_ok-value in
    (first_pair (shown_pairs (s.left, s.bytes.now)) s.left s.bytes.now k.key.now k.rest.now v.value.now v.rest.now c.self.invariant
    (omega arith) k.ensures v.ensures).2

pub returns-clause-parts : goal.returns-clause-parts
returns-clause-parts c =
    let s = c.self.inside in let k = c.in_ok-key in let v = c.in_ok-value in
    rw (← c.self.view_is) (first_pair (shown_pairs (s.left, s.bytes.now)) s.left s.bytes.now k.key.now k.rest.now v.value.now v.rest.now c.self.invariant
    (omega arith) k.ensures v.ensures).3
