-- What is owed of `View::check_all`.
use Rattle.std.proofs.Common.{◌≡◌, ◌≢◌, List, ℕ, length, take, drop, sym, ◌∙◌, arith, true, false, eqb}
use Rattle.std.proofs.lemmas.Bool.{eqb-true}
use Rattle.std.proofs.lemmas.Bool.Decides.{nat_tests}
use Rattle.std.proofs.lemmas.List.{take-append-drop}
use Rattle.ccbor.proofs.Shows.{shows, whole_front, no_whole, part_front}
use Rattle.ccbor.proofs.view.View.check_all.Goals as goal

pub returns-in_default-clause-none : goal.returns-in_default-clause-none
returns-in_default-clause-none c =
    λ h v n canon. c.in_default.ensures v (take n c.args.bytes.now) (drop n c.args.bytes.now) canon (sym (take-append-drop n c.args.bytes.now))

left : (rest : List ℕ) → eqb (length rest) 0 ≡ false → length rest ≢ 0
left rest e zero = let none : eqb (length rest) 0 ≡ true = grind (arith, nat_tests) in absurd cc

pub returns-then-not-is_empty-clause-trailing : goal.returns-then-not-is_empty-clause-trailing
returns-then-not-is_empty-clause-trailing c = λ h.
    let f = c.in-Some.ensures in
    part_front f.1 c.args.bytes.now c.in-Some.value.now c.in-Some.rest.now f.2 f.0 (left c.in-Some.rest.now (sym c.is_empty.ensures ∙ c.if-not-is_empty.true))

pub returns-then-not-is_empty-clause-front : goal.returns-then-not-is_empty-clause-front
returns-then-not-is_empty-clause-front c = λ h.
    let f = c.in-Some.ensures in
    no_whole f.1 c.args.bytes.now c.in-Some.value.now c.in-Some.rest.now f.2 f.0 (left c.in-Some.rest.now (sym c.is_empty.ensures ∙ c.if-not-is_empty.true))

pub invariant_of-result : goal.invariant_of-result
invariant_of-result c = shows c.in-Some.ensures.1 c.in-Some.value.now c.in-Some.ensures.2

pub returns-clause-found : goal.returns-clause-found
returns-clause-found c =
    let f = c.in-Some.ensures in
    whole_front f.1 c.args.bytes.now c.in-Some.value.now c.in-Some.rest.now f.2 f.0
    (eqb-true (length c.in-Some.rest.now) 0 (sym c.is_empty.ensures ∙ c.if-not-is_empty.false))
