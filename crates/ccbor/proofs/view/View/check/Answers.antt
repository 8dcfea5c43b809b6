-- What is owed of `View::check`.
use Rattle.std.proofs.Common.{take, drop, sym}
use Rattle.std.proofs.lemmas.List.{take-append-drop}
use Rattle.ccbor.proofs.Shows.{shows, front_found, front_only}
use Rattle.ccbor.proofs.view.View.check.Goals as goal

pub returns-in_default-clause-none : goal.returns-in_default-clause-none
returns-in_default-clause-none c =
    λ v n canon. c.in_default.ensures v (take n c.args.bytes.now) (drop n c.args.bytes.now) canon (sym (take-append-drop n c.args.bytes.now))

pub invariant_of-result : goal.invariant_of-result
invariant_of-result c = shows c.in-Some.ensures.1 c.in-Some.value.now c.in-Some.ensures.2

pub returns-clause-found : goal.returns-clause-found
returns-clause-found c = let f = c.in-Some.ensures in front_found f.1 c.args.bytes.now c.in-Some.value.now c.in-Some.field-0-1.now f.2 f.0

pub returns-clause-only : goal.returns-clause-only
returns-clause-only c = let f = c.in-Some.ensures in front_only f.1 c.args.bytes.now c.in-Some.value.now c.in-Some.field-0-1.now f.2 f.0
