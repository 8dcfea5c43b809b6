-- What is owed of `parts`.
use Rattle.std.proofs.Common.{◌≡◌, true, false, eqb, refl, sym, ◌∙◌, arith}
use Rattle.std.proofs.lemmas.Bool.Decides.{nat_tests}
use Rattle.ccbor.specs.Reading.{head_at}
use Rattle.ccbor.proofs.Walks.{no_head}
use Rattle.ccbor.proofs.Shows.{head_is, parts_shown}
use Rattle.ccbor.proofs.view.parts.Goals as goal

pub returns-in_default : goal.returns-in_default
returns-in_default c = λ x canon. let e = sym (no_head c.in_default.field-0 (head_at c.args.bytes.now) c.in_default.ensures)
    ∙ head_is x c.args.bytes.now canon in absurd cc

pub returns-then-head-major : goal.returns-then-head-major
returns-then-head-major c = λ x canon.
    let h = c.in-Ok in
    let other : eqb h.head.major c.args.major ≡ false = grind (arith, nat_tests) in
    rw (parts_shown x c.args.bytes.now canon c.args.major h.head.major h.head.argument h.rest.now h.ensures, other) refl

pub returns : goal.returns
returns c = λ x canon.
    let h = c.in-Ok in
    let same : eqb h.head.major c.args.major ≡ true = grind (arith, nat_tests) in
    rw (parts_shown x c.args.bytes.now canon c.args.major h.head.major h.head.argument h.rest.now h.ensures, same) refl
