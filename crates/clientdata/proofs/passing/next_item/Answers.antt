-- What is owed of `next_item`.
use Rattle.std.proofs.Common.{◌∙◌, ap, sym, false}
use Rattle.std.specs.Prelude.{option_and_then}
use Rattle.clientdata.specs.Passing.{closed, passed}
use Rattle.clientdata.proofs.Around.{array_goes_on, array_ends, passed-nothing}
use Rattle.clientdata.proofs.passing.next_item.Goals as goal

pub returns-then-take_end_array-clause-left : goal.returns-then-take_end_array-clause-left
returns-then-take_end_array-clause-left c = λ depth. array_ends depth _ _ c.if-take_end_array.ensures

pub returns-in-Some-clause-left : goal.returns-in-Some-clause-left
returns-in-Some-clause-left c = λ depth.
    let going = c.if-take_end_array.ensures in
    array_goes_on depth _ going.0
    ∙ ap (λ ts. option_and_then (closed false depth) (passed depth ts)) (sym going.1 ∙ c.in-Some.ensures.value)

pub returns-in-None-clause-left : goal.returns-in-None-clause-left
returns-in-None-clause-left c = λ depth.
    let going = c.if-take_end_array.ensures in
    array_goes_on depth _ going.0
    ∙ ap (λ ts. option_and_then (closed false depth) (passed depth ts)) (sym going.1 ∙ c.in-None.ensures.value.0)
    ∙ ap (option_and_then (closed false depth)) (passed-nothing depth)
