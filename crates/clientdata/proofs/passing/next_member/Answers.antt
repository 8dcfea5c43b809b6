-- What is owed of `next_member`.
use Rattle.std.proofs.Common.{◌≡◌, ◌∙◌, ap, arith, true, Some, None}
use Rattle.std.specs.Prelude.{option_and_then}
use Rattle.json.specs.Json.{read_key}
use Rattle.clientdata.specs.Passing.{closed, passed}
use Rattle.clientdata.proofs.Around.{object_goes_on, object_ends, object_fails, passed-nothing}
use Rattle.clientdata.proofs.passing.next_member.Goals as goal

pub returns-in-Err-clause-left : goal.returns-in-Err-clause-left
returns-in-Err-clause-left c = λ depth. object_fails depth _ c.in-Err.ensures.value

pub returns-in-Ok-None-clause-left : goal.returns-in-Ok-None-clause-left
returns-in-Ok-None-clause-left c = λ depth.
    let ended : read_key c.args.reader.now ≡ Some (None, c.next_key.new.self) = grind arith in
    object_ends depth _ _ ended

pub returns-in-Some-clause-left : goal.returns-in-Some-clause-left
returns-in-Some-clause-left c = λ depth.
    let named : read_key c.args.reader.now ≡ Some (Some c.in-Ok-Some.field-0-0.now, c.next_key.new.self) = grind arith in
    object_goes_on depth _ _ _ named
    ∙ ap (λ ts. option_and_then (closed true depth) (passed depth ts)) c.in-Some.ensures.value

pub returns-in-None-clause-left : goal.returns-in-None-clause-left
returns-in-None-clause-left c = λ depth.
    let named : read_key c.args.reader.now ≡ Some (Some c.in-Ok-Some.field-0-0.now, c.next_key.new.self) = grind arith in
    object_goes_on depth _ _ _ named
    ∙ ap (λ ts. option_and_then (closed true depth) (passed depth ts)) c.in-None.ensures.value.0
    ∙ ap (option_and_then (closed true depth)) (passed-nothing depth)
