-- What is owed of `binding`.
use Rattle.std.proofs.Common.{◌≡◌, None, true, false, ◌∙◌, sym, ap, arith, rules, option_and_then}
use Rattle.std.specs.Prelude.{codes}
use Rattle.json.specs.Reads.{token_of}
use Rattle.serde_json.specs.Data.{object}
use Rattle.serde_json.specs.Find.{as_str}
use Rattle.clientdata.specs.Found.{binding_by}
use Rattle.clientdata.specs.Passing.{value_at, opens_object}
use Rattle.clientdata.specs.Reading.{status_binding}
use Rattle.clientdata.proofs.Firsts.{there, not_there, nothing_there, object_at, object_too_deep, opens}
use Rattle.clientdata.proofs.members.binding.Goals as goal

pub returns-in_default-clause-value : goal.returns-in_default-clause-value
returns-in_default-clause-value c = nothing_there _ _ c.in_default.ensures.value.0

pub returns-in_err-pass_over-clause-value : goal.returns-in_err-pass_over-clause-value
returns-in_err-pass_over-clause-value c =
    let none : value_at c.args.depth c.args.reader.now ≡ None = not_there _ _ _ c.in-Some.ensures.value c.in_err-pass_over.ensures.left in
    search rules

pub returns-then-not-begins_object-clause-value : goal.returns-then-not-begins_object-clause-value
returns-then-not-begins_object-clause-value c =
    let shut : opens_object (token_of c.in-Some.token) ≡ false = grind arith in
    there binding_by _ c.args.depth (token_of c.in-Some.token) _ _ _ c.in-Some.ensures.value c.in_ok-pass_over.ensures.left
    (λ d by. ap (λ o. status_binding (option_and_then as_str o)) (sym (by.members shut (codes "status"))))

pub returns-then-depth-eq0-clause-value : goal.returns-then-depth-eq0-clause-value
returns-then-depth-eq0-clause-value c =
    let begins : opens_object (token_of c.in-Some.token) ≡ true = grind arith in
    object_too_deep c.args.depth _ c.next.new.self c.if-depth-eq0.true (opens _ _ _ c.in-Some.ensures.value begins)

pub returns-in_err-status-clause-value : goal.returns-in_err-status-clause-value
returns-in_err-status-clause-value c =
    let begins : opens_object (token_of c.in-Some.token) ≡ true = grind arith in
    let none : value_at c.args.depth c.args.reader.now ≡ None =
    object_at c.args.depth _ c.next.new.self (omega arith) (opens _ _ _ c.in-Some.ensures.value begins) None c.in_err-status.ensures.members in
    search rules

pub returns-clause-value : goal.returns-clause-value
returns-clause-value c =
    let begins : opens_object (token_of c.in-Some.token) ≡ true = grind arith in
    let read = c.in_ok-status.ensures.members in (
      object read.0,
      object_at c.args.depth _ c.next.new.self (omega arith) (opens _ _ _ c.in-Some.ensures.value begins) _ read.1,
      c.binding_of.ensures ∙ ap status_binding read.2,
    )
