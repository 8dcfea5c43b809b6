-- What is owed of `passkey_assertion`.
use Rattle.std.proofs.Common.{arith, rules, sym, ◌∙◌, subst}
use Rattle.std.proofs.lemmas.Grind.{common_steps}
use Rattle.verification.specs.SignIn.{IsFirstFailing}
use Rattle.passkey_c.proofs.Accepted.{tells_sign_in}
use Rattle.passkey_c.proofs.Numbers.{same_step}
use Rattle.passkey_c.specs.SignIns.{judged_sign_in, sign_in_validity}
use Rattle.passkey_c.proofs.assertion.passkey_assertion.Goals as goal

pub returns-in-Ok : goal.returns-in-Ok
returns-in-Ok c = record {
  accepted = search rules;
  told = λ _. tells_sign_in c.args.call.now c.tell_data.new.out c.in-Ok.verified.auth_data c.in-Ok.ensures.read c.tell_data.ensures;
  refused = search rules;
  limit = search rules;
  within = search rules;
  answer = search rules;
  untouched = search rules;
}

pub returns-in-Err-Step : goal.returns-in-Err-Step
returns-in-Err-Step c = record {
  accepted = search rules;
  told = search rules;
  refused = λ step is.
      let same = same_step c.in-Err-Step.step step (sym (c.from.ensures ∙ c.number.ensures) ∙ is) in
      let refused = rw c.in-Err-Step.field-0-is at c.in-Err-Step.ensures.refused in
      subst (IsFirstFailing (sign_in_validity c.args.call.now) (judged_sign_in c.args.call.now)) same refused.0;
  limit = search rules;
  within = search rules;
  answer = search rules;
  untouched = search rules;
}

pub returns-in-Err-Input : goal.returns-in-Err-Input
returns-in-Err-Input c = record {
  accepted = first_of (search rules, grind (arith, common_steps));
  told = first_of (search rules, grind (arith, common_steps));
  refused = first_of (search rules, grind (arith, common_steps));
  limit = first_of (search rules, grind (arith, common_steps));
  within = first_of (search rules, grind (arith, common_steps));
  answer = first_of (search rules, grind (arith, common_steps));
  untouched = first_of (search rules, grind (arith, common_steps));
}
