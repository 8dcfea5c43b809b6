-- What is owed of `passkey_registration`.
use Rattle.std.proofs.Common.{arith, rules, sym, ◌∙◌, subst}
use Rattle.std.proofs.lemmas.Grind.{common_steps}
use Rattle.verification.specs.Registration.{IsFirstFailing}
use Rattle.passkey_c.proofs.Accepted.{id_fits, tells_registration}
use Rattle.passkey_c.proofs.Numbers.{same_registration_step}
use Rattle.passkey_c.specs.Registrations.{judged_registration, registration_validity}
use Rattle.passkey_c.proofs.registration.passkey_registration.Goals as goal

pub returns-in-Ok : goal.returns-in-Ok
returns-in-Ok c = record {
  accepted = search rules;
  told = λ _. tells_registration c.args.call.now c.tell_registration.new.out c.in-Ok.verified
      (registration_validity c.args.call.now) c.in-Ok.ensures.attested c.in-Ok.ensures.accepted c.tell_registration.ensures;
  refused = search rules;
  limit = search rules;
  within = search rules;
  answer = search rules;
  untouched = search rules;
}

pub tell_registration-requires : goal.tell_registration-requires
tell_registration-requires c = id_fits (judged_registration c.args.call.now) c.in-Ok.verified c.in-Ok.ensures.attested

pub returns-in-Err-Step : goal.returns-in-Err-Step
returns-in-Err-Step c = record {
  accepted = search rules;
  told = search rules;
  refused = λ step is.
      let same = same_registration_step c.in-Err-Step.step step (sym (c.from.ensures ∙ c.number.ensures) ∙ is) in
      let refused = rw c.in-Err-Step.field-0-is at c.in-Err-Step.ensures.refused in
      subst (IsFirstFailing (registration_validity c.args.call.now) (judged_registration c.args.call.now)) same refused.0;
  limit = search rules;
  within = search rules;
  answer = search rules;
  untouched = search rules;
}

pub returns-in-Err-Input : goal.returns-in-Err-Input
returns-in-Err-Input c = record {
  accepted = first_of (search rules, grind (arith, common_steps));
  told = first_of (search rules, grind (arith, common_steps));
  refused = first_of (search rules, grind (arith, common_steps));
  limit = first_of (search rules, grind (arith, common_steps));
  within = first_of (search rules, grind (arith, common_steps));
  answer = first_of (search rules, grind (arith, common_steps));
  untouched = first_of (search rules, grind (arith, common_steps));
}
