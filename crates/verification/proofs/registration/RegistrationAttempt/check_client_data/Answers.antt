-- What is owed of `RegistrationAttempt::check_client_data`.
use Rattle.std.proofs.Common.{refl, rules, ap, subst, sym}
use Rattle.std.specs.Prelude.{option_map}
use Rattle.refusal_order.proofs.Laws.{first_at}
use Rattle.refusal_order.specs.Lines.{FirstFailing}
use Rattle.verification.specs.Shared.{never}
use Rattle.verification.specs.Registration.{PassesRegistrationStep, client_data_steps}
use Rattle.verification.specs.Views.{judged_without_table, registration_view}
use Rattle.verification.specs.declared.refusal.RegistrationRefusal.{RegistrationRefusal}
use Rattle.verification.proofs.Registrations.{client_data_fails}
use Rattle.verification.proofs.registration.RegistrationAttempt.check_client_data.Goals as goal

pub returns-in_default-clause-refused : goal.returns-in_default-clause-refused
returns-in_default-clause-refused c = first_at 0 refl (search rules) (search rules)

pub returns-in-Err-Fails-clause-refused : goal.returns-in-Err-Fails-clause-refused
returns-in-Err-Fails-clause-refused c =
    let is_open = ap (option_map (λ s. registration_view s.now)) c.in-Some.is in
    let Fails : RegistrationRefusal → Type 0 = λ w. FirstFailing (PassesRegistrationStep never (judged_without_table c.args.self.now)) client_data_steps w in
    subst Fails (sym (rw c.in-Err-Fails.field-0-is at c.refusal_of.ensures))
    (client_data_fails (judged_without_table c.args.self.now) (registration_view c.in-Some.session.now) c.in-Err-Fails.line is_open
    (rw c.in-Err-Fails.field-0-is at c.in-Err-Fails.ensures.refused))
