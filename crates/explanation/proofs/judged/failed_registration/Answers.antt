-- What is owed of `failed_registration`.
use Rattle.std.proofs.Common.{refl}
use Rattle.verification.proofs.Registrations.{all_pass, table_fails}
use Rattle.verification.specs.Views.{judged_registration_view}
use Rattle.explanation.specs.Told.{signature_is}
use Rattle.explanation.proofs.judged.failed_registration.Goals as goal

pub returns-in-Ok-admit : goal.returns-in-Ok-admit
returns-in-Ok-admit c =
    let x = judged_registration_view c.args.attempt.now (λ _. c.args.is_registered) c.args.is_full in
    let accepted = c.in-Ok.ensures.accepted in
    all_pass (signature_is c.args.is_valid) x (accepted.1 (λ _. c.args.is_registered) c.args.is_full) (c.in-Ok-admit.ensures.passes x accepted.0 refl refl)

pub returns-in-Err : goal.returns-in-Err
returns-in-Err c =
    let x = judged_registration_view c.args.attempt.now (λ _. c.args.is_registered) c.args.is_full in
    let accepted = c.in-Ok.ensures.accepted in
    table_fails (signature_is c.args.is_valid) x c.in-Err.step (accepted.1 (λ _. c.args.is_registered) c.args.is_full)
    (c.in-Err.ensures.refused x accepted.0 refl refl)

pub returns-in-Err-Refused : goal.returns-in-Err-Refused
returns-in-Err-Refused c =
    rw c.in-Err-Refused.field-0-is at (c.in-Err-Refused.ensures.refused (λ _. c.args.is_registered) c.args.is_full)
