-- What is owed of `judge`.
use Rattle.std.proofs.Common.{◌≡◌, Bool, true, false, refl}
use Rattle.std.specs.Prelude.{not}
use Rattle.verification.proofs.Registrations.{all_pass, table_fails}
use Rattle.passkey_c.specs.Registrations.{judged_registration, registration_validity}
use Rattle.passkey_c.proofs.registration.judge.Goals as goal

not_not : (b : Bool) → not (not b) ≡ b
not_not true = refl
not_not false = refl

pub returns-in-Ok-clause-accepted : goal.returns-in-Ok-clause-accepted
returns-in-Ok-clause-accepted c =
    let x = judged_registration c.args.call.now in
    let accepted = c.in_ok-verified.ensures.accepted in
    let steps = c.in-Ok.ensures.passes x accepted.0 (not_not _) refl in
    all_pass (registration_validity c.args.call.now) x accepted.1 steps

pub returns-clause-refused : goal.returns-clause-refused
returns-clause-refused c =
    let x = judged_registration c.args.call.now in
    let accepted = c.in_ok-verified.ensures.accepted in
    let kept = c.in_ok-party.ensures.kept in
    let session = c.in_ok-session.ensures in
    let signature = c.in_ok-verifier.ensures in (
      table_fails (registration_validity c.args.call.now) x c.in-Err.step accepted.1 (c.in-Err.ensures.refused x accepted.0 (not_not _) refl),
      (kept.0, (kept.1.0, (kept.1.1.0, (kept.1.1.1.0, (session.challenge, (signature.algorithm, (signature.x, (signature.y, tt)))))))),
    )
