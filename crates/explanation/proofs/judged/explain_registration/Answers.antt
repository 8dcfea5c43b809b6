-- What is owed of `explain_registration`.
use Rattle.verification.specs.Registration.{PassesRegistrationStep, steps}
use Rattle.verification.specs.Views.{judged_registration_view}
use Rattle.explanation.specs.Told.{signature_is}
use Rattle.explanation.proofs.Rows.{told_result}
use Rattle.explanation.proofs.judged.explain_registration.Goals as goal

pub returns : goal.returns
returns c =
    told_result (PassesRegistrationStep (signature_is c.args.is_valid)
    (judged_registration_view c.args.attempt.now (λ _. c.args.is_registered) c.args.is_full)) steps c.in_ok-failed.failed c.tell.result
    c.in_ok-failed.ensures c.tell.ensures
