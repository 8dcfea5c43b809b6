-- What is owed of `explain_sign_in`.
use Rattle.verification.specs.SignIn.{PassesSignInStep, steps}
use Rattle.verification.specs.Views.{judged_sign_in_view}
use Rattle.explanation.specs.Told.{signature_is}
use Rattle.explanation.proofs.Rows.{told_result}
use Rattle.explanation.proofs.judged.explain_sign_in.Goals as goal

pub returns : goal.returns
returns c =
    told_result (PassesSignInStep (signature_is c.args.is_valid) (judged_sign_in_view c.args.attempt.now)) steps c.in_ok-failed.failed c.tell.result
    c.in_ok-failed.ensures c.tell.ensures
