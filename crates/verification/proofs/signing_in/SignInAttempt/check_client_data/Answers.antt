-- What is owed of `SignInAttempt::check_client_data`.
use Rattle.verification.specs.Views.{judged_sign_in_view, sign_in_view}
use Rattle.verification.proofs.Steps.{client_data_fails}
use Rattle.verification.proofs.signing_in.SignInAttempt.check_client_data.Goals as goal

pub returns-in-Err-Fails-clause-refused : goal.returns-in-Err-Fails-clause-refused
returns-in-Err-Fails-clause-refused c = rw c.refusal_of.ensures (
    client_data_fails (judged_sign_in_view c.args.self.now) (sign_in_view c.args.session.now) c.in-Err-Fails.line c.requires
    (rw c.in-Err-Fails.field-0-is at c.in-Err-Fails.ensures.refused))
