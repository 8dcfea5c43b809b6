-- What is owed of `verify_assertion`.
use Rattle.std.proofs.lemmas.Result.{err_from_is_err_and}
use Rattle.verification.specs.Views.{judged_sign_in_view}
use Rattle.verification.proofs.Steps.{credential_fails, client_fails, data_fails, signature_fails}
use Rattle.verification.proofs.signing_in.verify_assertion.Goals as goal

pub returns-in_err-session-clause-refused : goal.returns-in_err-session-clause-refused
returns-in_err-session-clause-refused g c =
    let p = err_from_is_err_and c.from_residual.result c.from_residual.ensures.1 in
    rw (p.1, p.2) (credential_fails (g.V.Verifier.valid c.args.verifier.now)
    (judged_sign_in_view c.args.attempt.now) c.in_err-session.field-0.0 c.in_err-session.ensures.refused)

pub returns-in_err-check_client_data-clause-refused : goal.returns-in_err-check_client_data-clause-refused
returns-in_err-check_client_data-clause-refused g c =
    let p = err_from_is_err_and c.from_residual-in_err-check_client_data.result c.from_residual-in_err-check_client_data.ensures.1 in
    rw (p.1, p.2) (client_fails (g.V.Verifier.valid c.args.verifier.now)
    (judged_sign_in_view c.args.attempt.now) c.in_ok-session.ensures.passes c.in_err-check_client_data.field-0.0 c.in_err-check_client_data.ensures.refused)

pub returns-in_err-auth_data-clause-refused : goal.returns-in_err-auth_data-clause-refused
returns-in_err-auth_data-clause-refused g c =
    let p = err_from_is_err_and c.from_residual-in_err-auth_data.result c.from_residual-in_err-auth_data.ensures.1 in
    rw (p.1, p.2) (data_fails (g.V.Verifier.valid c.args.verifier.now)
    (judged_sign_in_view c.args.attempt.now) c.in_ok-session.ensures.passes c.in_ok-check_client_data.ensures.passes c.in_err-auth_data.field-0.0
    c.in_err-auth_data.ensures.refused)

pub returns-in_err-check_signature-clause-refused : goal.returns-in_err-check_signature-clause-refused
returns-in_err-check_signature-clause-refused g c =
    let p = err_from_is_err_and c.from_residual-in_err-check_signature.result c.from_residual-in_err-check_signature.ensures.1 in
    rw (p.1, p.2) (signature_fails (g.V.Verifier.valid c.args.verifier.now)
    (judged_sign_in_view c.args.attempt.now) c.in_ok-session.ensures.passes c.in_ok-check_client_data.ensures.passes c.in_ok-auth_data.ensures.passes
    c.in_err-check_signature.field-0.0 c.in_err-check_signature.ensures.refused)
