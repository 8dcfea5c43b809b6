-- What is owed of `verify_registration`.
use Rattle.std.proofs.lemmas.Result.{err_from_is_err_and}
use Rattle.std.proofs.Common.{◌≡◌, Option, Some, subst}
use Rattle.authdata.specs.Objects.{lent_object_view}
use Rattle.verification.specs.Records.{ExpectedRegistration}
use Rattle.verification.specs.Registration.{counted}
use Rattle.verification.specs.declared.refusal.VerificationError.TheVariants as errors
use Rattle.verification.specs.Views.{judged_without_table}
use Rattle.verification.proofs.Registrations.{client_fails, data_fails, attestation_fails, response_passes}
use Rattle.verification.proofs.registration.verify_registration.Goals as goal

-- a session is one
only : (o : Option ExpectedRegistration) (e f : ExpectedRegistration) → o ≡ Some e → o ≡ Some f → e ≡ f
only o e f is also = cc

pub returns-in_err-session-clause-refused : goal.returns-in_err-session-clause-refused
returns-in_err-session-clause-refused g c =
    let p = err_from_is_err_and c.from_residual.result c.from_residual.ensures.1 in
    rw (p.1, p.2) (λ r f. client_fails (g.V.Verifier.valid c.args.verifier.now)
    (judged_without_table c.args.attempt.now) r f c.in_err-session.field-0.0 c.in_err-session.ensures.refused)

pub returns-in_err-object-clause-refused : goal.returns-in_err-object-clause-refused
returns-in_err-object-clause-refused g c =
    let p = err_from_is_err_and c.from_residual-in_err-object.result c.from_residual-in_err-object.ensures.1 in
    rw (p.1, p.2) (λ r f. data_fails (g.V.Verifier.valid c.args.verifier.now)
    (judged_without_table c.args.attempt.now) r f c.in_ok-session.ensures.passes
    (errors.Refused c.in_err-object.field-0.0) c.in_err-object.ensures.refused)

pub returns-in_err-check_attestation-clause-refused : goal.returns-in_err-check_attestation-clause-refused
returns-in_err-check_attestation-clause-refused g c =
    let p = err_from_is_err_and c.from_residual-in_err-check_attestation.result c.from_residual-in_err-check_attestation.ensures.1 in
    rw (p.1, p.2) (λ r f. attestation_fails (g.V.Verifier.valid c.args.verifier.now)
    (judged_without_table c.args.attempt.now) r f c.in_ok-session.ensures.passes c.in_ok-object.ensures.passes
    c.in_err-check_attestation.field-0.0 c.in_err-check_attestation.ensures.refused)

pub returns-clause-accepted : goal.returns-clause-accepted
returns-clause-accepted g c = (
  (
    lent_object_view c.in_ok-object.object,
    c.in_ok-object.ensures.found,
    λ e is.
        let same = only _ _ _ c.in_ok-session.ensures.session is in
        subst (λ (f : ExpectedRegistration). c.counted_format.result.now
        ≡ (counted (judged_without_table c.args.attempt.now).rp.profile f.attestation (lent_object_view c.in_ok-object.object)).fmt) same
        (rw c.profile.ensures at c.counted_format.ensures),
  ),
  λ r f. response_passes (g.V.Verifier.valid c.args.verifier.now)
      (judged_without_table c.args.attempt.now) r f c.in_ok-session.ensures.passes c.in_ok-object.ensures.passes
      c.in_ok-check_attestation.ensures.passes,
)
