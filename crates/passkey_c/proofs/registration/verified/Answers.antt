-- What is owed of `verified`.
use Rattle.std.proofs.Common.{Option, subst}
use Rattle.std.specs.Prelude.{option_map}
use Rattle.verification.specs.Views.{registration_view}
use Rattle.verification.specs.Records.{ExpectedRegistration, RelyingParty}
use Rattle.verification.specs.RegistrationAnswers.{IsVerifiedRegistration}
use Rattle.passkey_c.specs.Parts.{flag_of}
use Rattle.passkey_c.specs.Registrations.{judged_registration, registered_unless}
use Rattle.passkey_c.proofs.Moved.{registration_fails, response_passes, same_registration}
use Rattle.passkey_c.proofs.registration.verified.Goals as goal

pub returns-in-Ok-clause-accepted : goal.returns-in-Ok-clause-accepted
returns-in-Ok-clause-accepted c =
    let table = registered_unless (flag_of c.args.call.now.is_free) in
    let full = flag_of c.args.call.now.is_full in
    let same = same_registration _ _ _ _ _ _ table full c.requires.party c.requires.session in
    let call = c.args.call.now in
    let moved = subst (λ (s : Option ExpectedRegistration). IsVerifiedRegistration (record (judged_registration call) { session = s }) c.in-Ok.verified)
    c.requires.session (subst (λ (rp : RelyingParty). IsVerifiedRegistration (record (judged_registration call) {
      rp = rp;
      session = option_map (λ s. registration_view s.now) c.args.session;
    }) c.in-Ok.verified)
    c.requires.party c.in-Ok.ensures.accepted.0) in
    (moved, response_passes _ _ _ _ c.requires.verified same (c.in-Ok.ensures.accepted.1 table full))

pub returns-in-Err-Refused-clause-refused : goal.returns-in-Err-Refused-clause-refused
returns-in-Err-Refused-clause-refused c =
    let table = registered_unless (flag_of c.args.call.now.is_free) in
    let full = flag_of c.args.call.now.is_full in
    let same = same_registration _ _ _ _ _ _ table full c.requires.party c.requires.session in
    let refused = rw c.in-Err-Refused.field-0-is at (c.in-Err-Refused.ensures.refused table full) in (
      registration_fails _ _ _ _ _ c.requires.verified same refused,
      c.requires.limits,
    )
