-- What is owed of `judge`.
use Rattle.std.proofs.Common.{◌∙◌, refl, subst}
use Rattle.authdata.specs.Responses as responses
use Rattle.ctap_replies.specs.Replies.{Creation}
use Rattle.ctap_replies.specs.ReplyView.{creation_reply_view}
use Rattle.verification.specs.Registration.{PassesRegistrationStep, PassesRegistration, steps}
use Rattle.verification.specs.RegistrationAnswers.{IsRefused}
use Rattle.site.specs.Answers.{IsRegistered}
use Rattle.site.specs.State.{IsAfterRegistration, judged_registration}
use Rattle.ceremony.specs.Registration.{response}
use Rattle.ceremony.proofs.Judging.{not_both, one_creation, registration_step, response_is}
use Rattle.ceremony.proofs.registration.judge.Goals as goal

pub returns-in_default : goal.returns-in_default
returns-in_default g c = record {
  accepted = tt;
  complete = λ r spelled passed. absurd (c.in-Err.ensures.none c.in_default.not-Memory r spelled);
  refused = (c.in-Err.ensures.refused, c.in_default.not-Memory);
  unchanged = refl;
}

pub returns-in-Ok-finish_registration_parts-clause-accepted : goal.returns-in-Ok-finish_registration_parts-clause-accepted
returns-in-Ok-finish_registration_parts-clause-accepted g c =
    let k = c.in-Ok-finish_registration_parts.ensures in
    let s = c.args.site.now in
    let seen = creation_reply_view c.in-Ok.reply in
    let e = c.parts-response.ensures ∙ response_is seen c.deref.result.now c.in_ok-object.object.items c.args.client_data.now c.deref.ensures.value c.in_ok-object.ensures in (
      seen,
      c.in-Ok.ensures.found.spelled,
      subst (λ (r : responses.AuthenticatorAttestationResponse). PassesRegistration (g.V.Verifier.valid c.args.verifier.now)
          (judged_registration s c.args.session r)) e k.accepted.0,
      subst (λ (r : responses.AuthenticatorAttestationResponse). IsRegistered c.args.site.now r c.in-Ok-finish_registration_parts.registered) e k.accepted.1,
      subst (λ (r : responses.AuthenticatorAttestationResponse). IsAfterRegistration s c.args.session r c.finish_registration_parts.new.self) e k.after,
    )

pub returns-in-Err-Refused-clause-complete : goal.returns-in-Err-Refused-clause-complete
returns-in-Err-Refused-clause-complete g c = λ r spelled passed.
    let valid = g.V.Verifier.valid c.args.verifier.now in
    let s = c.args.site.now in
    let seen = creation_reply_view c.in-Ok.reply in
    let e = c.parts-response.ensures ∙ response_is seen c.deref.result.now c.in_ok-object.object.items c.args.client_data.now c.deref.ensures.value c.in_ok-object.ensures in
    let all = subst (λ (q : Creation). PassesRegistration valid (judged_registration s c.args.session (response q c.args.client_data.now)))
    (one_creation seen r c.args.message.now c.in-Ok.ensures.found spelled) passed in
    let refused = subst (λ (q : responses.AuthenticatorAttestationResponse). IsRefused valid (judged_registration s c.args.session q) c.in-Err-Refused.field-0)
    e c.in-Err-Refused.ensures.refused in
    absurd (not_both (PassesRegistrationStep valid (judged_registration s c.args.session (response seen c.args.client_data.now))) steps c.in-Err-Refused.step
    all
    (registration_step valid (judged_registration s c.args.session (response seen c.args.client_data.now)) c.in-Err-Refused.field-0 c.in-Err-Refused.step
    c.in-Err-Refused.field-0-is refused))

pub returns-in-Err-Refused-clause-refused : goal.returns-in-Err-Refused-clause-refused
returns-in-Err-Refused-clause-refused g c =
    let valid = g.V.Verifier.valid c.args.verifier.now in
    let s = c.args.site.now in
    let seen = creation_reply_view c.in-Ok.reply in
    let e = c.parts-response.ensures ∙ response_is seen c.deref.result.now c.in_ok-object.object.items c.args.client_data.now c.deref.ensures.value c.in_ok-object.ensures in
    let refused = subst (λ (q : responses.AuthenticatorAttestationResponse). IsRefused valid (judged_registration s c.args.session q) c.in-Err-Refused.field-0)
    e c.in-Err-Refused.ensures.refused in (
      seen,
      c.in-Ok.ensures.found.spelled,
      registration_step valid (judged_registration s c.args.session (response seen c.args.client_data.now)) c.in-Err-Refused.field-0 c.in-Err-Refused.step
          c.in-Err-Refused.field-0-is refused,
    )
