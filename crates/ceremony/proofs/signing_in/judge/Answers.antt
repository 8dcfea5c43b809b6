-- What is owed of `judge`.
use Rattle.std.proofs.Common.{subst}
use Rattle.authdata.specs.Responses as responses
use Rattle.ctap_replies.specs.Replies.{Assertion}
use Rattle.ctap_replies.specs.ReplyView.{lent_assertion_view}
use Rattle.verification.specs.SignIn.{PassesSignInStep, PassesSignIn, steps}
use Rattle.verification.specs.SignInAnswers.{IsRefused}
use Rattle.site.specs.Answers.{IsSignedIn}
use Rattle.site.specs.State.{IsAfterSignIn, judged_sign_in}
use Rattle.client.specs.Responses.{response_of}
use Rattle.ceremony.proofs.Judging.{not_both, one_assertion, sign_in_memory, sign_in_step}
use Rattle.ceremony.proofs.signing_in.judge.Goals as goal

pub returns-in-Err-clause-complete : goal.returns-in-Err-clause-complete
returns-in-Err-clause-complete g c = λ r spelled passed. absurd (c.in-Err.ensures.none r spelled)

pub returns-in-Ok-finish_parts-clause-accepted : goal.returns-in-Ok-finish_parts-clause-accepted
returns-in-Ok-finish_parts-clause-accepted g c =
    let k = c.in-Ok-finish_parts.ensures in
    let s = c.args.site.now in (
      lent_assertion_view c.in-Ok.reply,
      c.in-Ok.ensures.found.spelled,
      subst (λ (r : responses.AuthenticatorAssertionResponse). PassesSignIn (g.V.Verifier.valid c.args.verifier.now) (judged_sign_in s c.args.session r))
          c.parts.ensures k.accepted.0,
      subst (λ (r : responses.AuthenticatorAssertionResponse). IsSignedIn s r c.in-Ok-finish_parts.signed_in) c.parts.ensures k.accepted.1,
      subst (λ (r : responses.AuthenticatorAssertionResponse). IsAfterSignIn s c.args.session r c.finish_parts.new.self) c.parts.ensures k.after,
    )

pub returns-in-Err-Refused-clause-complete : goal.returns-in-Err-Refused-clause-complete
returns-in-Err-Refused-clause-complete g c = λ r spelled passed.
    let valid = g.V.Verifier.valid c.args.verifier.now in
    let s = c.args.site.now in
    let seen = lent_assertion_view c.in-Ok.reply in
    let all = subst (λ (q : Assertion). PassesSignIn valid (judged_sign_in s c.args.session (response_of q c.args.client_data.now)))
    (one_assertion seen r c.args.message.now c.in-Ok.ensures.found spelled) passed in
    let refused = subst (λ (q : responses.AuthenticatorAssertionResponse). IsRefused valid (judged_sign_in s c.args.session q) c.in-Err-Refused.field-0)
    c.parts.ensures c.in-Err-Refused.ensures.refused in
    absurd (not_both (PassesSignInStep valid (judged_sign_in s c.args.session (response_of seen c.args.client_data.now))) steps c.in-Err-Refused.step all
    (sign_in_step valid (judged_sign_in s c.args.session (response_of seen c.args.client_data.now)) c.in-Err-Refused.field-0 c.in-Err-Refused.step
    c.in-Err-Refused.field-0-is refused))

pub returns-in-Err-Refused-clause-refused : goal.returns-in-Err-Refused-clause-refused
returns-in-Err-Refused-clause-refused g c =
    let valid = g.V.Verifier.valid c.args.verifier.now in
    let s = c.args.site.now in
    let seen = lent_assertion_view c.in-Ok.reply in
    let refused = subst (λ (q : responses.AuthenticatorAssertionResponse). IsRefused valid (judged_sign_in s c.args.session q) c.in-Err-Refused.field-0)
    c.parts.ensures c.in-Err-Refused.ensures.refused in (
      seen,
      c.in-Ok.ensures.found.spelled,
      sign_in_step valid (judged_sign_in s c.args.session (response_of seen c.args.client_data.now)) c.in-Err-Refused.field-0 c.in-Err-Refused.step
          c.in-Err-Refused.field-0-is refused,
    )

pub returns-in-Err-Memory-clause-memory : goal.returns-in-Err-Memory-clause-memory
returns-in-Err-Memory-clause-memory g c = λ e.
    let valid = g.V.Verifier.valid c.args.verifier.now in
    let s = c.args.site.now in
    let seen = lent_assertion_view c.in-Ok.reply in
    let refused = subst (λ (q : responses.AuthenticatorAssertionResponse). IsRefused valid (judged_sign_in s c.args.session q) c.in-Err-Memory.field-0)
    c.parts.ensures c.in-Err-Memory.ensures.refused in (
      seen,
      c.in-Ok.ensures.found.spelled,
      sign_in_memory valid (judged_sign_in s c.args.session (response_of seen c.args.client_data.now)) c.in-Err-Memory.field-0 c.in-Err-Memory.field-0-is
          refused,
    )
