-- A message's verdict at the site.
use Rattle.std.proofs.Common.{◌≡◌, ℕ, List, None, refl, ◌∙◌, ap, subst}
use Rattle.refusal_order.specs.Lines.{Each, FirstFailing}
use Rattle.refusal_order.proofs.Laws.{none_first}
use Rattle.ctap_replies.specs.Replies.{Assertion, Creation, IsReply, ReplyOf, assertion_reply, creation_reply}
use Rattle.ctap_replies.specs.declared.reply.Kind.TheVariants.{GetAssertion, MakeCredential}
use Rattle.cose.specs.Schemes.{Validity}
use Rattle.verification.specs.SignIn as authentication
use Rattle.verification.specs.SignIn.{JudgedSignIn, PassesSignInStep, credential_steps}
use Rattle.verification.specs.SignInAnswers.{IsRefused}
use Rattle.verification.specs.Registration as registration
use Rattle.verification.specs.Registration.{JudgedRegistration}
use Rattle.verification.specs.RegistrationAnswers as registration_answers
use Rattle.verification.specs.declared.refusal.RegistrationRefusal.{RegistrationRefusal}
use Rattle.authdata.specs.Objects.{ObjectOf}
use Rattle.ceremony.specs.Registration as ceremony
use Rattle.client.specs.Responses.{object_of}
use Rattle.verification.specs.declared.refusal.VerificationError.{VerificationError}
use Rattle.verification.specs.declared.refusal.VerificationError.TheVariants as errors
use Rattle.verification.specs.declared.refusal.SignInRefusal.{SignInRefusal}

-- the one reply that was read
pub one_assertion : (r q : Assertion) (m : List ℕ) → IsReply GetAssertion (assertion_reply r) m → ReplyOf (assertion_reply q) m → q ≡ r
one_assertion r q m k h = let e : assertion_reply q ≡ assertion_reply r = k.only (assertion_reply q) refl h in cc

-- what the site refuses is refused at a step, and what passes each step is not
pub sign_in_step : (valid : Validity) (x : JudgedSignIn) (e : VerificationError SignInRefusal) (w : SignInRefusal) → e ≡ errors.Refused w → IsRefused valid x e
    → authentication.IsFirstFailing valid x w
sign_in_step valid x e w is h = subst (λ (k : VerificationError SignInRefusal). IsRefused valid x k) is h

pub sign_in_memory : (valid : Validity) (x : JudgedSignIn) (e : VerificationError SignInRefusal) → e ≡ errors.Memory → IsRefused valid x e
    → Each (PassesSignInStep valid x) credential_steps
sign_in_memory valid x e is h = subst (λ (k : VerificationError SignInRefusal). IsRefused valid x k) is h

pub not_both : {L : Type 0} (P : L → Type 0) (steps : List L) (w : L) → Each P steps → FirstFailing P steps w → ⊥
not_both P steps w all fails = none_first (λ step passed failed. failed passed) steps w all fails

-- ---- registration

pub one_creation : (r q : Creation) (m : List ℕ) → IsReply MakeCredential (creation_reply r) m → ReplyOf (creation_reply q) m → q ≡ r
one_creation r q m k h = let e : creation_reply q ≡ creation_reply r = k.only (creation_reply q) refl h in cc

pub registration_step : (valid : Validity) (x : JudgedRegistration) (e : VerificationError RegistrationRefusal) (w : RegistrationRefusal) → e ≡ errors.Refused w
    → registration_answers.IsRefused valid x e
    → registration.IsFirstFailing valid x w
registration_step valid x e w is h = subst (λ (k : VerificationError RegistrationRefusal). registration_answers.IsRefused valid x k) is h

-- the response that is judged is the one of the object's encoding
pub response_is : (r : Creation) (object bytes t : List ℕ) → object ≡ bytes → ObjectOf (object_of r) bytes
    → record { object = object; client_data = t; raw_id = None } ≡ ceremony.response r t
response_is r object bytes t e h = ap (λ (o : List ℕ). record { object = o; client_data = t; raw_id = None }) (e ∙ h.1.1)
