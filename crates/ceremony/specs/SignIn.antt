-- A sign-in (WebAuthn Level 2, section 7.2) by packets.
use Rattle.std.specs.Prelude.{ℕ, List}
use Rattle.refusal_order.specs.Lines.{Each}
use Rattle.hidframe.specs.declared.Packet.{Packet}
use Rattle.ctap_replies.specs.declared.reply.Kind.TheVariants.{GetAssertion}
use Rattle.ctap_replies.specs.Replies.{Assertion, ReplyOf, assertion_reply}
use Rattle.client.specs.Responses.{response_of}
use Rattle.cose.specs.Schemes.{Validity}
use Rattle.verification.specs.SignIn.{IsFirstFailing, PassesSignInStep, PassesSignIn, credential_steps}
use Rattle.verification.specs.declared.refusal.SignInRefusal.{SignInRefusal}
use Rattle.site.specs.State.{IsAfterSignIn, SiteState, judged_sign_in}
use Rattle.site.specs.Answers.{IsSignedIn}
use Rattle.ceremony.specs.Verdict.{CarriesReply, Ceremony, Succeeds}
use Rattle.ceremony.specs.declared.signing_in.Accepted.{Accepted}

-- in a session of a site, with client data t: the message is a reply to getAssertion (CTAP 2.1, section 6.2.2), whose
-- response is judged
abbrev pub sign_in : Validity → SiteState → ℕ → List ℕ → Ceremony Assertion SignInRefusal
sign_in valid s session t = record {
  command = GetAssertion;
  IsReply = λ r m. ReplyOf (assertion_reply r) m;
  PassesSite = λ r. PassesSignIn valid (judged_sign_in s session (response_of r t));
  FailsSite = λ r w. IsFirstFailing valid (judged_sign_in s session (response_of r t)) w;
}

-- the first `used` packets succeed by a reply whose user, credential and mark of backup are answered
abbrev pub AcceptsSignIn : Validity → SiteState → ℕ → List ℕ → ℕ → List Packet → Accepted → Type 0
AcceptsSignIn valid s session t c ps a =
    (r : Assertion) × Succeeds (sign_in valid s session t) c ps a.used r
    × IsSignedIn s (response_of r t) (record { user = a.user; credential = a.credential; backed_up = a.backed_up })

-- the site afterwards
abbrev pub IsAfter : SiteState → ℕ → List ℕ → ℕ → List Packet → SiteState → Type 0
IsAfter s session t c ps new =
    CarriesReply (λ r m. ReplyOf (assertion_reply r) m) (λ r. IsAfterSignIn s session (response_of r t) new) c ps

-- the reply passes the steps on the session and the credential
abbrev pub Begins : Validity → SiteState → ℕ → List ℕ → Assertion → Type 0
Begins valid s session t r = Each (PassesSignInStep valid (judged_sign_in s session (response_of r t))) credential_steps

-- the packets carry a reply that does
abbrev pub CarriesBeginning : Validity → SiteState → ℕ → List ℕ → ℕ → List Packet → Type 0
CarriesBeginning valid s session t c ps =
    CarriesReply (λ r m. ReplyOf (assertion_reply r) m) (Begins valid s session t) c ps
