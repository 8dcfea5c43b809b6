-- The steps that verify an authentication assertion (WebAuthn Level 2, section 7.2), the rules on backup that profile 2
-- adds, and those on frames of Level 3, section 7.2.
use Rattle.std.specs.Prelude.{◌≡◌, ◌<◌, ◌⊎◌, ℕ, List, [], ◌∷◌, ◌++◌, Option, Some, None, IsSome, false, Contains}
use Rattle.std.specs.Option.{ForSome}
use Rattle.sha2.specs.Sha256.{sha256}
use Rattle.refusal_order.specs.Lines.{Each, FirstFailing}
use Rattle.clientdata.specs.Reading.{seen_of}
use Rattle.clientdata.specs.declared.record.CeremonyType.TheVariants.{Get}
use Rattle.authdata.specs.Flags.{is_set, AT, BE}
use Rattle.authdata.specs.Layout.{AuthenticatorData, AuthOf}
use Rattle.authdata.specs.Responses.{AuthenticatorAssertionResponse}
use Rattle.verification.specs.Records.{RelyingParty, Credential, ExpectedSignIn}
use Rattle.cose.specs.Schemes.{Validity}
use Rattle.verification.specs.Shared.{HasType, HasChallenge, HasOrigin, HasNoBinding, HasTopOrigin, MayBeFramed, IsFor, IsPresent, IsVerifiedAs}
use Rattle.verification.specs.declared.refusal.SignInRefusal.{SignInRefusal}
use Rattle.verification.specs.declared.refusal.SignInRefusal.TheVariants as step

-- a sign-in as it is judged: the relying party; what the session expects, where one is open for sign-in; the
-- credential that was found for it, where one was; and the response
pub record JudgedSignIn : Type 0 where
  pub rp : RelyingParty
  pub session : Option ExpectedSignIn
  pub credential : Option Credential
  pub response : AuthenticatorAssertionResponse

-- each user that is named, by the session or by the response, is this one, and at least one is named
abbrev pub AreUser : Option (List ℕ) → Option (List ℕ) → List ℕ → Type 0
AreUser None None user = ⊥
AreUser (Some x) None user = x ≡ user
AreUser None (Some y) user = y ≡ user
AreUser (Some x) (Some y) user = (x ≡ user) × (y ≡ user)

-- the counter has grown, or neither side counts
abbrev pub IsCounted : ℕ → ℕ → Type 0
IsCounted stored received = ((stored ≡ 0) × (received ≡ 0)) ⊎ (stored < received)

-- the response passes a step, where it passes the earlier ones
abbrev pub PassesSignInStep : Validity → JudgedSignIn → SignInRefusal → Type 0
-- the session is open, for sign-in
PassesSignInStep valid x step.SessionNotOpen = IsSome x.session
-- the credential is listed, where there is a list
PassesSignInStep valid x step.CredentialNotAllowed = ForSome x.session (λ e. (e.allow ≡ []) ⊎ Contains e.allow x.response.credential)
-- the credential is registered, under the response's id, and not retired
PassesSignInStep valid x step.UnknownCredential = IsSome x.credential × ForSome x.credential (λ c. (c.id ≡ x.response.credential) × (c.retired ≡ false))
-- each user that is named is the credential's
PassesSignInStep valid x step.OtherUser = ForSome x.session (λ e. ForSome x.credential (λ c. AreUser e.user x.response.user c.user))
-- the client data can be read
PassesSignInStep valid x step.UnreadableClientData = IsSome (seen_of x.response.client_data)
-- their type is webauthn.get
PassesSignInStep valid x step.WrongType = ForSome (seen_of x.response.client_data) (HasType Get)
-- their challenge is the session's
PassesSignInStep valid x step.WrongChallenge = ForSome x.session (λ e. ForSome (seen_of x.response.client_data) (HasChallenge e.challenge))
-- their origin is one of the relying party's
PassesSignInStep valid x step.WrongOrigin = ForSome (seen_of x.response.client_data) (HasOrigin x.rp)
-- in Level 3, its page is in no frame of another site, unless the relying party allows that
PassesSignInStep valid x step.CrossOrigin = ForSome (seen_of x.response.client_data) (MayBeFramed x.rp)
-- and then the page at the top is one of those that it names
PassesSignInStep valid x step.WrongTopOrigin = ForSome (seen_of x.response.client_data) (HasTopOrigin x.rp)
-- token binding is not used; Level 3 does not look at it
PassesSignInStep valid x step.TokenBinding = ForSome (seen_of x.response.client_data) (HasNoBinding x.rp.profile)
-- the bytes are authenticator data with AT clear
PassesSignInStep valid x step.BadAuthenticatorData = (a : AuthenticatorData) × AuthOf x.rp.profile a x.response.auth_data × (is_set a.flags AT ≡ false)
-- rpIdHash is the hash of the rp id
PassesSignInStep valid x step.WrongRelyingParty = (a : AuthenticatorData) → AuthOf x.rp.profile a x.response.auth_data → IsFor x.rp a
-- UP is set
PassesSignInStep valid x step.UserNotPresent = (a : AuthenticatorData) → AuthOf x.rp.profile a x.response.auth_data → IsPresent a
-- UV is set, where the session requires it
PassesSignInStep valid x step.UserNotVerified = ForSome x.session
    (λ e. (a : AuthenticatorData) → AuthOf x.rp.profile a x.response.auth_data → IsVerifiedAs e.uv a)
-- the signature is valid over the authenticator data as they came, then the hash of the client data
PassesSignInStep valid x step.BadSignature =
    ForSome x.credential (λ c. valid c.key (x.response.auth_data ++ sha256 x.response.client_data) x.response.signature)
-- the counter has grown
PassesSignInStep valid x step.CounterNotGreater =
    ForSome x.credential (λ c. (a : AuthenticatorData) → AuthOf x.rp.profile a x.response.auth_data → IsCounted c.sign_count a.sign_count)
-- BE is what it was, where that is known
PassesSignInStep valid x step.EligibilityChanged =
    ForSome x.credential (λ c. ForSome c.eligible (λ e. (a : AuthenticatorData) → AuthOf x.rp.profile a x.response.auth_data → is_set a.flags BE ≡ e))

-- the steps in their order: on the session and the credential; on the client data; on the authenticator data;
-- on the signature, the counter and the mark of eligibility
abbrev pub credential_steps : List SignInRefusal
credential_steps = step.SessionNotOpen ∷ step.CredentialNotAllowed ∷ step.UnknownCredential ∷ step.OtherUser ∷ []

abbrev pub client_data_steps : List SignInRefusal
client_data_steps =
    step.UnreadableClientData ∷ step.WrongType ∷ step.WrongChallenge ∷ step.WrongOrigin ∷ step.CrossOrigin ∷ step.WrongTopOrigin
    ∷ step.TokenBinding ∷ []

abbrev pub auth_data_steps : List SignInRefusal
auth_data_steps = step.BadAuthenticatorData ∷ step.WrongRelyingParty ∷ step.UserNotPresent ∷ step.UserNotVerified ∷ []

abbrev pub signature_steps : List SignInRefusal
signature_steps = step.BadSignature ∷ step.CounterNotGreater ∷ step.EligibilityChanged ∷ []

abbrev pub steps : List SignInRefusal
steps = credential_steps ++ (client_data_steps ++ (auth_data_steps ++ signature_steps))

abbrev pub PassesSignIn : Validity → JudgedSignIn → Type 0
PassesSignIn valid x = Each (PassesSignInStep valid x) steps

-- the first step that the response does not pass: it passes each earlier one
abbrev pub IsFirstFailing : Validity → JudgedSignIn → SignInRefusal → Type 0
IsFirstFailing valid x w = FirstFailing (PassesSignInStep valid x) steps w
