-- An honest run: a site, a client, a device and an authenticator that do what they are asked, and a user who consents
-- (WebAuthn Level 2, sections 7.1 and 7.2).
use Rattle.std.specs.Prelude.{◌≡◌, ◌<◌, ◌⊎◌, ◌+◌, ℕ, List, [], ◌∷◌, ◌++◌, length, map, replicate, Bool, true, false, Some, None, Contains, IsUtf8, if◌then◌else◌}
use Rattle.std.specs.Option.{ForSome}
use Rattle.hidframe.specs.declared.Packet.{Packet}
use Rattle.cose.specs.declared.key.Alg.{Alg}
use Rattle.cose.specs.declared.key.SigningAlg.{SigningAlg}
use Rattle.cose.specs.Keys.{signed_alg}
use Rattle.cose.specs.Schemes.{Validity}
use Rattle.authdata.specs.declared.profile.Profile.{Profile}
use Rattle.authdata.specs.declared.profile.Profile.TheVariants.{Level3}
use Rattle.authdata.specs.declared.statement.AttestationType.{AttestationType}
use Rattle.authdata.specs.declared.statement.AttestationType.TheVariants as types
use Rattle.ctap_replies.specs.Replies as replies
use Rattle.verification.specs.Records as expects
use Rattle.verification.specs.RegistrationAnswers.{AcceptsAttestation}
use Rattle.site_state.specs.Table.{row_of}
use Rattle.site_state.specs.Sessions.{Opening, registration_at, sign_in_at}
use Rattle.site.specs.State as site
use Rattle.site.specs.Laws.{after_begin}
use Rattle.authenticator.specs.State.{CredentialSource, AuthenticatorState}
use Rattle.authenticator.specs.Credentials.{credential_of, resident_ids}
use Rattle.authenticator.specs.Orders.{is_excluded}
use Rattle.authenticator.specs.Steps.{Keys, key_of}
use Rattle.authenticator.specs.declared.consent.Consent.{Consent}
use Rattle.authenticator.specs.declared.consent.Words.{Words}
use Rattle.client.specs.Options as options
use Rattle.client.specs.Asked.{Asks, ClientCall, Sent, descriptors_of, registration_call, sign_in_call}
use Rattle.security_key.specs.declared.serving.Act.TheVariants as act
use Rattle.ceremony.specs.Verdict.{Succeeds}
use Rattle.ceremony.specs.Registration as registration
use Rattle.ceremony.specs.SignIn as sign_in
use Rattle.agreement.specs.Ends.{AuthenticatorEnd, Exchange, IsIdleOn}

-- ---- one request

-- the client asks this on a channel; its packets come to the authenticator's end in their order; the user, being waited
-- for, gives the consent that is asked for, with verification or without; and nothing else happens there
pub record Decided (valid : Validity) (public : Keys) (call : ClientCall) (uv : Bool) (c : ℕ) (e : AuthenticatorEnd) (words : Words) (out : Sent)
    (packets : List Packet) (f : AuthenticatorEnd) : Type 0 where
  pub asks : Asks call c out
  pub consent : Consent
  pub waits : ℕ
  pub present : consent.present ≡ true
  pub configured : uv ≡ true → e.authenticator.uv ≡ true
  pub verified : uv ≡ true → consent.verified ≡ true
  pub exchange : Exchange valid public e (map act.Packet out.packets ++ (replicate waits act.Wait ++ act.Decide consent words ∷ [])) packets f

-- ---- a credential at both ends

-- the authenticator stores it and the site has it registered, with one counter
pub record IsShared (public : Keys) (s : site.SiteState) (a : AuthenticatorState) (c : CredentialSource) (n : ℕ) : Type 0 where
  pub stored : credential_of c.id a.credentials ≡ Some c
  pub sign_count : c.sign_count ≡ n
  pub rp_id : c.rp_id ≡ s.rp.rp_id
  pub registered : row_of c.id s.rows ≡ Some
      (record { id = c.id; user = c.user; key = key_of public c; sign_count = n; eligible = Some false; retired = false })

-- ---- a ceremony

-- what the site is and expects; what the client is asked for, on which channel; the authenticator's end, and the words
-- for the new credential; the client data and the packets of the client; the packets that come back, and the
-- authenticator's end then
pub record Ceremony (Expected Options : Type 0) : Type 0 where
  pub site : site.SiteState
  pub session : ℕ
  pub expected : Expected
  pub origin : List ℕ
  pub options : Options
  pub channel : ℕ
  pub before : AuthenticatorEnd
  pub words : Words
  pub out : Sent
  pub packets : List Packet
  pub after : AuthenticatorEnd

-- ---- a registration

abbrev pub Registering : Type 0
Registering = Ceremony expects.ExpectedRegistration options.RegistrationOptions

-- an algorithm is offered that an authenticator signs by
abbrev pub OffersSigning : List Alg → Type 0
OffersSigning offered = (alg : SigningAlg) × Contains offered (signed_alg alg)

-- the attestation as it counts: in Level 3, where the session asked for none, as none
abbrev pub counts_as : Profile → Bool → AttestationType → AttestationType
counts_as Level3 asked attest = if asked then attest else types.None
counts_as profile asked attest = attest

pub record IsHonestRegistration (valid : Validity) (public : Keys) (x : Registering) : Type 0 where
  -- the session is open, and the options are its own
  pub is_open : registration_at x.session x.site.sessions ≡ Some x.expected
  pub rp_id : x.options.rp_id ≡ x.site.rp.rp_id
  pub challenge : x.options.challenge ≡ x.expected.challenge
  pub user : x.options.user_id ≡ x.expected.user
  pub algorithms : x.options.algs ≡ x.expected.algorithms
  pub verified : x.options.uv ≡ x.expected.uv
  pub offered : OffersSigning x.options.algs
  -- the page is one of the site's
  pub origin : Contains x.site.rp.origins x.origin
  pub origin_text : IsUtf8 x.origin
  -- the site accepts what the authenticator attests, as it counts
  pub accepted : AcceptsAttestation x.site.policy (counts_as x.site.rp.profile x.expected.attestation x.before.authenticator.attest)
  -- the credential is new at both ends, and there is room for it; none that is excluded is stored
  pub not_stored : credential_of x.words.id x.before.authenticator.credentials ≡ None
  pub not_registered : row_of x.words.id x.site.rows ≡ None
  pub room : length x.before.authenticator.credentials < 256
  pub site_room : length x.site.rows < 65536
  pub not_excluded : is_excluded x.options.rp_id x.before.authenticator.credentials (descriptors_of x.options.exclude) ≡ false
  -- the authenticator does what the client asks
  pub decided : Decided valid public (registration_call x.origin x.options) x.options.uv x.channel x.before x.words x.out x.packets x.after

-- the packets are accepted, all of them and with the last; and then the credential is at both ends, its counter 0
pub record Registers (valid : Validity) (public : Keys) (x : Registering) : Type 0 where
  pub reply : replies.Creation
  pub accepted : Succeeds (registration.registration valid x.site x.session x.out.client_data) x.channel x.packets (length x.packets) reply
  pub credential : CredentialSource
  pub id : credential.id ≡ x.words.id
  pub rp_id : credential.rp_id ≡ x.options.rp_id
  pub user : credential.user ≡ x.options.user_id
  pub resident : credential.resident ≡ x.options.rk
  pub shared : (s : site.SiteState) → registration.IsAfter x.site x.session x.out.client_data x.channel x.packets s
      → IsShared public s x.after.authenticator credential 0
  pub newest : x.options.rk ≡ true → (later : List (List ℕ)) × (resident_ids x.options.rp_id x.after.authenticator.credentials ≡ credential.id ∷ later)
  pub idle : IsIdleOn x.channel x.after

-- ---- a sign-in

abbrev pub SigningIn : Type 0
SigningIn = Ceremony expects.ExpectedSignIn options.SignInOptions

-- the credential is asked for by its id, for a user that the session names; or none is asked for, it is the most recent
-- resident one, and the session names its user or none
abbrev pub IsAskedFor : CredentialSource → AuthenticatorState → expects.ExpectedSignIn → Type 0
IsAskedFor c a e =
    ((e.allow ≡ c.id ∷ []) × (e.user ≡ Some c.user))
    ⊎ ((e.allow ≡ []) × (c.resident ≡ true) × ((later : List (List ℕ)) × (resident_ids c.rp_id a.credentials ≡ c.id ∷ later))
    × ForSome e.user (λ user. user ≡ c.user))

pub record IsHonestSignIn (valid : Validity) (public : Keys) (x : SigningIn) : Type 0 where
  -- the session is open, and the options are its own
  pub is_open : sign_in_at x.session x.site.sessions ≡ Some x.expected
  pub rp_id : x.options.rp_id ≡ x.site.rp.rp_id
  pub challenge : x.options.challenge ≡ x.expected.challenge
  pub allow : x.options.allow ≡ x.expected.allow
  pub verified : x.options.uv ≡ x.expected.uv
  -- the page is one of the site's
  pub origin : Contains x.site.rp.origins x.origin
  pub origin_text : IsUtf8 x.origin
  -- the authenticator does what the client asks
  pub decided : Decided valid public (sign_in_call x.origin x.options) x.options.uv x.channel x.before x.words x.out x.packets x.after

-- the packets are accepted, all of them and with the last; and then the credential's counter is one higher at both ends
pub record SignsIn (valid : Validity) (public : Keys) (c : CredentialSource) (n : ℕ) (x : SigningIn) : Type 0 where
  pub reply : replies.Assertion
  pub accepted : Succeeds (sign_in.sign_in valid x.site x.session x.out.client_data) x.channel x.packets (length x.packets) reply
  pub shared : (s : site.SiteState) → sign_in.IsAfter x.site x.session x.out.client_data x.channel x.packets s
      → IsShared public s x.after.authenticator (record c { sign_count = n + 1 }) (n + 1)
  pub idle : IsIdleOn x.channel x.after

-- ---- a registration and then a sign-in

-- the site once the registration is accepted; and the sign-in
pub record Run : Type 0 where
  pub registering : Registering
  pub registered : site.SiteState
  pub signing_in : SigningIn

-- the session names the new credential and its user; or it lists none, the credential is resident, and it names its user
-- or none
abbrev pub AsksForNew : Registering → expects.ExpectedSignIn → Type 0
AsksForNew x e =
    ((e.allow ≡ x.words.id ∷ []) × (e.user ≡ Some x.options.user_id))
    ⊎ ((e.allow ≡ []) × (x.options.rk ≡ true) × ForSome e.user (λ user. user ≡ x.options.user_id))

pub record IsHonestRun (valid : Validity) (public : Keys) (x : Run) : Type 0 where
  pub idle : IsIdleOn x.registering.channel x.registering.before
  pub honest_registration : IsHonestRegistration valid public x.registering
  pub registered : registration.IsAfter x.registering.site x.registering.session x.registering.out.client_data x.registering.channel x.registering.packets
      x.registered
  -- a session begins for the sign-in, on the same channel
  pub begins : (opening : Opening) × (x.signing_in.site ≡ after_begin x.registered opening)
  pub goes_on : x.signing_in.before ≡ x.registering.after
  pub channel : x.signing_in.channel ≡ x.registering.channel
  pub honest_sign_in : IsHonestSignIn valid public x.signing_in
  pub asks : AsksForNew x.registering x.signing_in.expected

-- both are accepted; the credential's counter is 0, and then 1
pub record AcceptsBoth (valid : Validity) (public : Keys) (x : Run) : Type 0 where
  pub registers : Registers valid public x.registering
  pub before : IsShared public x.registered x.registering.after.authenticator registers.credential 0
  pub signs_in : SignsIn valid public registers.credential 0 x.signing_in
  pub after : (s : site.SiteState)
      → sign_in.IsAfter x.signing_in.site x.signing_in.session x.signing_in.out.client_data x.signing_in.channel x.signing_in.packets s
      → IsShared public s x.signing_in.after.authenticator (record registers.credential { sign_count = 1 }) 1
