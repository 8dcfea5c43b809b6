-- No sign-in without a fresh assertion: what holds of each run, if signatures can't be forged.
use Rattle.std.specs.Prelude.{◌≡◌, ◌≢◌, ◌⊎◌, ℕ, List, [], ◌∷◌, ◌++◌, Option, Some, None, true, false, codes, Contains}
use Rattle.std.specs.List.{All, AllPairs}
use Rattle.sha2.specs.Sha256.{sha256}
use Rattle.hidframe.specs.declared.Packet.{Packet}
use Rattle.clientdata.specs.Reading.{seen_of}
use Rattle.clientdata.specs.Serialised.{challenge_text_of}
use Rattle.clientdata.specs.declared.seen.CrossOrigin.TheVariants as cross
use Rattle.clientdata.specs.declared.seen.TopOrigin.TheVariants as top
use Rattle.clientdata.specs.declared.seen.Seen.{Seen}
use Rattle.authdata.specs.declared.profile.Profile.TheVariants.{Level3}
use Rattle.cose.specs.Keys.{alg_of}
use Rattle.cose.specs.Schemes.{Validity}
use Rattle.cose.specs.declared.key.CoseKey.{CoseKey}
use Rattle.authdata.specs.Flags.{is_set, UP, UV}
use Rattle.authdata.specs.Layout.{AttestedCredential, AuthenticatorData, AuthOf}
use Rattle.authdata.specs.Objects.{Attestation}
use Rattle.authdata.specs.Responses as responses
use Rattle.authdata.specs.Responses.{AuthenticatorAssertionResponse}
use Rattle.authdata.specs.Statements.{IsNone, IsSelfSigned}
use Rattle.ctap_replies.specs.Replies as replies
use Rattle.ctap_replies.specs.Replies.{ReplyOf, assertion_reply, creation_reply}
use Rattle.verification.specs.Records.{Credential, ExpectedRegistration, ExpectedSignIn}
use Rattle.verification.specs.Registration.{Attests}
use Rattle.site_state.specs.Table.{row_of}
use Rattle.site_state.specs.Sessions.{registration_at, sign_in_at}
use Rattle.site.specs.State.{SiteState}
use Rattle.authenticator.specs.Steps.{Entry, Keys, assertion}
use Rattle.client.specs.Responses.{response_of}
use Rattle.ceremony.specs.Registration as registering
use Rattle.ceremony.specs.Verdict.{Delivers}
use Rattle.agreement.specs.Begun.{HasOwnChallenges}
use Rattle.agreement.specs.World.{AtSite, Asks, Deletes, Done, Event, IsRun, IsStart, Moment, Registers, RegistersBy, Reloads, Retires, SignsIn, SignsInBy}
use Rattle.agreement.specs.World.{SiteEvent, World}

-- ---- sign-ins

-- the packets carry a reply that makes this response with the client data
abbrev pub Carried : ℕ → List Packet → List ℕ → AuthenticatorAssertionResponse → Type 0
Carried c ps t r = (n : ℕ) × (m : List ℕ) × (a : replies.Assertion) × Delivers c ps n m × ReplyOf (assertion_reply a) m × (r ≡ response_of a t)

-- the event brings this response to the session
abbrev pub BringsTo : SiteEvent → ℕ → AuthenticatorAssertionResponse → Type 0
BringsTo (SignsIn k s) n r = (k ≡ n) × (s ≡ r)
BringsTo (SignsInBy k c ps t) n r = (k ≡ n) × Carried c ps t r
BringsTo e n r = ⊥

-- to that of site i
abbrev pub Brings : Event → ℕ → ℕ → AuthenticatorAssertionResponse → Type 0
Brings (AtSite j e) i n r = (j ≡ i) × BringsTo e n r
Brings (Asks k channel bs consent words) i n r = ⊥
Brings (Reloads k) i n r = ⊥

-- a sign-in with this response for a credential that is registered at the site, whether it is accepted or not
pub record Tries (m : Moment) (i n : ℕ) (r : AuthenticatorAssertionResponse) (row : Credential) : Type 0 where
  pub brings : Brings m.event i n r
  pub found : row_of r.credential (m.old.site i).rows ≡ Some row

-- it is accepted
pub record IsAccepted (m : Moment) (i n : ℕ) (r : AuthenticatorAssertionResponse) (row : Credential) : Type 0 where
  pub tries : Tries m i n r row
  pub done : m.end ≡ Done

-- a sign-in that is accepted is for a credential that is registered at the site, and is not retired (section 7.2, step 7)
abbrev pub IsKnown : Moment → Type 0
IsKnown m = (i n : ℕ) (r : AuthenticatorAssertionResponse) → Brings m.event i n r → m.end ≡ Done → (row : Credential) × IsAccepted m i n r row × (row.retired ≡ false)

-- ---- registrations

-- the packets carry a reply that makes this response with the client data
abbrev pub CarriedNew : ℕ → List Packet → List ℕ → responses.AuthenticatorAttestationResponse → Type 0
CarriedNew c ps t r =
    (n : ℕ) × (m : List ℕ) × (a : replies.Creation) × Delivers c ps n m × ReplyOf (creation_reply a) m × (r ≡ registering.response a t)

-- the event brings this response to the session
abbrev pub BringsNewTo : SiteEvent → ℕ → responses.AuthenticatorAttestationResponse → Type 0
BringsNewTo (Registers k s) n r = (k ≡ n) × (s ≡ r)
BringsNewTo (RegistersBy k c ps t) n r = (k ≡ n) × CarriedNew c ps t r
BringsNewTo e n r = ⊥

-- to that of site i, where it is accepted
pub record IsAcceptedRegistration (m : Moment) (i n : ℕ) (r : responses.AuthenticatorAttestationResponse) : Type 0 where
  pub event : SiteEvent
  pub here : m.event ≡ AtSite i event
  pub brings : BringsNewTo event n r
  pub done : m.end ≡ Done

-- ---- signings

-- what is signed for the response: the authenticator data, and then the hash of the client data
abbrev pub message_of : AuthenticatorAssertionResponse → List ℕ
message_of r = r.auth_data ++ sha256 r.client_data

-- an authenticator has made the key
abbrev pub WasMade : World → CoseKey → Type 0
WasMade w key = (k : ℕ) × Contains (w.holder k).made key

-- an authenticator that has made the key has signed the message under it
pub record WasSigned (w : World) (key : CoseKey) (message : List ℕ) : Type 0 where
  pub holder : ℕ
  pub made : Contains (w.holder holder).made key
  pub entry : Entry
  pub there : Contains (w.holder holder).signed entry
  pub under : entry.key ≡ key
  pub of : entry.message ≡ message

-- Signatures can't be forged: where a sign-in brings a valid signature under a key that was made, it was signed before.
abbrev pub IsIdeal : Validity → Moment → Type 0
IsIdeal valid m =
    (i n : ℕ) (r : AuthenticatorAssertionResponse) (row : Credential) → Tries m i n r row → valid row.key (message_of r) r.signature
    → WasMade m.old row.key → WasSigned m.old row.key (message_of r)

-- the entry is an assertion by some authenticator, under the credential's key, for this response
pub record RestsOn (m : Moment) (r : AuthenticatorAssertionResponse) (row : Credential) (e : Entry) : Type 0 where
  pub there : (k : ℕ) × Contains (m.old.holder k).signed e
  pub purpose : e.purpose ≡ assertion
  pub key : e.key ≡ row.key
  pub message : e.message ≡ message_of r

-- ---- what holds

-- no other site's page frames the one that asked (Level 3, 5.8.1): crossOrigin is absent or false, and there is no topOrigin
abbrev pub IsAlone : Seen → Type 0
IsAlone seen = ((seen.cross_origin ≡ cross.Absent) ⊎ (seen.cross_origin ≡ cross.False)) × (seen.top_origin ≡ top.Absent)

-- the page at the top is one that the site names
abbrev pub IsFramedByNamed : SiteState → Seen → Type 0
IsFramedByNamed s seen = (page : List ℕ) × (seen.top_origin ≡ top.Named page) × Contains s.rp.top_origins page

-- client data of this type and challenge, from a page that is one of the site's; of a site of Level 3, one that no other
-- site's page frames, but one that it names (Level 3, 7.1 and 7.2)
pub record SaysFor (s : SiteState) (kind challenge client_data : List ℕ) : Type 0 where
  pub seen : Seen
  pub reads : seen_of client_data ≡ Some seen
  pub kind_is : seen.kind ≡ kind
  pub challenge_is : seen.challenge ≡ challenge_text_of challenge
  pub origin : Contains s.rp.origins seen.origin
  pub framed : s.rp.profile ≡ Level3 → IsAlone seen ⊎ IsFramedByNamed s seen

-- the client data were made for this sign-in: their type is get, their challenge is the one that the answered session
-- gave out, and the page is one of the site's (WebAuthn Level 2, section 7.2, steps 11 to 13)
pub record IsFresh (m : Moment) (i n : ℕ) (client_data : List ℕ) : Type 0 where
  pub expected : ExpectedSignIn
  pub session : sign_in_at n (m.old.site i).sessions ≡ Some expected
  pub says : SaysFor (m.old.site i) (codes "webauthn.get") expected.challenge client_data

-- a sign-in that is accepted answers its session: the client data are fresh; the credential is one that the session lists, where it lists
-- any; whoever the session or the response names is the credential's user, and one of them names him (steps 5 to 7)
pub record FitsSession (m : Moment) (i n : ℕ) (r : AuthenticatorAssertionResponse) (row : Credential) : Type 0 where
  pub fresh : IsFresh m i n r.client_data
  pub expected : ExpectedSignIn
  pub session : sign_in_at n (m.old.site i).sessions ≡ Some expected
  pub listed : (expected.allow ≡ []) ⊎ Contains expected.allow r.credential
  pub named : (user : List ℕ) → expected.user ≡ Some user → user ≡ row.user
  pub shown : (user : List ℕ) → r.user ≡ Some user → user ≡ row.user
  pub someone : expected.user ≡ None → r.user ≢ None

-- so it is whether or not the credential's key was made
abbrev pub Fits : Moment → Type 0
Fits m = (i n : ℕ) (r : AuthenticatorAssertionResponse) (row : Credential) → IsAccepted m i n r row → FitsSession m i n r row

-- a registration that is accepted answers its session (section 7.1): its client data are of type create, with the session's
-- challenge, from a page that is one of the site's; the authenticator data are for the site's rp id, with the user present, and
-- verified if the session requires it; the key is of an algorithm that was offered, and its statement shows no attestation, or
-- is signed with it over these client data; the id was not registered, and is from then on, with the session's user, the key
-- and the counter that came. In Level 3 the user need not be present where the session is conditional, and the statement is
-- not looked at where none was asked for
pub record FitsRegistration (valid : Validity) (m : Moment) (i n : ℕ) (r : responses.AuthenticatorAttestationResponse) : Type 0 where
  pub expected : ExpectedRegistration
  pub session : registration_at n (m.old.site i).sessions ≡ Some expected
  pub says : SaysFor (m.old.site i) (codes "webauthn.create") expected.challenge r.client_data
  pub object : Attestation
  pub auth : AuthenticatorData
  pub credential : AttestedCredential
  pub attests : Attests (m.old.site i).rp.profile r object auth credential
  pub rp_id : auth.rp_id_hash ≡ sha256 (m.old.site i).rp.rp_id
  pub present : (is_set auth.flags UP ≡ true) ⊎ (((m.old.site i).rp.profile ≡ Level3) × (expected.conditional ≡ true))
  pub verified : expected.uv ≡ true → is_set auth.flags UV ≡ true
  pub offered : Contains expected.algorithms (alg_of credential.key)
  pub statement : (((m.old.site i).rp.profile ≡ Level3) × (expected.attestation ≡ false)) ⊎ IsNone object
      ⊎ IsSelfSigned valid object credential.key (sha256 r.client_data)
  pub new : row_of credential.id (m.old.site i).rows ≡ None
  pub row : Credential
  pub stored : row_of credential.id (m.new.site i).rows ≡ Some row
  pub user : row.user ≡ expected.user
  pub key : row.key ≡ credential.key
  pub sign_count : row.sign_count ≡ auth.sign_count
  pub not_retired : row.retired ≡ false

abbrev pub Registered : Validity → Moment → Type 0
Registered valid m = (i n : ℕ) (r : responses.AuthenticatorAttestationResponse) → IsAcceptedRegistration m i n r → FitsRegistration valid m i n r

-- the entry signed the hash of the site's rp id, the counter that is stored from then on, and the hash of just these
-- client data, which are fresh
pub record Says (m : Moment) (i n : ℕ) (r : AuthenticatorAssertionResponse) (e : Entry) : Type 0 where
  pub auth : AuthenticatorData
  pub bytes : List ℕ
  pub spelled : AuthOf (m.old.site i).rp.profile auth bytes
  pub bare : auth.attested ≡ None
  pub message : e.message ≡ bytes ++ sha256 r.client_data
  pub rp_id : auth.rp_id_hash ≡ sha256 (m.old.site i).rp.rp_id
  pub after : Credential
  pub stored : row_of r.credential (m.new.site i).rows ≡ Some after
  pub sign_count : after.sign_count ≡ auth.sign_count
  pub fresh : IsFresh m i n r.client_data

-- the user was present at the getAssertion that the entry answers, and verified if the session required it
pub record Consented (m : Moment) (i n : ℕ) (e : Entry) : Type 0 where
  pub present : e.consent.present ≡ true
  pub verified : (x : ExpectedSignIn) → sign_in_at n (m.old.site i).sessions ≡ Some x → x.uv ≡ true → e.consent.verified ≡ true

-- an accepted sign-in for a credential whose key was made rests on an entry, and each on which it rests says so
abbrev pub Agrees : Moment → Type 0
Agrees m =
    (i n : ℕ) (r : AuthenticatorAssertionResponse) (row : Credential) → IsAccepted m i n r row → WasMade m.old row.key
    → ((e : Entry) × RestsOn m r row e) × ((e : Entry) → RestsOn m r row e → Says m i n r e × Consented m i n e)

-- of each moment of a run and each later one, with those between the two
abbrev pub AllSpans : (Moment → List Moment → Moment → Type 0) → List Moment → Type 0
AllSpans R run = (before between later : List Moment) (m l : Moment) → run ≡ before ++ m ∷ (between ++ l ∷ later) → R m between l

-- at the moment site i deletes the credential of this id
abbrev pub IsDeleted : ℕ → List ℕ → Moment → Type 0
IsDeleted i id m = (m.event ≡ AtSite i (Deletes id)) × (m.end ≡ Done)

-- and at none of these moments
abbrev pub NoneDeleted : ℕ → List ℕ → List Moment → Type 0
NoneDeleted i id moments = All (λ m. IsDeleted i id m → ⊥) moments

-- two accepted sign-ins for one credential of a site, which is not deleted between them, rest on no common entry
abbrev pub ShareNone : Moment → List Moment → Moment → Type 0
ShareNone m between l =
    (i n k : ℕ) (r t : AuthenticatorAssertionResponse) (row low : Credential) → IsAccepted m i n r row → IsAccepted l i k t low → r.credential ≡ t.credential
    → NoneDeleted i r.credential between → (e : Entry) → RestsOn m r row e → RestsOn l t low e → ⊥

-- nor do any two at all sites, where no two sites have rp ids of one hash and no two client data are of one, and, of one site, where a host that
-- chose a challenge gave it to no other session
abbrev pub RestsOnce : List Moment → Moment → Moment → Type 0
RestsOnce run m l =
    (i j n k : ℕ) (r t : AuthenticatorAssertionResponse) (row low : Credential) → IsAccepted m i n r row → IsAccepted l j k t low
    → (sha256 (m.old.site i).rp.rp_id ≡ sha256 (l.old.site j).rp.rp_id → i ≡ j) → (sha256 r.client_data ≡ sha256 t.client_data → r.client_data ≡ t.client_data)
    → (i ≡ j → HasOwnChallenges run i) → (e : Entry) → RestsOn m r row e → RestsOn l t low e → ⊥

-- the session that an event answers
abbrev pub session_in : SiteEvent → Option ℕ
session_in (SignsIn n r) = Some n
session_in (SignsInBy n c ps t) = Some n
session_in (Registers n r) = Some n
session_in (RegistersBy n c ps t) = Some n
session_in e = None

abbrev pub AnswersSession : Event → ℕ → ℕ → Type 0
AnswersSession (AtSite j e) i n = (j ≡ i) × (session_in e ≡ Some n)
AnswersSession (Asks k channel bs consent words) i n = ⊥
AnswersSession (Reloads k) i n = ⊥

-- no session of a site is accepted twice
abbrev pub DifferInSession : Moment → Moment → Type 0
DifferInSession m l = (i n : ℕ) → AnswersSession m.event i n → AnswersSession l.event i n → m.end ≡ Done → l.end ≡ Done → ⊥

abbrev pub IsRegistration : SiteEvent → Type 0
IsRegistration (Registers n r) = Unit {0}
IsRegistration (RegistersBy n c ps t) = Unit {0}
IsRegistration e = ⊥

-- the event registers this credential at site i
pub record Adds (l : Moment) (i : ℕ) (c : Credential) : Type 0 where
  pub event : SiteEvent
  pub here : l.event ≡ AtSite i event
  pub registration : IsRegistration event
  pub done : l.end ≡ Done
  pub rows : (l.new.site i).rows ≡ (l.old.site i).rows ++ c ∷ []

-- a credential of this id is registered at the site, and it is retired
pub record IsRetired (s : SiteState) (id : List ℕ) : Type 0 where
  pub row : Credential
  pub found : row_of id s.rows ≡ Some row
  pub retired : row.retired ≡ true

-- with it no sign-in is accepted, and its id is not registered
pub record IsRefusedThere (m : Moment) (i : ℕ) (id : List ℕ) : Type 0 where
  pub signs_in : (n : ℕ) (r : AuthenticatorAssertionResponse) (row : Credential) → IsAccepted m i n r row → r.credential ≢ id
  pub registers : (c : Credential) → Adds m i c → c.id ≢ id

-- to retire a credential has that effect; and one that is retired is refused, and retired afterwards, unless it is deleted
pub record Retiring (m : Moment) : Type 0 where
  pub retires : (i : ℕ) (id : List ℕ) (row : Credential) → m.event ≡ AtSite i (Retires id) → m.end ≡ Done → row_of id (m.old.site i).rows ≡ Some row
      → IsRetired (m.new.site i) id
  pub refuses : (i : ℕ) (id : List ℕ) → IsRetired (m.old.site i) id → IsRefusedThere m i id × ((IsDeleted i id m → ⊥) → IsRetired (m.new.site i) id)

-- a credential that is retired at a site, before a moment or after it, is so at each later one, and is refused there, if it is not
-- deleted from the one to the other
abbrev pub StaysRetired : Moment → List Moment → Moment → Type 0
StaysRetired m between l =
    (i : ℕ) (id : List ℕ) → IsRetired (m.old.site i) id ⊎ IsRetired (m.new.site i) id → NoneDeleted i id (m ∷ between)
    → IsRetired (l.old.site i) id × IsRefusedThere l i id

-- no credential of this id is registered at the site
abbrev pub HasNone : SiteState → List ℕ → Type 0
HasNone s id = row_of id s.rows ≡ None

-- to delete a credential has that effect: none has its id then, and each other is as it was; and no sign-in with an id that none
-- has is accepted
pub record Deleting (m : Moment) : Type 0 where
  pub deletes : (i : ℕ) (id : List ℕ) → IsDeleted i id m → HasNone (m.new.site i) id
  pub others : (i : ℕ) (id other : List ℕ) → IsDeleted i id m → other ≢ id → row_of other (m.new.site i).rows ≡ row_of other (m.old.site i).rows
  pub refuses : (i n : ℕ) (id : List ℕ) (r : AuthenticatorAssertionResponse) → HasNone (m.old.site i) id → Brings m.event i n r → m.end ≡ Done
      → r.credential ≢ id

-- where no credential of a site has an id after a moment, none has it at each later one, if it is not registered between the two
abbrev pub StaysDeleted : Moment → List Moment → Moment → Type 0
StaysDeleted m between l =
    (i : ℕ) (id : List ℕ) → HasNone (m.new.site i) id → All (λ x. (c : Credential) → Adds x i c → c.id ≢ id) between → HasNone (l.old.site i) id

pub record Agreement (valid : Validity) (run : List Moment) : Type 0 where
  pub registered : All (Registered valid) run
  pub known : All IsKnown run
  pub fits : All Fits run
  pub agrees : All (λ m. IsIdeal valid m → Agrees m) run
  pub share_none : AllSpans ShareNone run
  pub rests_once : AllPairs (RestsOnce run) run
  pub sessions : AllPairs DifferInSession run
  pub retiring : All Retiring run
  pub retired : AllSpans StaysRetired run
  pub deleting : All Deleting run
  pub deleted : AllSpans StaysDeleted run

-- It is so whatever the scheme calls valid, and whichever key is a secret's.
abbrev pub OfAllRuns : Validity → Keys → Type 0
OfAllRuns valid public = (w : World) (run : List Moment) → IsStart w → IsRun valid public w run → Agreement valid run
