-- What the laws of runs ask for before they speak: each premise is met where this is so, and asks for no more.
use Rattle.std.specs.Prelude.{◌≡◌, ◌≢◌, ◌<◌, ℕ, List, [], ◌∷◌, ◌++◌, length, map, replicate, Bool, true, false, Some, None, Contains, IsUtf8}
use Rattle.std.specs.List.{All}
use Rattle.std.specs.Option.{ForSome}
use Rattle.std.specs.FinMap as finite
use Rattle.sha2.specs.Sha256.{sha256}
use Rattle.hidframe.specs.declared.Packet.{Packet}
use Rattle.clientdata.specs.Reading.{seen_of}
use Rattle.clientdata.specs.declared.seen.Seen.{Seen}
use Rattle.cose.specs.Keys.{signed_alg}
use Rattle.cose.specs.Schemes.{Validity}
use Rattle.cose.specs.declared.key.CoseKey.{CoseKey}
use Rattle.cose.specs.declared.key.SigningAlg.{SigningAlg}
use Rattle.authdata.specs.Responses as responses
use Rattle.authdata.specs.Responses.{AuthenticatorAssertionResponse}
use Rattle.authdata.specs.declared.statement.AttestationType.{AttestationType}
use Rattle.ctap_requests.specs.Requests.{AssertionRequest, get_assertion}
use Rattle.ctap_requests.specs.Status.{IsRequest}
use Rattle.ctap_replies.specs.Replies as replies
use Rattle.ctap_replies.specs.Replies.{ReplyOf, assertion_reply, creation_reply}
use Rattle.verification.specs.Records as expects
use Rattle.verification.specs.Records.{Credential}
use Rattle.verification.specs.RegistrationAnswers.{AcceptsAttestation}
use Rattle.site_state.specs.Sessions.{Expected, Opening, challenge_in, registration_at, sign_in_at}
use Rattle.site_state.specs.Table.{row_of}
use Rattle.site.specs.Laws.{after_begin}
use Rattle.site.specs.State.{SiteState}
use Rattle.authenticator.specs.State.{AuthenticatorState, CredentialSource, new_state}
use Rattle.authenticator.specs.Credentials.{credential_of, resident_ids}
use Rattle.authenticator.specs.Orders.{is_excluded}
use Rattle.authenticator.specs.Steps.{Entry, Keys, assertion, key_of}
use Rattle.authenticator.specs.declared.consent.Consent.{Consent}
use Rattle.authenticator.specs.declared.consent.Words.{Words}
use Rattle.client.specs.Asked.{Asks, ClientCall, Sent, descriptors_of, registration_call, sign_in_call}
use Rattle.client.specs.Responses.{response_of}
use Rattle.security_key.specs.declared.serving.Act.TheVariants as act
use Rattle.ceremony.specs.Registration as registering
use Rattle.ceremony.specs.Verdict.{Delivers}
use Rattle.agreement.specs.Agreement.{AnswersSession, IsAccepted, IsAcceptedRegistration, IsIdeal, IsRetired, NoneDeleted, RestsOn, RestsOnce, Tries, WasMade, message_of}
use Rattle.agreement.specs.Begun.{HasOwnChallenges, IsBegun}
use Rattle.agreement.specs.Ends.{AuthenticatorEnd, Exchange, IsIdleOn}
use Rattle.agreement.specs.Honest as honest
use Rattle.agreement.specs.Honest.{AsksForNew, Decided, IsAskedFor, IsHonestRegistration, IsHonestRun, IsHonestSignIn, IsShared, Registering, SigningIn, counts_as}
use Rattle.agreement.specs.Pages.{AskedOver, IsFromPage}
use Rattle.agreement.specs.Stays.{IsEnd, MayEnd}
use Rattle.agreement.specs.World as world
use Rattle.agreement.specs.World.{Abandons, AtSite, Begins, BeginsAs, Bounds, Deletes, Done, Event, Happens, IsRun, IsStart, Moment, Nothing, Registers, RegistersBy, Reloads, Reopens}
use Rattle.agreement.specs.World.{Retires, SignsIn, SignsInBy, SiteEvent, World}

-- ---- of all runs

pub record RunPremises (valid : Validity) (public : Keys) : Type 0 where
  -- a world begins, whatever its sites are but for their sessions, and whatever its new authenticators are
  pub starts : (w : World) → ((i : ℕ) → (w.site i).sessions.expected ≡ finite.empty)
      → ((k : ℕ) → (aaguid : List ℕ) × (uv : Bool) × (attest : AttestationType)
      × (w.holder k ≡ record { state = new_state aaguid uv attest; signed = []; made = [] }))
      → IsStart w
  -- a run has no moment, or one and then a run
  pub ends : (w : World) → IsRun valid public w []
  pub goes_on : (w : World) (m : Moment) (ms : List Moment) → m.old ≡ w → Happens valid public m.old m.event m.end m.new → IsRun valid public m.new ms
      → IsRun valid public w (m ∷ ms)
  -- whatever is refused changes nothing
  pub refused : (w : World) (e : Event) → Happens valid public w e Nothing w
  -- a sign-in by a response is tried, and one by packets that carry a reply; it is accepted where it is done
  pub tries : (m : Moment) (i n : ℕ) (r : AuthenticatorAssertionResponse) (row : Credential) → m.event ≡ AtSite i (SignsIn n r)
      → row_of r.credential (m.old.site i).rows ≡ Some row → Tries m i n r row
  pub tries_by : (m : Moment) (i n c used : ℕ) (ps : List Packet) (t bs : List ℕ) (a : replies.Assertion) (row : Credential)
      → m.event ≡ AtSite i (SignsInBy n c ps t) → Delivers c ps used bs → ReplyOf (assertion_reply a) bs
      → row_of a.credential (m.old.site i).rows ≡ Some row → Tries m i n (response_of a t) row
  pub accepted : (m : Moment) (i n : ℕ) (r : AuthenticatorAssertionResponse) (row : Credential) → Tries m i n r row → m.end ≡ Done → IsAccepted m i n r row
  -- and so a registration is accepted where it is done
  pub registers : (m : Moment) (i n : ℕ) (r : responses.AuthenticatorAttestationResponse) → m.event ≡ AtSite i (Registers n r) → m.end ≡ Done
      → IsAcceptedRegistration m i n r
  pub registers_by : (m : Moment) (i n c used : ℕ) (ps : List Packet) (t bs : List ℕ) (a : replies.Creation)
      → m.event ≡ AtSite i (RegistersBy n c ps t) → Delivers c ps used bs → ReplyOf (creation_reply a) bs → m.end ≡ Done
      → IsAcceptedRegistration m i n (registering.response a t)
  -- each of the four answers its session
  pub answers_by_sign_in : (i n : ℕ) (r : AuthenticatorAssertionResponse) → AnswersSession (AtSite i (SignsIn n r)) i n
  pub answers_by_sign_in_packets : (i n c : ℕ) (ps : List Packet) (t : List ℕ) → AnswersSession (AtSite i (SignsInBy n c ps t)) i n
  pub answers_by_registration : (i n : ℕ) (r : responses.AuthenticatorAttestationResponse) → AnswersSession (AtSite i (Registers n r)) i n
  pub answers_by_registration_packets : (i n c : ℕ) (ps : List Packet) (t : List ℕ) → AnswersSession (AtSite i (RegistersBy n c ps t)) i n
  -- a key was made where some authenticator has it among those that it made
  pub made : (w : World) (k : ℕ) (key : CoseKey) → Contains (w.holder k).made key → WasMade w key
  -- no signature is forged at a moment at which each that is valid, under a key that an authenticator has made, was made by one
  -- that has made that key
  pub ideal : (m : Moment) → ((i n k : ℕ) (r : AuthenticatorAssertionResponse) (row : Credential) → Tries m i n r row
      → valid row.key (message_of r) r.signature → Contains (m.old.holder k).made row.key
      → (j : ℕ) × (e : Entry) × Contains (m.old.holder j).made row.key × Contains (m.old.holder j).signed e × (e.key ≡ row.key) × (e.message ≡ message_of r))
      → IsIdeal valid m
  -- a sign-in rests on each assertion that an authenticator has signed under its credential's key for its message
  pub rests : (m : Moment) (k : ℕ) (r : AuthenticatorAssertionResponse) (row : Credential) (e : Entry) → Contains (m.old.holder k).signed e → e.purpose ≡ assertion
      → e.key ≡ row.key → e.message ≡ message_of r → RestsOn m r row e
  -- two sign-ins rest on no common entry, where one hash of rp ids is one site and one hash of client data is one text, and, at one site, no other
  -- session has a challenge that a host chose: no more is asked
  pub rests_once : (run : List Moment) (m l : Moment) → RestsOnce run m l → (i j n k : ℕ) (r t : AuthenticatorAssertionResponse) (row low : Credential)
      → IsAccepted m i n r row → IsAccepted l j k t low
      → (sha256 (m.old.site i).rp.rp_id ≡ sha256 (l.old.site j).rp.rp_id → i ≡ j) → (sha256 r.client_data ≡ sha256 t.client_data → r.client_data ≡ t.client_data)
      → (i ≡ j → HasOwnChallenges run i) → (e : Entry) → RestsOn m r row e → RestsOn l t low e → ⊥
  -- no challenge that a host chose is another session's where none was chosen
  pub numbered : (run : List Moment) (i : ℕ) → All (λ m. (x : Expected) → m.event ≡ AtSite i (BeginsAs x) → ⊥) run → HasOwnChallenges run i
  -- or where each that was chosen was that of no session with another number
  pub chosen : (run : List Moment) (i : ℕ) → ((n k : ℕ) (x y : Expected) (m : Moment) → Contains run m → m.event ≡ AtSite i (BeginsAs x)
      → m.end ≡ Done → n ≡ (m.old.site i).sessions.next → IsBegun i k run y → challenge_in x ≡ challenge_in y → n ≡ k)
      → HasOwnChallenges run i
  -- a credential is not deleted where no moment deletes it, and is retired where its row says so
  pub undeleted : (i : ℕ) (id : List ℕ) (moments : List Moment) → All (λ m. m.event ≡ AtSite i (Deletes id) → ⊥) moments → NoneDeleted i id moments
  pub retired : (s : SiteState) (id : List ℕ) (row : Credential) → row_of id s.rows ≡ Some row → row.retired ≡ true → IsRetired s id

-- ---- of sessions that stay, and of pages

pub record SessionPremises : Type 0 where
  -- no session ends by a begin, a retirement, a deletion, a bound or an opening
  pub begins : (o : Opening) (n : ℕ) → MayEnd (Begins o) n → ⊥
  pub begins_as : (x : Expected) (n : ℕ) → MayEnd (BeginsAs x) n → ⊥
  pub retires : (id : List ℕ) (n : ℕ) → MayEnd (Retires id) n → ⊥
  pub deletes : (id : List ℕ) (n : ℕ) → MayEnd (Deletes id) n → ⊥
  pub bounds : (max_open n : ℕ) → MayEnd (Bounds max_open) n → ⊥
  pub reopens : (n : ℕ) → MayEnd Reopens n → ⊥
  -- nor by what another session is answered or abandoned by
  pub abandons : (k n : ℕ) → k ≢ n → MayEnd (Abandons k) n → ⊥
  pub signs_in : (k n : ℕ) (r : AuthenticatorAssertionResponse) → k ≢ n → MayEnd (SignsIn k r) n → ⊥
  pub signs_in_by : (k n c : ℕ) (ps : List Packet) (t : List ℕ) → k ≢ n → MayEnd (SignsInBy k c ps t) n → ⊥
  pub registers : (k n : ℕ) (r : responses.AuthenticatorAttestationResponse) → k ≢ n → MayEnd (Registers k r) n → ⊥
  pub registers_by : (k n c : ℕ) (ps : List Packet) (t : List ℕ) → k ≢ n → MayEnd (RegistersBy k c ps t) n → ⊥
  -- nor by what is refused, nor by what happens elsewhere: at another site or at an authenticator
  pub refused : (i n : ℕ) (m : Moment) → m.end ≡ Nothing → IsEnd i n m → ⊥
  pub other_site : (i j n : ℕ) (m : Moment) (e : SiteEvent) → m.event ≡ AtSite j e → j ≢ i → IsEnd i n m → ⊥
  pub asks : (i n k channel : ℕ) (bs : List ℕ) (consent : Consent) (words : Words) (m : Moment) → m.event ≡ world.Asks k channel bs consent words → IsEnd i n m → ⊥
  pub reloads : (i n k : ℕ) (m : Moment) → m.event ≡ Reloads k → IsEnd i n m → ⊥

pub record PagePremises : Type 0 where
  -- client data that name a page are from this page
  pub from_page : (page t : List ℕ) (seen : Seen) → seen_of t ≡ Some seen → seen.origin ≡ page → IsFromPage (page ∷ []) t
  -- and an authenticator was asked over client data, where the hash of each getAssertion to it that was carried out is that of one of them
  pub asked : (texts : List (List ℕ)) (k : ℕ) (moments : List Moment)
      → ((m : Moment) (channel : ℕ) (bs : List ℕ) (consent : Consent) (words : Words) (q : AssertionRequest) → Contains moments m
      → m.event ≡ world.Asks k channel bs consent words → m.end ≡ Done → IsRequest (get_assertion q) bs
      → (t : List ℕ) × Contains texts t × (q.client_data_hash ≡ sha256 t))
      → AskedOver texts k moments

-- ---- of an honest run

pub record HonestPremises (valid : Validity) (public : Keys) : Type 0 where
  -- a client asks on a channel, and its packets come to the authenticator's end in their order; the user consents, with verification if the
  -- authenticator has one and is to use it
  pub decided : (call : ClientCall) (uv : Bool) (c waits : ℕ) (e f : AuthenticatorEnd) (words : Words) (out : Sent) (packets : List Packet) (consent : Consent)
      → Asks call c out → consent.present ≡ true → (uv ≡ true → e.authenticator.uv ≡ true) → (uv ≡ true → consent.verified ≡ true)
      → Exchange valid public e (map act.Packet out.packets ++ (replicate waits act.Wait ++ act.Decide consent words ∷ [])) packets f
      → Decided valid public call uv c e words out packets f
  -- a registration is honest where its session is open and the options are the session's, the page is one of the site's, an algorithm that
  -- authenticators sign by is offered, the site accepts the attestation, the credential is new and has room at both ends, and the
  -- authenticator does what the client asks
  pub registers : (x : Registering) (alg : SigningAlg) → registration_at x.session x.site.sessions ≡ Some x.expected → x.options.rp_id ≡ x.site.rp.rp_id
      → x.options.challenge ≡ x.expected.challenge → x.options.user_id ≡ x.expected.user → x.options.algs ≡ x.expected.algorithms
      → x.options.uv ≡ x.expected.uv → Contains x.options.algs (signed_alg alg) → Contains x.site.rp.origins x.origin → IsUtf8 x.origin
      → AcceptsAttestation x.site.policy (counts_as x.site.rp.profile x.expected.attestation x.before.authenticator.attest)
      → credential_of x.words.id x.before.authenticator.credentials ≡ None → row_of x.words.id x.site.rows ≡ None
      → length x.before.authenticator.credentials < 256 → length x.site.rows < 65536
      → is_excluded x.options.rp_id x.before.authenticator.credentials (descriptors_of x.options.exclude) ≡ false
      → Decided valid public (registration_call x.origin x.options) x.options.uv x.channel x.before x.words x.out x.packets x.after
      → IsHonestRegistration valid public x
  -- and so is a sign-in
  pub signs_in : (x : SigningIn) → sign_in_at x.session x.site.sessions ≡ Some x.expected → x.options.rp_id ≡ x.site.rp.rp_id
      → x.options.challenge ≡ x.expected.challenge → x.options.allow ≡ x.expected.allow → x.options.uv ≡ x.expected.uv
      → Contains x.site.rp.origins x.origin → IsUtf8 x.origin
      → Decided valid public (sign_in_call x.origin x.options) x.options.uv x.channel x.before x.words x.out x.packets x.after
      → IsHonestSignIn valid public x
  -- a credential is at both ends, with one counter
  pub shared : (s : SiteState) (a : AuthenticatorState) (c : CredentialSource) → credential_of c.id a.credentials ≡ Some c → c.rp_id ≡ s.rp.rp_id
      → row_of c.id s.rows ≡ Some (record { id = c.id; user = c.user; key = key_of public c; sign_count = c.sign_count; eligible = Some false; retired = false })
      → IsShared public s a c c.sign_count
  -- it is asked for by its id, or as the newest
  pub asked_by_id : (c : CredentialSource) (a : AuthenticatorState) (e : expects.ExpectedSignIn) → e.allow ≡ c.id ∷ [] → e.user ≡ Some c.user → IsAskedFor c a e
  pub asked_as_newest : (c : CredentialSource) (a : AuthenticatorState) (e : expects.ExpectedSignIn) (later : List (List ℕ)) → e.allow ≡ [] → c.resident ≡ true
      → resident_ids c.rp_id a.credentials ≡ c.id ∷ later → ForSome e.user (λ user. user ≡ c.user) → IsAskedFor c a e
  pub new_by_id : (x : Registering) (e : expects.ExpectedSignIn) → e.allow ≡ x.words.id ∷ [] → e.user ≡ Some x.options.user_id → AsksForNew x e
  pub new_as_newest : (x : Registering) (e : expects.ExpectedSignIn) → e.allow ≡ [] → x.options.rk ≡ true → ForSome e.user (λ user. user ≡ x.options.user_id)
      → AsksForNew x e
  -- a registration, and then a sign-in with a session that begins, on the same channel and at the same authenticator
  pub run : (x : honest.Run) (opening : Opening) → IsIdleOn x.registering.channel x.registering.before → IsHonestRegistration valid public x.registering
      → registering.IsAfter x.registering.site x.registering.session x.registering.out.client_data x.registering.channel x.registering.packets x.registered
      → x.signing_in.site ≡ after_begin x.registered opening → x.signing_in.before ≡ x.registering.after → x.signing_in.channel ≡ x.registering.channel
      → IsHonestSignIn valid public x.signing_in → AsksForNew x.registering x.signing_in.expected
      → IsHonestRun valid public x

pub record Premises (valid : Validity) (public : Keys) : Type 0 where
  pub of_runs : RunPremises valid public
  pub of_sessions : SessionPremises
  pub of_pages : PagePremises
  pub of_an_honest_run : HonestPremises valid public
