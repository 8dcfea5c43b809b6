-- Sites and authenticators, any number of each, and all that may happen to them: the packets, the client data and the
-- requests are whatever an adversary makes of them. A site or an authenticator that begins again loads what it has saved;
-- a site that is stored by each call finds itself as it was.
use Rattle.std.specs.Prelude.{◌≡◌, ◌≢◌, ◌<◌, ◌+◌, ◌-◌, ◌^◌, ◌⊎◌, ℕ, Bool, false, not, List, [], ◌∷◌, ◌++◌, filter, length, None}
use Rattle.std.specs.FinMap as finite
use Rattle.std.specs.Str.{bytes_eq}
use Rattle.base64.specs.GeneralPurpose.{IsBytes}
use Rattle.hidframe.specs.declared.Packet.{Packet}
use Rattle.cose.specs.Schemes.{Validity}
use Rattle.cose.specs.declared.key.CoseKey.{CoseKey}
use Rattle.authdata.specs.Responses as responses
use Rattle.ctap_replies.specs.Replies as replies
use Rattle.ctap_replies.specs.Replies.{ReplyOf, creation_reply}
use Rattle.verification.specs.SignIn as authentication
use Rattle.verification.specs.Registration as registration
use Rattle.verification.specs.Registration.{JudgedRegistration}
use Rattle.site.specs.Saved.{TableOf, version_of}
use Rattle.site_state.specs.Sessions.{Expected, Opening, OpensRegistration, OpensSignIn, challenge_in}
use Rattle.site.specs.State as site
use Rattle.site.specs.State.{IsAfterRegistration, IsAfterSignIn, judged_sign_in, judged_registration, none_open, saved_of}
use Rattle.site.specs.Laws.{after_abandon, after_begin, after_retire}
use Rattle.authenticator.specs.State as authenticator
use Rattle.authenticator.specs.State.{new_state}
use Rattle.authenticator.specs.Saved.{Restarted}
use Rattle.authenticator.specs.Steps.{Entry, Keys, Outcome, Step}
use Rattle.authenticator.specs.declared.consent.Consent.{Consent}
use Rattle.authenticator.specs.declared.consent.Words.{Words}
use Rattle.authdata.specs.declared.statement.AttestationType.{AttestationType}
use Rattle.ceremony.specs.Verdict.{CarriesReply, Succeeds}
use Rattle.ceremony.specs.SignIn as by_packets
use Rattle.ceremony.specs.Registration as registering

-- an authenticator, what it has signed, and the keys that it has made
pub record Holder : Type 0 where
  pub state : authenticator.AuthenticatorState
  pub signed : List Entry
  pub made : List CoseKey

-- sites and authenticators by their numbers
pub record World : Type 0 where
  pub site : ℕ → site.SiteState
  pub holder : ℕ → Holder

-- ---- events

-- at a site: what its calls do; that a session begins with a challenge that its host chose, who keeps the site's rows; that sessions
-- which began too long ago are ended, however many; that another bound is set on its open sessions; that it begins again with the table
-- that it saved; and that it is opened again where each call stores it, which may be with other pages, another profile or another
-- policy. A call that a crash cuts off has its effect or none, and then the site is opened again
pub data SiteEvent : Type 0 where
  Begins : (opening : Opening) → SiteEvent
  BeginsAs : (expects : Expected) → SiteEvent
  Abandons : (session : ℕ) → SiteEvent
  Retires : (id : List ℕ) → SiteEvent
  Deletes : (id : List ℕ) → SiteEvent
  SignsIn : (session : ℕ) (r : responses.AuthenticatorAssertionResponse) → SiteEvent
  SignsInBy : (session c : ℕ) (ps : List Packet) (t : List ℕ) → SiteEvent
  Registers : (session : ℕ) (r : responses.AuthenticatorAttestationResponse) → SiteEvent
  RegistersBy : (session c : ℕ) (ps : List Packet) (t : List ℕ) → SiteEvent
  Expires : SiteEvent
  Bounds : (max_open : ℕ) → SiteEvent
  Restarts : SiteEvent
  Reopens : SiteEvent

-- at site i; or an authenticator is asked something, on whatever channel and with whatever consent; or it begins again
-- with what it saved
pub data Event : Type 0 where
  AtSite : (i : ℕ) (e : SiteEvent) → Event
  Asks : (k channel : ℕ) (bs : List ℕ) (consent : Consent) (words : Words) → Event
  Reloads : (k : ℕ) → Event

-- the words of a session's challenge
abbrev pub words_of : Opening → List ℕ
words_of (OpensSignIn user allow uv words) = words
words_of (OpensRegistration user algorithms uv words asks) = words

-- what is loaded of what was saved, for the same rp id
pub record Loads (s t : site.SiteState) : Type 0 where
  pub bytes : List ℕ
  pub saved : TableOf (version_of s.rows) (saved_of s) bytes
  pub version : ℕ
  pub loaded : TableOf version (saved_of t) bytes
  pub rp_id : t.rp.rp_id ≡ s.rp.rp_id
  pub none_open : t.sessions ≡ none_open t.sessions.max_open t.sessions.next

-- sessions are ended, any of them; the others are as they were, and so is all else
pub record EndsSessions (s t : site.SiteState) : Type 0 where
  pub left : (n : ℕ) → (finite.get t.sessions.expected n ≡ None) ⊎ (finite.get t.sessions.expected n ≡ finite.get s.sessions.expected n)
  pub same : t ≡ record s { sessions = record s.sessions { expected = t.sessions.expected } }

-- the next number is that of a session that expects this, whatever its challenge is
abbrev pub after_begin_as : site.SiteState → Expected → site.SiteState
after_begin_as s e =
    record s { sessions = record s.sessions { expected = finite.insert s.sessions.expected s.sessions.next e; next = s.sessions.next + 1 } }

-- with this bound on its open sessions
abbrev pub with_bound : ℕ → site.SiteState → site.SiteState
with_bound max_open s = record s { sessions = record s.sessions { max_open = max_open } }

-- opened again for the same rp id, with its credentials and its open sessions: its pages, its profile, its policy and its bound may be others
pub record IsReopened (s t : site.SiteState) : Type 0 where
  pub rp_id : t.rp.rp_id ≡ s.rp.rp_id
  pub rows : t.rows ≡ s.rows
  pub sessions : t.sessions ≡ record s.sessions { max_open = t.sessions.max_open }

-- without the credential of an id; the others stay, in their order
abbrev pub after_delete : site.SiteState → List ℕ → site.SiteState
after_delete s id = record s { rows = filter (λ row. not (bytes_eq id row.id)) s.rows }

-- a registration as it is judged where there is room: how many credentials a site may have is its own limit, and no law needs one
abbrev pub with_room : JudgedRegistration → JudgedRegistration
with_room x = record x { is_full = false }

-- the effect of an event at a site, as the contracts of its calls have it
abbrev pub SiteActs : Validity → site.SiteState → SiteEvent → site.SiteState → Type 0
SiteActs valid s (Begins o) t = IsBytes (words_of o) × (s.sessions.next < 2 ^ 64 - 1) × (t ≡ after_begin s o)
SiteActs valid s (BeginsAs e) t = IsBytes (challenge_in e) × (t ≡ after_begin_as s e)
SiteActs valid s (Abandons n) t = t ≡ after_abandon s n
SiteActs valid s (Retires id) t = t ≡ after_retire s id
SiteActs valid s (Deletes id) t = t ≡ after_delete s id
SiteActs valid s (SignsIn n r) t = authentication.PassesSignIn valid (judged_sign_in s n r) × IsAfterSignIn s n r t
SiteActs valid s (SignsInBy n c ps d) t =
    ((used : ℕ) × (r : replies.Assertion) × Succeeds (by_packets.sign_in valid s n d) c ps used r) × by_packets.IsAfter s n d c ps t
SiteActs valid s (Registers n r) t = registration.PassesRegistration valid (with_room (judged_registration s n r)) × IsAfterRegistration s n r t
SiteActs valid s (RegistersBy n c ps d) t =
    CarriesReply (λ r m. ReplyOf (creation_reply r) m)
    (λ r. registration.PassesRegistration valid (with_room (judged_registration s n (registering.response r d)))) c ps
    × registering.IsAfter s n d c ps t
SiteActs valid s Expires t = EndsSessions s t
SiteActs valid s (Bounds max_open) t = t ≡ with_bound max_open s
SiteActs valid s Restarts t = Loads s t
SiteActs valid s Reopens t = IsReopened s t

-- one site, or one authenticator, has changed and no other
pub record ChangesSite (old new : World) (i : ℕ) (s : site.SiteState) : Type 0 where
  pub now : new.site i ≡ s
  pub others : (j : ℕ) → j ≢ i → new.site j ≡ old.site j
  pub holders : (k : ℕ) → new.holder k ≡ old.holder k

pub record ChangesHolder (old new : World) (k : ℕ) (h : Holder) : Type 0 where
  pub now : new.holder k ≡ h
  pub others : (j : ℕ) → j ≢ k → new.holder j ≡ old.holder j
  pub sites : (i : ℕ) → new.site i ≡ old.site i

abbrev pub after_call : Holder → Outcome → Holder
after_call h out = record { state = out.state; signed = h.signed ++ out.signed; made = h.made ++ out.made }

-- what it has signed, and which keys it has made, stays so
abbrev pub after_restart : Holder → authenticator.AuthenticatorState → Holder
after_restart h state = record h { state = state }

abbrev pub EventEffect : Validity → Keys → World → Event → World → Type 0
EventEffect valid public old (AtSite i e) new = (s : site.SiteState) × SiteActs valid (old.site i) e s × ChangesSite old new i s
EventEffect valid public old (Asks k channel bs consent words) new =
    (out : Outcome) × (length words.id ≡ 32) × Step valid public (old.holder k).state channel bs consent words out
    × ChangesHolder old new k (after_call (old.holder k) out)
EventEffect valid public old (Reloads k) new =
    (state : authenticator.AuthenticatorState) × Restarted (old.holder k).state state × ChangesHolder old new k (after_restart (old.holder k) state)

-- ---- runs

-- an event has its effect, or none: it is refused, or memory runs out
pub data EventEnd : Type 0 where
  Done : EventEnd
  Nothing : EventEnd

abbrev pub Happens : Validity → Keys → World → Event → EventEnd → World → Type 0
Happens valid public old e Done new = EventEffect valid public old e new
Happens valid public old e Nothing new = new ≡ old

pub record Moment : Type 0 where
  pub old : World
  pub event : Event
  pub end : EventEnd
  pub new : World

-- one moment after another
abbrev pub IsRun : Validity → Keys → World → List Moment → Type 0
IsRun valid public w [] = Unit {0}
IsRun valid public w (m ∷ ms) = (m.old ≡ w) × Happens valid public m.old m.event m.end m.new × IsRun valid public m.new ms

-- no session is open, and each authenticator is new: it stores nothing, has signed nothing, and has made no key
pub record IsNew (h : Holder) : Type 0 where
  pub aaguid : List ℕ
  pub uv : Bool
  pub attest : AttestationType
  pub state : h.state ≡ new_state aaguid uv attest
  pub signed : h.signed ≡ []
  pub made : h.made ≡ []

pub record IsStart (w : World) : Type 0 where
  pub sites : (i : ℕ) → (w.site i).sessions.expected ≡ finite.empty
  pub holders : (k : ℕ) → IsNew (w.holder k)
