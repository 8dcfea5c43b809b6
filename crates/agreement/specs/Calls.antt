-- What the contract of each call says is an event of a world: so no call is left out of the runs, and no event does less
-- than its call. The premises of each line are what the call promises where it answers Ok.
use Rattle.std.specs.Prelude.{◌≡◌, ◌<◌, ◌-◌, ◌^◌, ◌⊎◌, ℕ, List, None, length}
use Rattle.std.specs.Ordering.{nat_cmp}
use Rattle.std.specs.FinMap as finite
use Rattle.base64.specs.GeneralPurpose.{IsBytes}
use Rattle.hidframe.specs.declared.Packet.{Packet}
use Rattle.cose.specs.Schemes.{Validity}
use Rattle.authdata.specs.Responses as responses
use Rattle.ctap_replies.specs.Replies as replies
use Rattle.verification.specs.SignIn as authentication
use Rattle.verification.specs.Registration as registration
use Rattle.site.specs.Saved.{TableOf, version_of}
use Rattle.site_state.specs.Sessions.{Expected, Opening, begun, closed}
use Rattle.site_state.specs.Table.{retired, with_row}
use Rattle.site.specs.State as site
use Rattle.site.specs.State.{IsAfterRegistration, IsAfterSignIn, IsLoaded, judged_sign_in, judged_registration, saved_of}
use Rattle.authenticator.specs.State as authenticator
use Rattle.authenticator.specs.State.{forgotten}
use Rattle.authenticator.specs.Saved.{SavedOf}
use Rattle.authenticator.specs.Steps.{Keys, Outcome, Step}
use Rattle.authenticator.specs.declared.consent.Consent.{Consent}
use Rattle.authenticator.specs.declared.consent.Words.{Words}
use Rattle.ceremony.specs.Verdict.{Succeeds}
use Rattle.verification.specs.Records.{RelyingParty}
use Rattle.verification.specs.declared.party.Policy.{Policy}
use Rattle.ceremony.specs.SignIn as by_packets
use Rattle.ceremony.specs.Registration as registering
use Rattle.agreement.specs.World.{Abandons, Asks, Begins, Bounds, EventEffect, Expires, Registers, RegistersBy, Reloads, Reopens, Restarts, Retires, SignsIn, SignsInBy}
use Rattle.agreement.specs.World.{SiteActs, World, after_call, after_restart, words_of}
use Rattle.agreement.specs.Lived.{with_holder}

pub record CallsAct (valid : Validity) (public : Keys) : Type 0 where
  -- at a site
  pub begins : (s : site.SiteState) (o : Opening) → IsBytes (words_of o) → s.sessions.next < 2 ^ 64 - 1
      → SiteActs valid s (Begins o) (record s { sessions = begun s.sessions o })
  pub abandons : (s : site.SiteState) (n : ℕ) → SiteActs valid s (Abandons n) (record s { sessions = closed n s.sessions })
  pub retires : (s : site.SiteState) (id : List ℕ) → SiteActs valid s (Retires id) (record s { rows = with_row id retired s.rows })
  pub signs_in : (s t : site.SiteState) (n : ℕ) (r : responses.AuthenticatorAssertionResponse)
      → authentication.PassesSignIn valid (judged_sign_in s n r) → IsAfterSignIn s n r t → SiteActs valid s (SignsIn n r) t
  pub registers : (s t : site.SiteState) (n : ℕ) (r : responses.AuthenticatorAttestationResponse)
      → registration.PassesRegistration valid (judged_registration s n r) → IsAfterRegistration s n r t → SiteActs valid s (Registers n r) t
  pub signs_in_by : (s t : site.SiteState) (n c used : ℕ) (ps : List Packet) (d : List ℕ) (r : replies.Assertion)
      → Succeeds (by_packets.sign_in valid s n d) c ps used r → by_packets.IsAfter s n d c ps t → SiteActs valid s (SignsInBy n c ps d) t
  pub registers_by : (s t : site.SiteState) (n c used : ℕ) (ps : List Packet) (d : List ℕ) (r : replies.Creation)
      → Succeeds (registering.registration valid s n d) c ps used r → registering.IsAfter s n d c ps t → SiteActs valid s (RegistersBy n c ps d) t
  -- those that are left are as they were
  pub expires : (s : site.SiteState) (expected : finite.FinMap nat_cmp Expected)
      → ((n : ℕ) → (finite.get expected n ≡ None) ⊎ (finite.get expected n ≡ finite.get s.sessions.expected n))
      → SiteActs valid s Expires (record s { sessions = record s.sessions { expected = expected } })
  pub bounds : (s : site.SiteState) (max_open : ℕ)
      → SiteActs valid s (Bounds max_open) (record s { sessions = record s.sessions { max_open = max_open } })
  -- what `load` gives of what `save` appended, for the same rp id, whatever else the relying party and the policy are
  pub restarts : (s t : site.SiteState) (rp : RelyingParty) (policy : Policy) (bytes : List ℕ) → rp.rp_id ≡ s.rp.rp_id
      → TableOf (version_of s.rows) (saved_of s) bytes → IsLoaded rp policy bytes t → SiteActs valid s Restarts t
  -- what `restore` makes of a new site of the same rp id, with the table and the sessions that were stored
  pub restores : (s fresh : site.SiteState) (max_open : ℕ) → fresh.rp.rp_id ≡ s.rp.rp_id
      → SiteActs valid s Reopens (record fresh { rows = s.rows; sessions = record s.sessions { max_open = max_open } })
  -- at an authenticator: a call, and what `load` gives of what `save` appended
  pub asks : (w : World) (k channel : ℕ) (bs : List ℕ) (consent : Consent) (words : Words) (out : Outcome) → length words.id ≡ 32
      → Step valid public (w.holder k).state channel bs consent words out
      → EventEffect valid public w (Asks k channel bs consent words) (with_holder k (after_call (w.holder k) out) w)
  pub reloads : (w : World) (k : ℕ) (bytes : List ℕ) (state : authenticator.AuthenticatorState) → SavedOf (forgotten (w.holder k).state) bytes
      → SavedOf state bytes → EventEffect valid public w (Reloads k) (with_holder k (after_restart (w.holder k) state) w)
