-- That the laws speak of something: an honest run that takes place, and a run in which everything happens.
use Rattle.std.specs.Prelude.{◌≡◌, ◌≢◌, ℕ, List, [], ◌∷◌, ◌++◌, false, None, Some, IsSome, Contains}
use Rattle.std.specs.FinMap as finite
use Rattle.std.specs.List.{All}
use Rattle.cose.specs.Schemes.{Validity}
use Rattle.authdata.specs.Responses.{AuthenticatorAssertionResponse}
use Rattle.verification.specs.Records.{Credential}
use Rattle.site_state.specs.Table.{row_of}
use Rattle.site.specs.State.{SiteState}
use Rattle.authenticator.specs.Steps.{Keys}
use Rattle.agreement.specs.Agreement.{IsAccepted, IsIdeal}
use Rattle.agreement.specs.Honest.{IsHonestRun, Run}
use Rattle.agreement.specs.Lived.{Place, TakesPlace}
use Rattle.agreement.specs.World.{Abandons, Asks, AtSite, Begins, BeginsAs, Bounds, Deletes, Done, Event, Expires, IsRun, IsStart, Moment, Registers, RegistersBy, Reloads}
use Rattle.agreement.specs.World.{Reopens, Restarts, Retires, SignsIn, SignsInBy, SiteEvent, World}

-- an honest registration and sign-in, at a site that begins without sessions and a new authenticator of some world
pub record HonestRunTakesPlace (valid : Validity) (public : Keys) : Type 0 where
  pub run : Run
  pub honest : IsHonestRun valid public run
  pub place : Place
  pub takes_place : TakesPlace valid public run honest place

-- the kinds of events
pub data Kind : Type 0 where
  begins : Kind
  begins_as : Kind
  abandons : Kind
  retires : Kind
  deletes : Kind
  signs_in : Kind
  signs_in_by_packets : Kind
  registers : Kind
  registers_by_packets : Kind
  expires : Kind
  bounds : Kind
  restarts : Kind
  reopens : Kind
  asks : Kind
  reloads : Kind

abbrev pub kind_at_site : SiteEvent → Kind
kind_at_site (Begins o) = begins
kind_at_site (BeginsAs x) = begins_as
kind_at_site (Abandons n) = abandons
kind_at_site (Retires id) = retires
kind_at_site (Deletes id) = deletes
kind_at_site (SignsIn n r) = signs_in
kind_at_site (SignsInBy n c ps t) = signs_in_by_packets
kind_at_site (Registers n r) = registers
kind_at_site (RegistersBy n c ps t) = registers_by_packets
kind_at_site Expires = expires
kind_at_site (Bounds n) = bounds
kind_at_site Restarts = restarts
kind_at_site Reopens = reopens

abbrev pub kind_of : Event → Kind
kind_of (AtSite i e) = kind_at_site e
kind_of (Asks k channel bs consent words) = asks
kind_of (Reloads k) = reloads

-- the event finds what it is for: a session that is abandoned is open, a credential that is retired is registered and not
-- retired yet, one that is deleted is registered, by an expiry a session ends that was open, and a bound that is set is another.
-- Nothing is asked of the others
abbrev pub HasCause : SiteState → SiteEvent → SiteState → Type 0
HasCause s (Abandons n) t = IsSome (finite.get s.sessions.expected n)
HasCause s (Retires id) t = (row : Credential) × (row_of id s.rows ≡ Some row) × (row.retired ≡ false)
HasCause s (Deletes id) t = IsSome (row_of id s.rows)
HasCause s Expires t = (n : ℕ) × IsSome (finite.get s.sessions.expected n) × (finite.get t.sessions.expected n ≡ None)
HasCause s (Bounds n) t = n ≢ s.sessions.max_open
HasCause s e t = Unit {0}

abbrev pub IsCaused : Event → World → World → Type 0
IsCaused (AtSite i e) old new = HasCause (old.site i) e (new.site i)
IsCaused e old new = Unit {0}

-- an event of this kind is done at one of the moments, and not in vain
abbrev pub Happened : List Moment → Kind → Type 0
Happened run kind = (m : Moment) × Contains run m × (m.end ≡ Done) × (kind_of m.event ≡ kind) × IsCaused m.event m.old m.new

-- at the moment a sign-in is accepted at site i, with a key that authenticator k has made
pub record SignedIn (i k : ℕ) (m : Moment) : Type 0 where
  pub session : ℕ
  pub response : AuthenticatorAssertionResponse
  pub row : Credential
  pub accepted : IsAccepted m i session response row
  pub made : Contains (m.old.holder k).made row.key

-- a run from a start, in which no signature is forged: an event of each kind is done, a sign-in by a response is accepted at
-- site 1 with a key that authenticator 1 has made, and with the last moment one by packets at site 0 with a key that
-- authenticator 0 has made. The two keys may be one
pub record FullRun (valid : Validity) (public : Keys) : Type 0 where
  pub world : World
  pub start : IsStart world
  pub before : List Moment
  pub last : Moment
  pub is_run : IsRun valid public world (before ++ last ∷ [])
  pub ideal : All (IsIdeal valid) (before ++ last ∷ [])
  pub each_kind : (kind : Kind) → Happened (before ++ last ∷ []) kind
  pub elsewhere : (m : Moment) × Contains before m × (kind_of m.event ≡ signs_in) × SignedIn 1 1 m
  pub by_packets : kind_of last.event ≡ signs_in_by_packets
  pub signed_in : SignedIn 0 0 last
