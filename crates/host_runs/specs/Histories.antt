-- The law of a host's rows: whatever history they have, among other events of a world, is a run.
use Rattle.std.specs.Prelude.{◌≡◌, ℕ, List, [], ◌∷◌, ◌++◌, Some, Contains}
use Rattle.std.specs.FinMap as finite
use Rattle.cose.specs.Schemes.{Validity}
use Rattle.authdata.specs.Responses.{AuthenticatorAssertionResponse, AuthenticatorAttestationResponse}
use Rattle.verification.specs.Records.{Credential, ExpectedRegistration, ExpectedSignIn}
use Rattle.site_state.specs.Sessions.{Expected, challenge_in, registration_at, sign_in_at}
use Rattle.site_state.specs.Table.{row_of}
use Rattle.site.specs.State.{SiteState}
use Rattle.authenticator.specs.Steps.{Keys}
use Rattle.agreement.specs.Agreement.{Agreement, IsAccepted, IsAcceptedRegistration}
use Rattle.agreement.specs.Begun.{HasOwnChallenges}
use Rattle.agreement.specs.Hosts.{IsWithin}
use Rattle.agreement.specs.Ledger.{world_after}
use Rattle.agreement.specs.Lived.{with_site}
use Rattle.agreement.specs.World as world
use Rattle.agreement.specs.World.{AtSite, Done, Event, EventEnd, Happens, IsRun, IsStart, Moment, World}
use Rattle.host_runs.specs.Rows.{Begins, Closes, Commits, Configures, Deletes, HostStore, Registers, Retires, SignsIn, Transaction}

-- ---- a history

-- a transaction that the host's database committed, each after the one before, as if they were made one by one; or an event elsewhere
pub data Act : Type 0 where
  Stores : (transaction : Transaction) → Act
  Elsewhere : (event : Event) (end : EventEnd) → Act

-- the rows of site i; and the world, in which site i is left as it was at first
pub record Scene : Type 0 where
  pub store : HostStore
  pub world : World

pub record Turn : Type 0 where
  pub old : Scene
  pub act : Act
  pub new : Scene

-- the event happens whatever site i is, and leaves that as it is
abbrev pub HappensBeside : Validity → Keys → ℕ → World → Event → EventEnd → World → Type 0
HappensBeside valid public i old e end new = (s : SiteState) → Happens valid public (with_site i s old) e end (with_site i s new)

abbrev pub Plays : Validity → Keys → ℕ → Scene → Act → Scene → Type 0
Plays valid public i old (Stores t) new = Commits valid old.store t new.store × (new.world ≡ old.world)
Plays valid public i old (Elsewhere e end) new = HappensBeside valid public i old.world e end new.world × (new.store ≡ old.store)

-- one act after another, each by a relation of its own, as that of the one signature that was verified for it
abbrev pub IsHistory : {I : Type 0} → (I → Validity) → Validity → Keys → ℕ → Scene → List Turn → Type 0
IsHistory narrow wide public i scene [] = Unit {0}
IsHistory {I} narrow wide public i scene (turn ∷ turns) =
    (turn.old ≡ scene) × ((v : I) × IsWithin (narrow v) wide × Plays (narrow v) public i turn.old turn.act turn.new)
    × IsHistory narrow wide public i turn.new turns

abbrev pub scene_after : Scene → List Turn → Scene
scene_after scene [] = scene
scene_after scene (turn ∷ turns) = scene_after turn.new turns

-- the challenges that the host gave
abbrev pub given_by : Act → List (List ℕ)
given_by (Stores (Begins key e)) = challenge_in e ∷ []
given_by act = []

abbrev pub given : List Turn → List (List ℕ)
given [] = []
given (turn ∷ turns) = given_by turn.act ++ given turns

-- none was given twice: they are random bytes
abbrev pub AreGivenOnce : List (List ℕ) → Type 0
AreGivenOnce [] = Unit {0}
AreGivenOnce (c ∷ cs) = (Contains cs c → ⊥) × AreGivenOnce cs

-- ---- the law

-- A site of a run stands for the rows: the same relying party and policy; under each id the same credential; and each session's row is that of an open
-- session of the site, which has a number of its own and expects the same
pub record StandsFor (numbers : List ℕ → ℕ) (h : HostStore) (s : SiteState) : Type 0 where
  pub rp : s.rp ≡ h.rp
  pub policy : s.policy ≡ h.policy
  pub credentials : (id : List ℕ) → row_of id s.rows ≡ h.credentials id
  pub sessions : (key : List ℕ) (e : Expected) → h.sessions key ≡ Some e → finite.get s.sessions.expected (numbers key) ≡ Some e
  pub own : (key other : List ℕ) (e f : Expected) → h.sessions key ≡ Some e → h.sessions other ≡ Some f → numbers key ≡ numbers other → key ≡ other

-- which event an act is
abbrev pub event_of : ℕ → (List ℕ → ℕ) → Act → Event
event_of i numbers (Stores (Begins key e)) = AtSite i (world.BeginsAs e)
event_of i numbers (Stores (SignsIn key e c r)) = AtSite i (world.SignsIn (numbers key) r)
event_of i numbers (Stores (Registers key e r)) = AtSite i (world.Registers (numbers key) r)
event_of i numbers (Stores (Retires id c)) = AtSite i (world.Retires id)
event_of i numbers (Stores (Deletes id)) = AtSite i (world.Deletes id)
event_of i numbers (Stores (Closes key e)) = AtSite i (world.Abandons (numbers key))
event_of i numbers (Stores (Configures rp policy)) = AtSite i world.Reopens
event_of i numbers (Elsewhere e end) = e

abbrev pub end_of : Act → EventEnd
end_of (Stores t) = Done
end_of (Elsewhere e end) = end

-- the moment of a run that a turn is: site i stands for the rows, the rest of the world is as it was, and the act's event has its end
pub record IsMomentOf (i : ℕ) (turn : Turn) (m : Moment) : Type 0 where
  pub numbers : List ℕ → ℕ
  pub site : SiteState
  pub stands_for : StandsFor numbers turn.old.store site
  pub old : m.old ≡ with_site i site turn.old.world
  pub event : m.event ≡ event_of i numbers turn.act
  pub end : m.end ≡ end_of turn.act

-- turn by turn
abbrev pub Follow : ℕ → List Turn → List Moment → Type 0
Follow i [] [] = Unit {0}
Follow i (turn ∷ turns) (m ∷ ms) = IsMomentOf i turn m × Follow i turns ms
Follow i turns ms = ⊥

-- at a moment of the run the sign-in is accepted, of the credential whose row was read, in a session that expects what was read
pub record SignsInThere (i : ℕ) (run : List Moment) (e : ExpectedSignIn) (c : Credential) (r : AuthenticatorAssertionResponse) : Type 0 where
  pub moment : Moment
  pub there : Contains run moment
  pub session : ℕ
  pub expected : sign_in_at session (moment.old.site i).sessions ≡ Some e
  pub accepted : IsAccepted moment i session r c

-- and so a registration
pub record RegistersThere (i : ℕ) (run : List Moment) (e : ExpectedRegistration) (r : AuthenticatorAttestationResponse) : Type 0 where
  pub moment : Moment
  pub there : Contains run moment
  pub session : ℕ
  pub expected : registration_at session (moment.old.site i).sessions ≡ Some e
  pub accepted : IsAcceptedRegistration moment i session r

pub record LeadsTo (wide : Validity) (public : Keys) (i : ℕ) (first : Scene) (turns : List Turn) : Type 0 where
  pub run : List Moment
  pub is_run : IsRun wide public first.world run
  pub follows : Follow i turns run
  pub numbers : List ℕ → ℕ
  pub site : SiteState
  pub stands_for : StandsFor numbers (scene_after first turns).store site
  pub end : world_after first.world run ≡ with_site i site (scene_after first turns).world
  pub signs_in : (before later : List Turn) (turn : Turn) (key : List ℕ) (e : ExpectedSignIn) (c : Credential) (r : AuthenticatorAssertionResponse)
      → turns ≡ before ++ turn ∷ later → turn.act ≡ Stores (SignsIn key e c r) → SignsInThere i run e c r
  pub registers : (before later : List Turn) (turn : Turn) (key : List ℕ) (e : ExpectedRegistration) (r : AuthenticatorAttestationResponse)
      → turns ≡ before ++ turn ∷ later → turn.act ≡ Stores (Registers key e r) → RegistersThere i run e r
  pub agreement : Agreement wide run
  pub own : AreGivenOnce (given turns) → HasOwnChallenges run i

-- Where site i of a world at its start stands for a host's rows, each history of them leads to a run, of which the law of all runs holds
abbrev pub HostRuns : {I : Type 0} → (I → Validity) → Validity → Keys → Type 0
HostRuns narrow wide public =
    (i : ℕ) (numbers : List ℕ → ℕ) (first : Scene) (turns : List Turn) → IsStart first.world → StandsFor numbers first.store (first.world.site i)
    → IsHistory narrow wide public i first turns → LeadsTo wide public i first turns
