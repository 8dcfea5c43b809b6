-- A site over a store among others: what it goes through, and beside it whatever happens elsewhere in a world, at authenticators and at other sites,
-- stored or not, each in its order.
use Rattle.std.specs.Prelude.{◌≡◌, ◌≢◌, ◌==◌, ℕ, Bool, false, true, List, [], ◌∷◌, ◌++◌, if◌then◌else◌, map, Option, None, Some}
use Rattle.cose.specs.Schemes.{Validity}
use Rattle.site.specs.State.{SiteState}
use Rattle.authenticator.specs.Steps.{Keys}
use Rattle.agreement.specs.Hosts.{IsWithin}
use Rattle.agreement.specs.World.{Asks, AtSite, Done, Event, EventEnd, Happens, Holder, Reloads, SiteEvent, World}
use Rattle.stored_runs.specs.History.{Calls, Commits, IsKept, Opens, Step, Store, Takes, act_of}

-- ---- a history

-- a step of the store, or an event elsewhere
pub data Act : Type 0 where
  Stores : (step : Step) → Act
  Elsewhere : (event : Event) (end : EventEnd) → Act

-- not at site i
abbrev pub IsElsewhere : ℕ → Event → Type 0
IsElsewhere i (AtSite j e) = j ≢ i
IsElsewhere i (Asks k channel bs consent words) = Unit {0}
IsElsewhere i (Reloads k) = Unit {0}

-- the store of site i; and the world, in which site i is left as it was at first
pub record Scene (S : Type 0) : Type 0 where
  pub store : Store S
  pub world : World

pub record Turn (S : Type 0) : Type 0 where
  pub old : Scene S
  pub act : Act
  pub new : Scene S

-- what an act makes of it
abbrev pub Plays : {S : Type 0} → Validity → Keys → ℕ → Scene S → Act → Scene S → Type 0
Plays valid public i old (Stores step) new = Takes valid old.store step new.store × IsKept new.store.now × (new.world ≡ old.world)
Plays valid public i old (Elsewhere e end) new = IsElsewhere i e × Happens valid public old.world e end new.world × (new.store ≡ old.store)

-- one act after another, each by a relation of its own, as that of the one signature that was verified for it
abbrev pub IsHistory : {I S : Type 0} → (I → Validity) → Validity → Keys → ℕ → Scene S → List (Turn S) → Type 0
IsHistory narrow wide public i scene [] = Unit {0}
IsHistory {I} narrow wide public i scene (turn ∷ turns) =
    (turn.old ≡ scene) × ((v : I) × IsWithin (narrow v) wide × Plays (narrow v) public i turn.old turn.act turn.new)
    × IsHistory narrow wide public i turn.new turns

-- the scene to which it leads
abbrev pub scene_after : {S : Type 0} → Scene S → List (Turn S) → Scene S
scene_after scene [] = scene
scene_after scene (turn ∷ turns) = scene_after turn.new turns

-- ---- what is kept of it

-- what has been called before this act is committed: by a commit, or by one that was cut off and that an open finds whole; else it is what
-- the rest makes of it
abbrev pub commits : Act → Bool → Bool
commits (Stores (Calls c)) rest = rest
commits (Stores Commits) rest = true
commits (Stores (Opens finds_all)) rest = finds_all
commits (Elsewhere e end) rest = rest

-- what a crash has cut off, or nobody commits, is not
abbrev pub is_committed : {S : Type 0} → List (Turn S) → Bool
is_committed [] = false
is_committed (turn ∷ turns) = commits turn.act (is_committed turns)

-- a world but for site i
pub record WorldBeside : Type 0 where
  pub site : ℕ → Option SiteState
  pub holder : ℕ → Holder

abbrev pub beside : ℕ → World → WorldBeside
beside i w = record { site = λ j. if j == i then None else Some (w.site j); holder = w.holder }

-- an event and its end, and what the world was then beside site i
pub record Told : Type 0 where
  pub event : Event
  pub end : EventEnd
  pub world : WorldBeside

-- what is done at site i
abbrev pub done_at : ℕ → World → List SiteEvent → List Told
done_at i w es = map (λ e. record { event = AtSite i e; end = Done; world = beside i w }) es

-- of a call, where what it did is committed, what it does to credentials; and each event elsewhere
abbrev pub told_of : ℕ → World → Bool → Act → List Told
told_of i w is_kept (Stores (Calls c)) = if is_kept then done_at i w (act_of c) else []
told_of i w is_kept (Stores Commits) = []
told_of i w is_kept (Stores (Opens finds_all)) = []
told_of i w is_kept (Elsewhere e end) = record { event = e; end = end; world = beside i w } ∷ []

abbrev pub kept : {S : Type 0} → ℕ → List (Turn S) → List Told
kept i [] = []
kept i (turn ∷ turns) = told_of i turn.old.world (is_committed turns) turn.act ++ kept i turns
