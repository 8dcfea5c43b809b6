-- A site over a store is within the law over all runs (WebAuthn Level 2, section 7).
use Rattle.std.specs.Prelude.{◌≡◌, ◌==◌, ◌<◌, ℕ, List, [], ◌∷◌, ◌++◌, if◌then◌else◌, Contains, None, Some, min}
use Rattle.std.specs.FinMap as finite
use Rattle.cose.specs.Schemes.{Validity}
use Rattle.site_rows.specs.Held.{rows_of}
use Rattle.site_state.specs.Sessions.{Expected, expected_of}
use Rattle.site.specs.State as site
use Rattle.authenticator.specs.Credentials.{credential_of}
use Rattle.authenticator.specs.State.{CredentialSource}
use Rattle.authenticator.specs.Steps.{Keys}
use Rattle.agreement.specs.World.{Asks, AtSite, Deletes, Done, Event, EventEnd, IsRun, IsStart, Moment, Nothing, Registers, Reloads, Retires, SignsIn, SiteEvent, World}
use Rattle.agreement.specs.Agreement.{Agreement}
use Rattle.agreement.specs.Begun as begun
use Rattle.agreement.specs.Dropped.{IsDropped}
use Rattle.agreement.specs.Ledger.{IsLedger, world_after}
use Rattle.agreement.specs.Lived.{with_site}
use Rattle.stored_runs.specs.History.{Begun, MayStart, Store}
use Rattle.stored_runs.specs.Among.{IsHistory, Scene, Told, Turn, beside, done_at, kept, scene_after}

-- ---- what is done in a run: the sign-ins by a response, registrations by a response, retirements and deletions of site i; and each event elsewhere

abbrev pub acts_in_event : SiteEvent → List SiteEvent
acts_in_event (SignsIn n r) = SignsIn n r ∷ []
acts_in_event (Registers n r) = Registers n r ∷ []
acts_in_event (Retires id) = Retires id ∷ []
acts_in_event (Deletes id) = Deletes id ∷ []
acts_in_event e = []

abbrev pub acts_at : ℕ → World → SiteEvent → EventEnd → List Told
acts_at i w e Done = done_at i w (acts_in_event e)
acts_at i w e Nothing = []

abbrev pub told_at : ℕ → World → Event → EventEnd → List Told
told_at i w (AtSite j e) end = if j == i then acts_at i w e end else record { event = AtSite j e; end = end; world = beside i w } ∷ []
told_at i w (Asks k channel bs consent words) end = record { event = Asks k channel bs consent words; end = end; world = beside i w } ∷ []
told_at i w (Reloads k) end = record { event = Reloads k; end = end; world = beside i w } ∷ []

abbrev pub told_in : ℕ → List Moment → List Told
told_in i [] = []
told_in i (m ∷ ms) = told_at i m.old m.event m.end ++ told_in i ms

-- ---- the law

-- A site of a run stands for what a stored one has committed: the same relying party and policy, the same credentials in their order, and the
-- number of the next session, as far as numbers are reserved. And each text that was handed out, that has not ended by what is committed, and whose
-- time is not over is that of an open session, with what it was begun for.
pub record StandsFor {S : Type 0} (s : Store S) (t : site.SiteState) : Type 0 where
  pub rp : t.rp ≡ s.committed.state.rp
  pub policy : t.policy ≡ s.committed.state.policy
  pub rows : t.rows ≡ rows_of s.committed.placed
  pub next : t.sessions.next ≡ min s.now.state.next s.committed.state.reserved
  pub open_sessions : (b : Begun) → Contains s.begun b → b.number < s.committed.state.reserved → finite.get s.committed.ended b.number ≡ None → s.second < b.ends
      → finite.get t.sessions.expected b.number ≡ Some (expected_of b.number b.opening)

-- what the law over all runs says of a run from a start of a world
pub record IsLawful (valid : Validity) (public : Keys) (w : World) (run : List Moment) : Type 0 where
  pub agreement : Agreement valid run
  pub ledger : (past later : List Moment) → run ≡ past ++ later → IsLedger public past (world_after w past)
  pub sessions : (past later : List Moment) → run ≡ past ++ later → (i n : ℕ) (e : Expected)
      → finite.get ((world_after w past).site i).sessions.expected n ≡ Some e → begun.IsBegun i n past e
  pub dropped : (m : Moment) → Contains run m → (k : ℕ) (c : CredentialSource) → credential_of c.id (m.old.holder k).state.credentials ≡ Some c
      → credential_of c.id (m.new.holder k).state.credentials ≡ None → IsDropped k c m

-- a run of the world of the first scene, to that of the last, in which site i stands for the store. In it is done what the history keeps, in the
-- order of its acts, and each time the rest of the world is as it was in the history
pub record LeadsTo {S : Type 0} (valid : Validity) (public : Keys) (i : ℕ) (first : Scene S) (turns : List (Turn S)) : Type 0 where
  pub run : List Moment
  pub is_run : IsRun valid public first.world run
  pub site : site.SiteState
  pub stands_for : StandsFor (scene_after first turns).store site
  pub end : world_after first.world run ≡ with_site i site (scene_after first turns).world
  pub told : told_in i run ≡ kept i turns

-- Where site i of a world stands for one over a store, all of which is committed, each history leads to such a run. Where a run from a start of a
-- world has led to the first scene, the law speaks of the two together.
abbrev pub StoredRuns : {I : Type 0} → Type 0 → (I → Validity) → Validity → Keys → Type 0
StoredRuns S narrow wide public =
    (i : ℕ) (first : Scene S) (turns : List (Turn S)) → MayStart first.store → StandsFor first.store (first.world.site i)
    → IsHistory narrow wide public i first turns
    → (there : LeadsTo wide public i first turns)
    × ((w : World) (before : List Moment) → IsStart w → IsRun wide public w before → world_after w before ≡ first.world
    → IsLawful wide public w (before ++ there.run))
