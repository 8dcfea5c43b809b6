-- What the calls of a site over a store make of what its trees hold: each call that is done is one of a history.
use Rattle.std.specs.Prelude.{◌≡◌, ℕ}
use Rattle.sqlite_trees.specs.View.{View, IsClean}
use Rattle.cose.specs.Schemes.{Validity}
use Rattle.site_rows.specs.Endings.{Endings}
use Rattle.site_rows.specs.Held.{Placed}
use Rattle.site_stored.specs.Calls.{IsOneSite}
use Rattle.site_stored.specs.State.{HasKey, StoredState}
use Rattle.site_stored.specs.declared.session.Begun as handed
use Rattle.site_state.specs.Sessions.{Opening}
use Rattle.std.specs.FinMap as finite
use Rattle.agreement.specs.Acting.{nothing_valid}
use Rattle.stored_runs.specs.History.{Begins, Call, Does, IsCommitted, IsKept, IsOpened, Kept, begun_at}

-- a site, with the credentials and the sessions that have ended by its trees
abbrev pub kept_as : {S : Type 0} → (S → View) → StoredState S → Placed → Endings → Kept S
kept_as view s placed ended = record { state = s; placed = placed; ended = ended; trees = (view s.store).trees }

-- Where the disk has given back what was written, and whatever credentials and endings the trees held, they hold others that such a call makes of
-- them. What its caller does not name, as the number of a session, is answered.
abbrev pub Makes : {S A : Type 0} → (S → View) → Validity → StoredState S → (A → Call) → StoredState S → Type 0
Makes {S} {A} view valid old calls new =
    IsClean (view new.store) → (placed : Placed) (ended : Endings) → IsKept (kept_as view old placed ended)
    → (a : A) × (after : Placed) × (left : Endings)
    × (IsKept (kept_as view new after left) × IsOneSite old new × Does valid (kept_as view old placed ended) (calls a) (kept_as view new after left))

-- a session begins, and its text is handed out
abbrev pub MakesBegun : {S : Type 0} → (S → View) → StoredState S → Opening → ℕ → handed.Begun → StoredState S → Type 0
MakesBegun view old o now b new =
    Makes {A = Unit {0}} view nothing_valid old (λ u. Begins o now) new × (b.session ≡ (begun_at old o now).number) × (b.text.items ≡ (begun_at old o now).text)

-- what was called is committed
abbrev pub MakesCommitted : {S : Type 0} → (S → View) → StoredState S → StoredState S → Type 0
MakesCommitted view old new =
    IsClean (view new.store) → (placed : Placed) (ended : Endings) → IsKept (kept_as view old placed ended)
    → IsKept (kept_as view new placed ended) × IsCommitted (kept_as view old placed ended) (kept_as view new placed ended)

-- whichever kept site has the trees that an open finds, and its key in them: it is that one
abbrev pub MakesOpened : {S : Type 0} → (S → View) → StoredState S → Type 0
MakesOpened {S} view new =
    IsClean (view new.store) → (kept : Kept S) → IsKept kept → HasKey kept.state.key kept.trees → kept.trees ≡ (view new.store).trees
    → IsKept (kept_as view new kept.placed kept.ended) × IsOpened kept (kept_as view new kept.placed kept.ended)

-- a site that is made is kept, with no credential and no session that has ended, and its key is in its trees
abbrev pub MakesNew : {S : Type 0} → (S → View) → StoredState S → Type 0
MakesNew view new =
    IsClean (view new.store) → IsKept (kept_as view new finite.empty finite.empty) × HasKey new.key (view new.store).trees
