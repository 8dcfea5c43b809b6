-- What has ended, in a table of a store: by its number what is said of it, and until when that has to be known.
use Rattle.std.specs.Prelude.{◌≡◌, ◌≢◌, ◌≤◌, ◌<◌, ◌^◌, ◌⊎◌, ℕ, pos, Some, None, List, [], ◌∷◌, map, Result, IfErr}
use Rattle.std.specs.FinMap as finite
use Rattle.std.specs.Ordering.{nat_cmp}
use Rattle.sqlite_disk.specs.Disk.{MoreFaults}
use Rattle.sqlite_value.specs.Order.{Row}
use Rattle.sqlite_value.specs.declared.value.Value.TheVariants.{Int, Null}
use Rattle.sqlite_trees.specs.Tree.{Trees}
use Rattle.sqlite_trees.specs.View.{HasCause, IsClean, View}
use Rattle.sqlite_trees.specs.declared.error.StoreError.TheVariants.{Corrupt}
use Rattle.sqlite_trees.specs.declared.error.StoreError.{StoreError}
use Rattle.sqlite_trees.specs.declared.store.Store.{Ghosts}
use Rattle.site_rows.specs.declared.ending.Ending.{Ending}

-- the columns: number, said, until
abbrev pub ending_row : ℕ → Ending → Row
ending_row number e = Int (pos number) ∷ Null ∷ Int (pos e.said) ∷ Int (pos e.until) ∷ []

abbrev pub Endings : Type 0
Endings = finite.FinMap nat_cmp Ending

abbrev pub HoldsEndings : ℕ → Endings → Trees → Type 0
HoldsEndings tree endings db = db tree ≡ map (λ e. ending_row e.0 e.1) (finite.entries endings)

-- a row can hold it
abbrev pub FitsRow : ℕ → Ending → Type 0
FitsRow number e = (number < 2 ^ 63) × (e.said < 2 ^ 63) × (e.until < 2 ^ 63)

-- the transaction has written this table of endings, and no other tree
pub record IsEnded (tree : ℕ) (old new : View) (To : Endings → Endings) : Type 0 where
  pub holds : (endings : Endings) → HoldsEndings tree endings old.trees → HoldsEndings tree (To endings) new.trees
  pub others : (n : ℕ) → n ≢ tree → new.trees n ≡ old.trees n
  pub is : new ≡ record old { trees = new.trees; cursors = new.cursors }

-- all endings are as before, but for those that need not be known any more at this second: some of these may be gone
abbrev pub IsPurged : ℕ → Endings → Endings → Type 0
IsPurged now before after =
    (n : ℕ) → (finite.get after n ≡ finite.get before n)
    ⊎ ((e : Ending) × (finite.get before n ≡ Some e) × (e.until ≤ now) × (finite.get after n ≡ None))

-- the transaction has purged this table of endings at most
pub record Purges (tree now : ℕ) (old new : View) : Type 0 where
  pub holds : (endings : Endings) → HoldsEndings tree endings old.trees → (after : Endings) × HoldsEndings tree after new.trees × IsPurged now endings after
  pub others : (n : ℕ) → n ≢ tree → new.trees n ≡ old.trees n
  pub is : new ≡ record old { trees = new.trees; cursors = new.cursors }

-- a look-up fails as the store tells it, or as Corrupt where the table holds no endings
abbrev pub EndingFails : {S A : Type 0} → Ghosts S → ℕ → S → S → Result A StoreError → Type 0
EndingFails g tree old new result =
    IsClean (g.view new) → IfErr result (λ e. HasCause (g.view old) (MoreFaults (g.faults old) (g.faults new)) ⊥ e
    ⊎ ((e ≡ Corrupt) × ((endings : Endings) → HoldsEndings tree endings (g.view old).trees → ⊥)))
