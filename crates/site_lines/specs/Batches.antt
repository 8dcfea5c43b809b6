-- Lines that are carried out together and committed together.
use Rattle.std.specs.Prelude.{◌≡◌, ◌≤◌, ◌⊎◌, ℕ, List, [], ◌∷◌, Some, map, true}
use Rattle.sqlite_trees.specs.Tree.{Trees}
use Rattle.sqlite_trees.specs.View.{View, IsClean}
use Rattle.site_rows.specs.Held.{Placed}
use Rattle.site_stored.specs.State.{IsHeld, StoredState, committed_as, to_commit}
use Rattle.site_stored.specs.Calls.{IsCommit, IsFailure}
use Rattle.site_stored.specs.Causes.{RefusesCommit}
use Rattle.site_stored.specs.declared.failure.Failure.{Failure}
use Rattle.site_lines.specs.Answers.{Keeps, Tells}
use Rattle.site_lines.specs.Details.{TellsDetails}
use Rattle.site_lines.specs.Causes.{FailsIn, IsCausedIn}
use Rattle.site_acts.specs.Faults.{IsRefused}
use Rattle.site_acts.specs.Lines.{Reads}
use Rattle.site_acts.specs.declared.act.Act.{Act}
use Rattle.json_lines.specs.declared.error.LineError.{LineError}
use Rattle.site_lines.specs.declared.line.Answered.{Answered}
use Rattle.site_lines.specs.declared.line.Arrived.{Arrived}
use Rattle.site_lines.specs.declared.answer.Answer.TheVariants as answers

-- a line is answered with its number, by what its act tells, with its own random bytes, or by a failure that has its cause in the act; or it
-- is refused, for the cause that is named
abbrev pub IsAnswered : {S : Type 0} → (S → View) → (S → ℕ) → ℕ → Arrived → StoredState S → StoredState S → Answered → Type 0
IsAnswered view faults now line old new a =
    ((id : ℕ) × (act : Act) × Reads line.line.items id act × (a.id ≡ Some id) × Tells view line.words now act old new a.answer
    × TellsDetails view now act old new a.answer × FailsIn view faults now act old new a.answer)
    ⊎ ((why : LineError) × (a.answer ≡ answers.Error why) × IsRefused line.line.items a.id why)

-- each line is answered, in order, and the store counts faults from each to the next
abbrev pub Runs : {S : Type 0} → (S → View) → (S → ℕ) → ℕ → StoredState S → List Arrived → List Answered → StoredState S → Type 0
Runs view faults now old [] [] new = new ≡ old
Runs {S} view faults now old (line ∷ lines) (a ∷ rest) new =
    (mid : StoredState S) × IsAnswered view faults now line old mid a × Keeps view old mid a.answer × (faults old.store ≤ faults mid.store)
    × Runs view faults now mid lines rest new
Runs view faults now old _ _ new = ⊥

-- a line is answered by this failure, with its number
abbrev pub failed_as : Failure → Answered → Answered
failed_as why a = record a { answer = answers.Failed why }

-- the site is as the lines have left it, but that more numbers are reserved, and the commit has its mark, and all of it is committed: a crash
-- from now on leaves just this
pub record IsCommitted {S : Type 0} (view : S → View) (recovers : S → Trees → Type 0) (mid new : StoredState S) : Type 0 where
  pub is : IsCommit mid new
  pub held : IsClean (view new.store) → (placed : Placed) → IsHeld placed mid (view mid.store).trees → IsHeld placed new (view new.store).trees
  pub beside : IsClean (view new.store) → (tree : ℕ) → (tree ≡ 2 → ⊥) → (tree ≡ 6 → ⊥) → (view new.store).trees tree ≡ (view mid.store).trees tree
  pub durable : IsClean (view new.store) → (db : Trees) → recovers new.store db → db ≡ (view new.store).trees

-- a commit fails: the site was shut before it, or its failure has its cause in it
abbrev pub IsNotCommitted : {S : Type 0} → (S → View) → (S → ℕ) → StoredState S → StoredState S → Failure → Type 0
IsNotCommitted view faults mid new why =
    IsFailure mid new why
    × (IsClean (view new.store) → IsCausedIn view faults mid new (RefusesCommit (view mid.store).reals mid.rp.rp_id (to_commit mid.durable mid.reserved) mid.next_mark mid.mark) ⊥ why)

-- what is answered: the answers of the lines, which are committed; or, of each, why they are not
abbrev pub Answers : {S : Type 0} → (S → View) → (S → ℕ) → (S → Trees → Type 0) → ℕ → StoredState S → List Arrived → List Answered → StoredState S → Type 0
Answers {S} view faults recovers now old lines told new =
    ((mid : StoredState S) × Runs view faults now old lines told mid × IsCommitted view recovers mid new)
    ⊎ ((why : Failure) × (carried : List Answered) × (mid : StoredState S) × Runs view faults now old lines carried mid × (told ≡ map (failed_as why) carried)
    × (new.is_shut ≡ true) × IsNotCommitted view faults mid new why)

-- what is in the file where the commit was cut off after its write: all that the lines have done, more numbers reserved, and its mark
abbrev pub Leaves : {S : Type 0} → (S → View) → (S → ℕ) → ℕ → StoredState S → List Arrived → Trees → Type 0
Leaves {S} view faults now old lines db =
    (carried : List Answered) × (mid : StoredState S) × Runs view faults now old lines carried mid
    × (db ≡ committed_as mid (view mid.store).trees)
