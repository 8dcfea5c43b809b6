-- Lines that are carried out one after the other.
use Rattle.std.specs.Prelude.{◌≤◌}
use Rattle.std.proofs.Common.{◌++◌, [], ◌∷◌, ℕ, List, refl, subst}
use Rattle.sqlite_trees.specs.View.{View}
use Rattle.site_stored.specs.State.{StoredState}
use Rattle.site_lines.specs.Answers.{Keeps}
use Rattle.site_lines.specs.Batches.{IsAnswered, Runs}
use Rattle.site_lines.specs.declared.line.Answered.{Answered}
use Rattle.site_lines.specs.declared.line.Arrived.{Arrived}

-- one line more
pub runs_on : {S : Type 0} (view : S → View) (faults : S → ℕ) (now : ℕ) (old mid new : StoredState S) (lines : List Arrived) (told : List Answered) (line : Arrived) (a : Answered)
    → Runs view faults now old lines told mid → IsAnswered view faults now line mid new a → Keeps view mid new a.answer → faults mid.store ≤ faults new.store
    → Runs view faults now old (lines ++ line ∷ []) (told ++ a ∷ []) new
runs_on view faults now old mid new [] [] line a ran told keeps counts = (
  new,
  subst (λ (s : StoredState _). IsAnswered view faults now line s new a) ran told,
  subst (λ (s : StoredState _). Keeps view s new a.answer) ran keeps,
  subst (λ (s : StoredState _). faults s.store ≤ faults new.store) ran counts,
  refl,
)
runs_on view faults now old mid new (l ∷ lines) (b ∷ rest) line a ran told keeps counts =
    (ran.0, ran.1, ran.2, ran.3, runs_on view faults now ran.0 mid new lines rest line a ran.4 told keeps counts)
runs_on view faults now old mid new [] (b ∷ rest) line a ran told keeps counts = absurd ran
runs_on view faults now old mid new (l ∷ lines) [] line a ran told keeps counts = absurd ran
