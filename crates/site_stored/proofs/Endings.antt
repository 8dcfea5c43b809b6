-- What an ending makes of what is held.
use Rattle.std.proofs.Common.{◌≡◌, ℕ, List, Bool, true, false, refl, sym, ap, ◌∙◌, subst, arith}
use Rattle.std.proofs.lemmas.Grind.{common_steps}
use Rattle.std.specs.Prelude.{◌≢◌, IsSome, Option, Some, None}
use Rattle.std.specs.FinMap as finite
use Rattle.sqlite_trees.specs.View.{IsStorableRow, View}
use Rattle.site_state.specs.RowViews.{row_view}
use Rattle.site_rows.specs.Details.{Details}
use Rattle.site_rows.specs.Endings.{Endings, HoldsEndings, IsEnded, Purges, ending_row}
use Rattle.site_rows.specs.Held.{IsWritten, Placed}
use Rattle.site_rows.specs.Details.{IsDetailed}
use Rattle.site_rows.specs.declared.ending.Ending.{Ending}
use Rattle.site_rows.specs.declared.finding.Found.{Found}
use Rattle.site_stored.specs.Calls.{TellsCutOff}
use Rattle.site_stored.specs.Causes.{RefusesEnding}
use Rattle.site_stored.specs.Private.{CutsOffFound, EndsIn, IsFoundAs}
use Rattle.site_stored.specs.State.{IsHeld, StoredState}
use Rattle.site_stored.proofs.Held.{held_apart}

-- what need not be known is taken out, and then this has ended
pub ended : (tree now number : ℕ) (ending : Ending) (old mid new : View) → Purges tree now old mid → IsEnded tree mid new (λ endings. finite.insert endings number ending)
    → EndsIn tree now number ending old new
ended tree now number ending old mid new p w = record {
  holds = λ endings h. let x = p.holds endings h in (finite.insert x.0 number ending, (x.0, x.2, refl), w.holds x.0 x.1);
  others = λ n apart. w.others n apart ∙ p.others n apart;
  is = w.is ∙ ap (λ (v : View). record v { trees = new.trees; cursors = new.cursors }) p.is;
}

-- the table of sessions that have ended is written, and no other
pub held_ended : {S : Type 0} (placed : Placed) (t : StoredState S) (now number : ℕ) (ending : Ending) (old new : View) → EndsIn 8 now number ending old new
    → IsHeld placed t old.trees → IsHeld placed t new.trees
held_ended placed t now number ending old new w =
    held_apart placed t old new (w.others 0 (λ e. grind (arith, common_steps, e))) (w.others 2 (λ e. grind (arith, common_steps, e)))
    (w.others 3 (λ e. grind (arith, common_steps, e))) (w.others 4 (λ e. grind (arith, common_steps, e)))

-- that of users is, and no other
pub held_cut_off : {S : Type 0} (placed : Placed) (t : StoredState S) (now number : ℕ) (ending : Ending) (old new : View) → EndsIn 9 now number ending old new
    → IsHeld placed t old.trees → IsHeld placed t new.trees
held_cut_off placed t now number ending old new w =
    held_apart placed t old new (w.others 0 (λ e. grind (arith, common_steps, e))) (w.others 2 (λ e. grind (arith, common_steps, e)))
    (w.others 3 (λ e. grind (arith, common_steps, e))) (w.others 4 (λ e. grind (arith, common_steps, e)))

-- the writes of credentials and of details leave what has ended
pub sessions_stay : (old mid new : View) (placed : Placed) (To : Details → Details) (endings : Endings) → IsWritten old mid placed → IsDetailed mid new To
    → HoldsEndings 8 endings old.trees → HoldsEndings 8 endings new.trees
sessions_stay old mid new placed To endings w d h =
    d.others 8 (λ e. grind (arith, common_steps, e))
    ∙ w.others 8 (λ e. grind (arith, common_steps, e)) (λ e. grind (arith, common_steps, e)) (λ e. grind (arith, common_steps, e)) ∙ h

-- no store takes a row of an ending there, as before a write of another tree
pub refuses_ending : (tree : ℕ) (old mid : View) → mid.reals ≡ old.reals → RefusesEnding tree mid → RefusesEnding tree old
refuses_ending tree old mid reals row =
    (row.0, row.1, subst (λ (k : ℕ → ℕ). ¬ IsStorableRow (k tree) (ending_row row.0 row.1)) reals row.2)

-- where a credential was there, that of users alone is written; else nothing is
pub beside_cut_off : (key : List ℕ) (next now : ℕ) (was : Bool) (found : Option Found) (old new : View) (n : ℕ)
    → CutsOffFound key next now was found old new → n ≢ 9 → new.trees n ≡ old.trees n
beside_cut_off key next now true None old new n w apart = ap (λ (v : View). v.trees n) w
beside_cut_off key next now true (Some f) old new n w apart = w.others n apart
beside_cut_off key next now false found old new n w apart = ap (λ (v : View). v.trees n) w

pub held_cut_found : {S : Type 0} (placed : Placed) (t : StoredState S) (key : List ℕ) (next now : ℕ) (was : Bool) (found : Option Found) (old new : View)
    → CutsOffFound key next now was found old new → IsHeld placed t old.trees → IsHeld placed t new.trees
held_cut_found placed t key next now was found old new w =
    held_apart placed t old new (beside_cut_off key next now was found old new 0 w (λ e. grind (arith, common_steps, e)))
    (beside_cut_off key next now was found old new 2 w (λ e. grind (arith, common_steps, e)))
    (beside_cut_off key next now was found old new 3 w (λ e. grind (arith, common_steps, e)))
    (beside_cut_off key next now was found old new 4 w (λ e. grind (arith, common_steps, e)))

pub tells_cut_off : {S : Type 0} (placed : Placed) (id : List ℕ) (s : StoredState S) (now : ℕ) (was : Bool) (found : Option Found) (users : Endings) (old new : View)
    → IsFoundAs placed id found → (was ≡ true → IsSome found) → CutsOffFound s.key s.next now was found old new → HoldsEndings 9 users old.trees
    → (after : Endings) × TellsCutOff placed id was s now users after × HoldsEndings 9 after new.trees
tells_cut_off placed id s now true None users old new is there w h = let found : IsSome {T = Found} None = there refl in absurd cc
tells_cut_off placed id s now true (Some f) users old new is there w h =
    let x = w.holds users h in (x.0, (f.place, row_view f.credential, is, x.1), x.2)
tells_cut_off placed id s now false found users old new is there w h = (users, refl, subst (λ (v : View). HoldsEndings 9 users v.trees) (sym w) h)
