-- The row of the relying party is set, or that of a commit, and nothing else.
use Rattle.std.proofs.Common.{◌≡◌, ℕ, List, [], ◌∷◌, Bool, true, false, refl, sym, ap, ap₂, ◌∙◌, subst, arith}
use Rattle.std.proofs.lemmas.Grind.{common_steps}
use Rattle.std.specs.Prelude.{◌≢◌, ◌==◌}
use Rattle.sqlite_value.specs.Order.{Row}
use Rattle.sqlite_trees.specs.Tree.{Trees, put_row}
use Rattle.sqlite_trees.specs.View.{SetsTree, View}
use Rattle.site_rows.specs.Held.{Indexes, Placed}
use Rattle.site_rows.proofs.Tables.{by_number}
use Rattle.site_stored.specs.State.{HoldsSite, site_row, with_mark, with_site}

one_site : (id : List ℕ) (n m : ℕ) → put_row (site_row id n) (site_row id m ∷ []) ≡ site_row id n ∷ []
one_site id n m = rw (by_number 1 1) refl

pub reserved : (old new : View) (placed : Placed) (rp_id : List ℕ) (was next : ℕ) (row : Row) → row ≡ site_row rp_id next → SetsTree old new 2 (put_row row)
    → HoldsSite placed rp_id was old.trees → HoldsSite placed rp_id next new.trees
reserved old new placed rp_id was next row is s h = record {
  credentials = record {
    table = ap (λ v. v.trees 0) s.is ∙ h.credentials.table;
    by_id = subst (Indexes (λ c. c.id) placed) (sym (ap (λ v. v.trees 3) s.is)) h.credentials.by_id;
    by_user = subst (Indexes (λ c. c.user) placed) (sym (ap (λ v. v.trees 4) s.is)) h.credentials.by_user;
    are = h.credentials.are;
  };
  site = ap (λ v. v.trees 2) s.is ∙ ap (λ r. put_row r (old.trees 2)) is ∙ ap (put_row (site_row rp_id next)) h.site ∙ one_site rp_id next was;
}

pub marked : (old new : View) (placed : Placed) (rp_id : List ℕ) (next : ℕ) (row : Row) → SetsTree old new 6 (put_row row)
    → HoldsSite placed rp_id next old.trees → HoldsSite placed rp_id next new.trees
marked old new placed rp_id next row s h = record {
  credentials = record {
    table = ap (λ v. v.trees 0) s.is ∙ h.credentials.table;
    by_id = subst (Indexes (λ c. c.id) placed) (sym (ap (λ v. v.trees 3) s.is)) h.credentials.by_id;
    by_user = subst (Indexes (λ c. c.user) placed) (sym (ap (λ v. v.trees 4) s.is)) h.credentials.by_user;
    are = h.credentials.are;
  };
  site = ap (λ v. v.trees 2) s.is ∙ h.site;
}

-- both are set by a commit
pub both_set : (db marked set was : Trees) (rp_id id : List ℕ) (next n mark follows : ℕ) → db ≡ marked → marked ≡ with_mark mark follows set
    → set ≡ with_site id n was → id ≡ rp_id → n ≡ next → db ≡ with_mark mark follows (with_site rp_id next was)
both_set db marked set was rp_id id next n mark follows is marks sets same_id same_n =
    is ∙ marks ∙ ap (with_mark mark follows) (sets ∙ ap₂ (λ id n. with_site id n was) same_id same_n)

-- where the row of the relying party is set, the other trees stay
pub beside_site : (rp_id : List ℕ) (next : ℕ) (db new : Trees) (tree : ℕ) → new ≡ with_site rp_id next db → tree ≢ 2 → new tree ≡ db tree
beside_site rp_id next db new tree is apart = ap (λ (t : Trees). t tree) is ∙ go (tree == 2) refl
  where
    go : (b : Bool) → (tree == 2) ≡ b → with_site rp_id next db tree ≡ db tree
    go true t = let same : tree ≡ 2 = grind (arith, common_steps, t) in absurd (apart same)
    go false t = rw t refl
