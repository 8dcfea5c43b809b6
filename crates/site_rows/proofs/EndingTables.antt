-- What a write makes of the endings that a store holds.
use Rattle.std.proofs.Common.{◌≡◌, ◌≤◌, ◌<◌, ℕ, pos, Bool, true, false, cond, List, [], ◌∷◌, map, filter, refl, sym, ap, ◌∙◌, arith, inl, inr}
use Rattle.std.proofs.lemmas.Grind.{common_steps}
use Rattle.std.specs.Prelude.{◌≢◌, ◌==◌, ◌⊎◌, Some, None, ℤ}
use Rattle.std.specs.FinMap as finite
use Rattle.std.specs.FinMap.{get-remove}
use Rattle.std.specs.Cmp.{nat_cmp_total}
use Rattle.std.specs.List.{AllByRecursion}
use Rattle.std.specs.Ordering.{eq_by_cmp, is_lt, nat_cmp}
use Rattle.sqlite_value.specs.declared.keys.Order.{Order}
use Rattle.sqlite_value.specs.declared.value.Value.TheVariants.{Int}
use Rattle.sqlite_value.specs.Keys.{prefix_cmp}
use Rattle.sqlite_value.specs.Order.{Row}
use Rattle.sqlite_trees.specs.Tree.{Trees, from_key, has_rowid, put_row, rowid, with_tree, without_rowid}
use Rattle.sqlite_trees.specs.View.{Finds, SetsTree, View}
use Rattle.site_rows.proofs.Tables.{entries_found, no_row, put_in, row_in, without_in}
use Rattle.site_rows.proofs.Transactions.{IsLater, later, left_alone}
use Rattle.site_rows.specs.declared.ending.Ending.{Ending}
use Rattle.site_rows.specs.Endings.{Endings, HoldsEndings, IsEnded, IsPurged, Purges, ending_row}

pub numbered : (n : ℕ) (e : Ending) → rowid (ending_row n e) ≡ Int (pos n)
numbered n e = refl

abbrev rows_in : List (ℕ × Ending) → List Row
rows_in es = map (λ e. ending_row e.0 e.1) es

-- ---- one tree is written

here : (trees : Trees) (tree : ℕ) (es : List Row) → with_tree trees tree es tree ≡ es
here trees tree es = let same : (tree == tree) ≡ true = grind (arith, common_steps) in rw same refl

written : (tree : ℕ) (old new : View) (edit : List Row → List Row) → SetsTree old new tree edit → new.trees tree ≡ edit (old.trees tree)
written tree old new edit s = ap (λ v. v.trees tree) s.is ∙ here old.trees tree (edit (old.trees tree))

pub put : (tree : ℕ) (old new : View) (number : ℕ) (e : Ending) (row : Row) → row ≡ ending_row number e → SetsTree old new tree (put_row row)
    → IsEnded tree old new (λ endings. finite.insert endings number e)
put tree old new number e row is s = record {
  holds = λ endings h. written tree old new (put_row row) s ∙ ap (λ r. put_row r (old.trees tree)) is ∙ ap (put_row (ending_row number e)) h
      ∙ put_in ending_row numbered endings number e;
  others = λ n apart. left_alone old new tree n (put_row row) s apart;
  is = later old old new tree (put_row row) refl s;
}

-- ---- an ending is found

pub not_found : (endings : Endings) (number : ℕ) (row : Row) (rows : List Row) (id : ℤ) (found : Bool) → found ≡ false → id ≡ pos number
    → Finds rows id row found → rows ≡ rows_in (finite.entries endings) → finite.get endings number ≡ None
not_found endings number row rows id true t at finds are = absurd cc
not_found endings number row rows id false t at finds are =
    no_row ending_row numbered endings number
    (ap (filter (has_rowid (pos number))) (sym are) ∙ ap (λ n. filter (has_rowid n) rows) (sym at) ∙ finds)

pub there : (endings : Endings) (number : ℕ) (row : Row) (rows : List Row) (id : ℤ) (found : Bool) → found ≡ true → id ≡ pos number
    → Finds rows id row found → rows ≡ rows_in (finite.entries endings)
    → (e : Ending) × (finite.get endings number ≡ Some e) × (row ≡ ending_row number e)
there endings number row rows id false t at finds are = absurd cc
there endings number row rows id true t at finds are =
    row_in ending_row numbered endings number row []
    (ap (filter (has_rowid (pos number))) (sym are) ∙ ap (λ n. filter (has_rowid n) rows) (sym at) ∙ finds)

-- ---- an ending is purged

head_in : (endings : Endings) (o : Order) (key : Row) (row : Row) (left : List Row) (es : List (ℕ × Ending))
    → AllByRecursion (λ e. finite.get endings e.0 ≡ Some e.1) es → from_key o key (rows_in es) ≡ row ∷ left
    → (e : ℕ × Ending) × (row ≡ ending_row e.0 e.1) × (finite.get endings e.0 ≡ Some e.1)
head_in endings o key row left [] found is = absurd cc
head_in endings o key row left (e ∷ es) found is = go (is_lt (prefix_cmp o (ending_row e.0 e.1) key)) refl (head_in endings o key row left es found.1)
  where
    go : (b : Bool) → is_lt (prefix_cmp o (ending_row e.0 e.1) key) ≡ b
        → (from_key o key (rows_in es) ≡ row ∷ left → (x : ℕ × Ending) × (row ≡ ending_row x.0 x.1) × (finite.get endings x.0 ≡ Some x.1))
        → (x : ℕ × Ending) × (row ≡ ending_row x.0 x.1) × (finite.get endings x.0 ≡ Some x.1)
    go true t rest = rest (sym (rw t refl) ∙ is)
    go false t rest =
        let head : ending_row e.0 e.1 ∷ rows_in es ≡ row ∷ left = sym (rw t refl) ∙ is in
        let mine : row ≡ ending_row e.0 e.1 = cc in
        (e, mine, found.0)

without_it : (now : ℕ) (endings : Endings) (number : ℕ) (e : Ending) → finite.get endings number ≡ Some e → e.until ≤ now
    → IsPurged now endings (finite.remove endings number)
without_it now endings number e is past n = go (eq_by_cmp nat_cmp n number) refl
  where
    go : (b : Bool) → eq_by_cmp nat_cmp n number ≡ b
        → (finite.get (finite.remove endings number) n ≡ finite.get endings n)
        ⊎ ((x : Ending) × (finite.get endings n ≡ Some x) × (x.until ≤ now) × (finite.get (finite.remove endings number) n ≡ None))
    go true t =
        let same : n ≡ number = grind (arith, common_steps, t) in
        inr (e, ap (finite.get endings) same ∙ is, past, get-remove nat_cmp_total endings number n ∙ ap (λ b. cond b None (finite.get endings n)) t)
    go false t = inl (get-remove nat_cmp_total endings number n ∙ ap (λ b. cond b None (finite.get endings n)) t)

-- only cursors have moved
abbrev pub HasMoved : View → View → Type 0
HasMoved old new = new ≡ record old { cursors = new.cursors }

pub unpurged : (tree now : ℕ) (old new : View) → HasMoved old new → Purges tree now old new
unpurged tree now old new is = record {
  holds = λ endings h. (endings, ap (λ v. v.trees tree) is ∙ h, λ n. inl refl);
  others = λ n apart. ap (λ v. v.trees n) is;
  is = is ∙ ap (λ (t : Trees). record old { trees = t; cursors = new.cursors }) (sym (ap (λ v. v.trees) is));
}

pub purged : (tree now : ℕ) (old mid new : View) (o : Order) (key row : Row) (left : List Row) (id it : ℤ) → id ≡ it → HasMoved old mid
    → from_key o key (old.trees tree) ≡ row ∷ left → ((n : ℕ) (e : Ending) → row ≡ ending_row n e → (it ≡ pos n) × (e.until ≤ now))
    → SetsTree mid new tree (without_rowid id) → Purges tree now old new
purged tree now old mid new o key row left id it same_id moved first past s =
    let same : mid.trees ≡ old.trees = ap (λ v. v.trees) moved in
    let onward : IsLater old mid = moved ∙ ap (λ (t : Trees). record old { trees = t; cursors = mid.cursors }) (sym same) in
    record {
      holds = λ endings h.
          let x = head_in endings o key row left (finite.entries endings) (entries_found endings) (sym (ap (from_key o key) h) ∙ first) in
          let y = past x.0.0 x.0.1 x.1 in (
            finite.remove endings x.0.0,
            written tree mid new (without_rowid id) s ∙ ap (λ t. without_rowid id (t tree)) same ∙ ap (λ n. without_rowid n (old.trees tree)) (same_id ∙ y.0)
                ∙ ap (without_rowid (pos x.0.0)) h ∙ without_in ending_row numbered endings x.0.0,
            without_it now endings x.0.0 x.0.1 x.2 y.1,
          );
      others = λ n apart. left_alone mid new tree n (without_rowid id) s apart ∙ ap (λ t. t n) same;
      is = later old mid new tree (without_rowid id) onward s;
    }
