-- What a write makes of the details that a store holds.
use Rattle.std.proofs.Common.{◌≡◌, ℕ, pos, Bool, true, false, List, [], map, filter, refl, sym, ap, ◌∙◌, arith}
use Rattle.std.proofs.lemmas.Grind.{common_steps}
use Rattle.std.specs.Prelude.{◌≢◌, ◌==◌, Some, None, ℤ}
use Rattle.std.specs.FinMap as finite
use Rattle.sqlite_value.specs.declared.value.Value.TheVariants.{Int}
use Rattle.sqlite_value.specs.Order.{Row}
use Rattle.sqlite_trees.specs.Tree.{Trees, has_rowid, put_row, rowid, with_tree, without_rowid}
use Rattle.sqlite_trees.specs.View.{Finds, SetsTree, View}
use Rattle.site_rows.proofs.Tables.{no_row, put_in, row_in, without_in}
use Rattle.site_state.specs.Details.{Detail}
use Rattle.site_rows.specs.Details.{Details, IsDetailed, detail_row}

numbered : (n : ℕ) (d : Detail) → rowid (detail_row n d) ≡ Int (pos n)
numbered n d = refl

-- ---- one tree is written

untouched : (trees : Trees) (tree n : ℕ) (es : List Row) → n ≢ tree → with_tree trees tree es n ≡ trees n
untouched trees tree n es apart = go (n == tree) refl
  where
    go : (b : Bool) → (n == tree) ≡ b → with_tree trees tree es n ≡ trees n
    go true t = let same : n ≡ tree = grind (arith, common_steps, t) in absurd (apart same)
    go false t = rw t refl

left_alone : (old new : View) (n : ℕ) (edit : List Row → List Row) → SetsTree old new 5 edit → n ≢ 5 → new.trees n ≡ old.trees n
left_alone old new n edit s apart = ap (λ v. v.trees n) s.is ∙ untouched old.trees 5 n (edit (old.trees 5)) apart

later : (old new : View) (edit : List Row → List Row) → SetsTree old new 5 edit → new ≡ record old { trees = new.trees; cursors = new.cursors }
later old new edit s =
    s.is ∙ ap (λ (t : Trees). record old { trees = t; cursors = new.cursors }) (sym (ap (λ v. v.trees) s.is))

pub put : (old new : View) (place : ℕ) (d : Detail) (row : Row) → row ≡ detail_row place d → SetsTree old new 5 (put_row row)
    → IsDetailed old new (λ details. finite.insert details place d)
put old new place d row is s = record {
  holds = λ details h. ap (λ v. v.trees 5) s.is ∙ ap (λ r. put_row r (old.trees 5)) is ∙ ap (put_row (detail_row place d)) h
      ∙ put_in detail_row numbered details place d;
  others = λ n apart. left_alone old new n (put_row row) s apart;
  is = later old new (put_row row) s;
}

pub deleted : (old new : View) (place : ℕ) (id : ℤ) → id ≡ pos place → SetsTree old new 5 (without_rowid id)
    → IsDetailed old new (λ details. finite.remove details place)
deleted old new place id at s = record {
  holds = λ details h. ap (λ v. v.trees 5) s.is ∙ ap (λ n. without_rowid n (old.trees 5)) at ∙ ap (without_rowid (pos place)) h
      ∙ without_in detail_row numbered details place;
  others = λ n apart. left_alone old new n (without_rowid id) s apart;
  is = later old new (without_rowid id) s;
}

-- ---- a detail is found

abbrev rows_in : List (ℕ × Detail) → List Row
rows_in es = map (λ e. detail_row e.0 e.1) es

pub not_found : (details : Details) (place : ℕ) (row : Row) (rows : List Row) (id : ℤ) (found : Bool) → found ≡ false → id ≡ pos place → Finds rows id row found
    → rows ≡ rows_in (finite.entries details) → finite.get details place ≡ None
not_found details place row rows id true t at finds are = absurd cc
not_found details place row rows id false t at finds are =
    no_row detail_row numbered details place (ap (filter (has_rowid (pos place))) (sym are) ∙ ap (λ n. filter (has_rowid n) rows) (sym at) ∙ finds)

pub there : (details : Details) (place : ℕ) (row : Row) (rows : List Row) (id : ℤ) (found : Bool) → found ≡ true → id ≡ pos place → Finds rows id row found
    → rows ≡ rows_in (finite.entries details) → (d : Detail) × (finite.get details place ≡ Some d) × (row ≡ detail_row place d)
there details place row rows id false t at finds are = absurd cc
there details place row rows id true t at finds are =
    row_in detail_row numbered details place row []
    (ap (filter (has_rowid (pos place))) (sym are) ∙ ap (λ n. filter (has_rowid n) rows) (sym at) ∙ finds)
