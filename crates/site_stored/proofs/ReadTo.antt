-- Reading credentials one after the other.
use Rattle.std.proofs.Common.{◌≡◌, ℕ, List, [], ◌∷◌, ◌++◌, map, refl, sym, ap, subst, ◌∙◌}
use Rattle.std.specs.Prelude.{Some}
use Rattle.std.specs.List.{AllByRecursion}
use Rattle.std.specs.FinMap as finite
use Rattle.sqlite_value.specs.Order.{Row}
use Rattle.sqlite_trees.specs.Tree.{Trees}
use Rattle.verification.specs.Records.{Credential}
use Rattle.site_state.specs.RowViews.{row_view, rows_view}
use Rattle.site_state.specs.declared.row.Row.{Row as StoredRow}
use Rattle.site_rows.specs.Held.{ArePlaced, Holds, Placed, placed_rows, rows_of}
use Rattle.site_rows.specs.Rows.{credential_row}
use Rattle.site_rows.proofs.One.{one_credential}
use Rattle.site_rows.proofs.Tables.{entries_found}
use Rattle.site_stored.specs.Private.{AreCredentials}

abbrev pub rows_in : List (ℕ × Credential) → List Row
rows_in es = map (λ e. credential_row e.0 e.1) es

abbrev pub credentials_in : List (ℕ × Credential) → List Credential
credentials_in es = map (λ e. e.1) es

-- where all rows are these credentials', those that were read and those that are left are all of them
abbrev pub IsReadTo : List Row → List Credential → List Row → Type 0
IsReadTo all read left =
    (es : List (ℕ × Credential)) → all ≡ rows_in es → (fs : List (ℕ × Credential)) × (left ≡ rows_in fs) × (credentials_in es ≡ read ++ credentials_in fs)

pub at_first : (all left : List Row) → left ≡ all → IsReadTo all [] left
at_first all left same es are = (es, same ∙ are, refl)

moved : (read : List StoredRow) (c : StoredRow) (rest : List Credential) → rows_view read ++ (row_view c ∷ rest) ≡ rows_view (read ++ c ∷ []) ++ rest
moved [] c rest = refl
moved (r ∷ read) c rest = ap (λ l. row_view r ∷ l) (moved read c rest)

abbrev head_of : Row → List Row → Row
head_of none [] = none
head_of none (r ∷ rs) = r

abbrev rest_of : List Row → List Row
rest_of [] = []
rest_of (r ∷ rs) = rs

pub read_one : (all left more : List Row) (read : List StoredRow) (place : ℕ) (c : StoredRow) → IsReadTo all (rows_view read) left
    → left ≡ credential_row place (row_view c) ∷ more → IsReadTo all (rows_view (read ++ c ∷ [])) more
read_one all left more read place c before is es are = go (before es are).0 (before es are).1 (before es are).2
  where
    go : (fs : List (ℕ × Credential)) → left ≡ rows_in fs → credentials_in es ≡ rows_view read ++ credentials_in fs
        → (gs : List (ℕ × Credential)) × (more ≡ rows_in gs) × (credentials_in es ≡ rows_view (read ++ c ∷ []) ++ credentials_in gs)
    go [] rows joined = let no : [] ≡ credential_row place (row_view c) ∷ more = sym rows ∙ is in absurd cc
    go (f ∷ fs) rows joined =
        let same : credential_row place (row_view c) ∷ more ≡ credential_row f.0 f.1 ∷ rows_in fs = sym is ∙ rows in
        let one = one_credential place f.0 (row_view c) f.1 (ap (head_of []) same) in (
          fs,
          ap rest_of same,
          joined ∙ ap (λ d. rows_view read ++ (d ∷ credentials_in fs)) (sym one.1) ∙ moved read c (credentials_in fs),
        )

pub read_whole : (all left : List Row) (read : List StoredRow) (placed : Placed) → IsReadTo all (rows_view read) left → left ≡ [] → all ≡ placed_rows placed
    → rows_view read ≡ rows_of placed
read_whole all left read placed at none are = go (at (finite.entries placed) are).0 (at (finite.entries placed) are).1 (at (finite.entries placed) are).2
  where
    plus_none : (xs : List Credential) → xs ++ [] ≡ xs
    plus_none [] = refl
    plus_none (x ∷ xs) = ap (λ l. x ∷ l) (plus_none xs)

    go : (fs : List (ℕ × Credential)) → left ≡ rows_in fs → rows_of placed ≡ rows_view read ++ credentials_in fs → rows_view read ≡ rows_of placed
    go [] rows joined = sym (joined ∙ plus_none (rows_view read))
    go (f ∷ fs) rows joined = let no : [] ≡ credential_row f.0 f.1 ∷ rows_in fs = sym none ∙ rows in absurd cc

-- ---- each row is a credential's

all_stored : (placed : Placed) (es : List (ℕ × Credential)) → ArePlaced placed → AllByRecursion (λ e. finite.get placed e.0 ≡ Some e.1) es
    → AreCredentials (rows_in es)
all_stored placed [] are found = tt
all_stored placed (e ∷ es) are found =
    let fits = are.stored e.0 e.1 found.0 in
    ((e.0, e.1, refl, fits.0, fits.1), all_stored placed es are found.1)

pub are_credentials : (placed : Placed) (db : Trees) → Holds placed db → AreCredentials (db 0)
are_credentials placed db h =
    subst AreCredentials (sym h.table) (all_stored placed (finite.entries placed) h.are (entries_found placed))
