-- Lists that grow by one item.
use Rattle.std.proofs.Common.{◌≡◌, ◌<◌, ◌≤◌, ◌+◌, ◌++◌, ℕ, zero, suc, List, [], ◌∷◌, length, get_or, take, Option, Some, None, refl, sym, ap, ◌∙◌, arith}
use Rattle.std.specs.Prelude.{option_map}
use Rattle.std.specs.List.{slice_get, slice_index_or}
use Rattle.std.specs.Slice.{IsItemAt}
use Rattle.std.specs.Borrow.{Bor}
use Rattle.serde_json.specs.Data.{Members}
use Rattle.site_state.specs.declared.row.Row.{Row}
use Rattle.site_acts.specs.declared.known.Known.{Known}
use Rattle.site_lines.specs.Private.{row_at}
use Rattle.site_lines.specs.Written.{counts_from, whole_row, whole_rows, with_count}

none_first : {X : Type 0} (xs : List X) → take 0 xs ≡ []
none_first [] = refl
none_first (x ∷ xs) = refl

none_taken : (rows : List Row) → whole_rows rows [] ≡ []
none_taken [] = refl
none_taken (row ∷ rows) = refl

pub rows_more : (rows : List Row) (ks : List Known) (i : ℕ) (row : Row) → i < length rows → row ≡ get_or rows i row
    → whole_rows (take (i + 1) rows) ks ≡ whole_rows (take i rows) ks ++ row_at row (slice_get ks i)
rows_more [] ks i row below is = absurd (omega arith)
rows_more (r ∷ rows) [] i row below is = none_taken (take (i + 1) (r ∷ rows)) ∙ ap (λ l. l ++ []) (sym (none_taken (take i (r ∷ rows))))
rows_more (r ∷ rows) (k ∷ ks) zero row below is = ap (λ l. whole_row r k ∷ whole_rows l ks) (none_first rows) ∙ ap (λ x. whole_row x k ∷ []) (sym is)
rows_more (r ∷ rows) (k ∷ ks) (suc i) row below is =
    let next : suc i + 1 ≡ suc (i + 1) = omega arith in
    ap (λ n. whole_rows (take n (r ∷ rows)) (k ∷ ks)) next ∙ ap (λ l. whole_row r k ∷ l) (rows_more rows ks i row (omega arith) is)

pub counts_more : (letter : List ℕ) (n : ℕ) (counts : List ℕ) (ms : Members) (i count : ℕ) → i < length counts → count ≡ get_or counts i count
    → counts_from letter n (take (i + 1) counts) ms ≡ with_count letter (n + i) count (counts_from letter n (take i counts) ms)
counts_more letter n [] ms i count below is = absurd (omega arith)
counts_more letter n (c ∷ counts) ms zero count below is =
    let same : n ≡ n + 0 = omega arith in
    ap (λ l. counts_from letter (n + 1) l (with_count letter n c ms)) (none_first counts) ∙ ap (λ x. with_count letter n x ms) (sym is)
    ∙ ap (λ m. with_count letter m count ms) same
counts_more letter n (c ∷ counts) ms (suc i) count below is =
    let same : n + 1 + i ≡ n + suc i = omega arith in
    let next : suc i + 1 ≡ suc (i + 1) = omega arith in
    ap (λ m. counts_from letter n (take m (c ∷ counts)) ms) next
    ∙ counts_more letter (n + 1) counts (with_count letter n c ms) i count (omega arith) is
    ∙ ap (λ m. with_count letter m count (counts_from letter (n + 1) (take i counts) (with_count letter n c ms))) same

past : {X : Type 0} (xs : List X) (i : ℕ) → length xs ≤ i → slice_get xs i ≡ None
past [] i h = refl
past (x ∷ xs) zero h = absurd (omega arith)
past (x ∷ xs) (suc i) h = past xs i (omega arith)

there : {X : Type 0} (xs : List X) (i : ℕ) (y : X) → i < length xs → ((d : X) → y ≡ slice_index_or xs i d) → slice_get xs i ≡ Some y
there [] i y below is = absurd (omega arith)
there (x ∷ xs) zero y below is = ap Some (sym (is y))
there (x ∷ xs) (suc i) y below is = there xs i y (omega arith) is

-- what a look at an index gives
pub got : {X : Type 0} (xs : List X) (i : ℕ) (r : Option (Bor X)) → IsItemAt xs i r → option_map (λ x. x.now) r ≡ slice_get xs i
got xs i None is = sym (past xs i is.3)
got xs i (Some x) is = sym (there xs i x.now is.3.0 is.3.1)
