-- Credentials by their places are the rows of a table.
use Rattle.std.proofs.Common.{◌≡◌, ℕ, Bool, true, false, cond, List, [], ◌∷◌, map, filter, not, refl, sym, ap, ◌∙◌, arith, true≢false}
use Rattle.std.proofs.lemmas.Grind.{common_steps}
use Rattle.std.proofs.lemmas.Option.{same_Some}
use Rattle.std.specs.Prelude.{None, Option, Some, is_some}
use Rattle.std.specs.Cmp.{eq_by_cmp_equiv, nat_cmp_total}
use Rattle.std.specs.Ordering.{eq_by_cmp, nat_cmp}
use Rattle.std.specs.FinMap.{entries-from_sorted, find, get-entries, get-from_sorted, get-remove, nat_cmp-IsAntisymmetric, same_map}
use Rattle.std.specs.FinMap.Entries.{find-where_key, is_sorted-where_key}
use Rattle.std.specs.FinMap as finite
use Rattle.std.specs.List.{AllByRecursion}
use Rattle.std.specs.Cmp.Lexicographic.{bytes_decides}
use Rattle.std.specs.Str.{bytes_eq}
use Rattle.verification.specs.Records.{Credential}
use Rattle.site_state.specs.Table.{row_of}
use Rattle.site_rows.specs.Held.{ArePlaced, IsAt, Placed, rows_of}
use Rattle.site_rows.proofs.Listed.{found_row}
use Rattle.site_rows.proofs.Tables.{entries_found}
use Rattle.site_stored.specs.Calls.{TellsIds}

abbrev listed : List (ℕ × Credential) → List Credential
listed = map (λ e. e.1)

some_listed : (m : Placed) (id : List ℕ) (es : List (ℕ × Credential)) → AllByRecursion (λ e. finite.get m e.0 ≡ Some e.1) es
    → is_some (row_of id (listed es)) ≡ true → (place : ℕ) × (c : Credential) × IsAt m id place c
some_listed m id [] are is = absurd cc
some_listed m id (e ∷ es) are is = go (bytes_eq id e.1.id) refl (some_listed m id es are.1)
  where
    go : (b : Bool) → bytes_eq id e.1.id ≡ b → (is_some (row_of id (listed es)) ≡ true → (place : ℕ) × (c : Credential) × IsAt m id place c)
        → (place : ℕ) × (c : Credential) × IsAt m id place c
    go true t more = (e.0, e.1, record { there = are.0; has_id = sym ((bytes_decides id e.1.id).0 t) })
    go false t more = more (sym (rw t refl) ∙ is)

-- whether a row has an id tells which ids credentials have
pub tells_ids : (m : Placed) → ArePlaced m → TellsIds m (λ id. is_some (row_of id (rows_of m)))
tells_ids m placed = record {
  there = λ id is. some_listed m id (finite.entries m) (entries_found m) is;
  none = λ id is place c there has.
      true≢false (sym (ap is_some (found_row m id place c placed (record { there = there; has_id = has }))) ∙ is);
}

-- ---- one less

places_left : (m : Placed) (place : ℕ) → finite.entries (finite.remove m place) ≡ filter (λ e. not (eq_by_cmp nat_cmp place e.0)) (finite.entries m)
places_left m place =
    let keep : ℕ → Bool = λ x. not (eq_by_cmp nat_cmp place x) in
    let es = finite.entries m in
    let sorted = is_sorted-where_key nat_cmp keep es (finite.entries_sorted m) in
    let same : finite.from_sorted (filter (λ e. keep e.0) es) ≡ finite.remove m place =
    same_map nat_cmp_total nat_cmp-IsAntisymmetric _ _ (λ q.
    get-from_sorted nat_cmp (filter (λ e. keep e.0) es) q sorted
    ∙ find-where_key nat_cmp keep q (λ x t. ap keep (sym (nat_cmp-IsAntisymmetric q x t))) es
    ∙ turned (eq_by_cmp nat_cmp place q) (find nat_cmp q es)
    ∙ ap (λ b. cond b None (find nat_cmp q es)) ((eq_by_cmp_equiv nat_cmp_total).symm place q)
    ∙ ap (cond (eq_by_cmp nat_cmp q place) None) (sym (get-entries m q))
    ∙ sym (get-remove nat_cmp_total m place q)) in
    ap finite.entries (sym same) ∙ entries-from_sorted nat_cmp (filter (λ e. keep e.0) es) sorted
  where
    turned : (b : Bool) (x : Option Credential) → cond (not b) x None ≡ cond b None x
    turned true x = refl
    turned false x = refl

-- without the credential at a place are just the others
left_listed : (m : Placed) (id : List ℕ) (place : ℕ) (c : Credential) (es : List (ℕ × Credential)) → ArePlaced m → IsAt m id place c
    → AllByRecursion (λ e. finite.get m e.0 ≡ Some e.1) es
    → listed (filter (λ e. not (eq_by_cmp nat_cmp place e.0)) es) ≡ filter (λ row. not (bytes_eq id row.id)) (listed es)
left_listed m id place c [] placed at are = refl
left_listed m id place c (e ∷ es) placed at are = go (eq_by_cmp nat_cmp place e.0) refl (bytes_eq id e.1.id) refl (left_listed m id place c es placed at are.1)
  where
    go : (a : Bool) → eq_by_cmp nat_cmp place e.0 ≡ a → (b : Bool) → bytes_eq id e.1.id ≡ b
        → listed (filter (λ e. not (eq_by_cmp nat_cmp place e.0)) es) ≡ filter (λ row. not (bytes_eq id row.id)) (listed es)
        → listed (filter (λ e. not (eq_by_cmp nat_cmp place e.0)) (e ∷ es)) ≡ filter (λ row. not (bytes_eq id row.id)) (listed (e ∷ es))
    go true t true u more = rw (t, u) more
    go false t false u more = rw (t, u) (ap (λ cs. e.1 ∷ cs) more)
    go true t false u more =
        let number : place ≡ e.0 = grind (arith, common_steps, t) in
        let mine : c ≡ e.1 = same_Some c e.1 (sym at.there ∙ ap (finite.get m) number ∙ are.0) in
        let same : id ≡ e.1.id = sym at.has_id ∙ ap (λ (x : Credential). x.id) mine in
        absurd (true≢false (sym ((bytes_decides id e.1.id).1 same) ∙ u))
    go false t true u more =
        let number : e.0 ≡ place = placed.own e.0 place e.1 c are.0 at.there (sym ((bytes_decides id e.1.id).0 u) ∙ sym at.has_id) in
        absurd (grind (arith, common_steps, t, number))

pub removed_rows : (m : Placed) (id : List ℕ) (place : ℕ) (c : Credential) → ArePlaced m → IsAt m id place c
    → rows_of (finite.remove m place) ≡ filter (λ row. not (bytes_eq id row.id)) (rows_of m)
removed_rows m id place c placed at =
    ap listed (places_left m place) ∙ left_listed m id place c (finite.entries m) placed at (entries_found m)
