-- The rows of a map, by their numbers.
use Rattle.std.proofs.Common.{◌≡◌, ◌<◌, ◌≤◌, ◌+◌, ℕ, pos, Bool, true, false, not, cond, List, [], ◌∷◌, map, filter, refl, sym, ap, ◌∙◌, subst, arith, T, Ordering, Less, Equal, Greater, is_eq, is_lt}
use Rattle.std.proofs.lemmas.Grind.{common_steps}
use Rattle.std.specs.Prelude.{Option, Some, None, ◌&&◌}
use Rattle.std.specs.Ordering.{nat_cmp, eq_by_cmp, ordering_reverse}
use Rattle.std.specs.List.{AllByRecursion}
use Rattle.std.specs.FinMap as finite
use Rattle.std.specs.FinMap.{entries-insert, entries_sorted, put, find, is_sorted, same_map, get-entries, get-remove, get-from_sorted, entries-from_sorted, nat_cmp-IsAntisymmetric}
use Rattle.std.specs.FinMap.Entries.{below_all, is_sorted-where_key, find-where_key}
use Rattle.std.specs.Cmp.{nat_cmp_total, eq_by_cmp_equiv}
use Rattle.sqlite_value.specs.declared.value.Value.TheVariants.{Int}
use Rattle.sqlite_value.specs.Order.{Row, value_cmp}
use Rattle.sqlite_value.proofs.OrderLemmas.{value_cmp-Int}
use Rattle.sqlite_trees.specs.Tree.{rowid, put_row, without_rowid, has_rowid}

-- two numbers as rowids
pub by_number : (m n : ℕ) → value_cmp (Int (pos m)) (Int (pos n)) ≡ nat_cmp m n
by_number m n = value_cmp-Int (pos m) (pos n) ∙ grind (arith, common_steps)

-- ---- the entries of a map

less_of : (m n : ℕ) (o : Ordering) → nat_cmp m n ≡ o → T (is_lt o) → m < n
less_of m n Less is lt = grind (arith, common_steps, is)
less_of m n Equal is lt = absurd lt
less_of m n Greater is lt = absurd lt

pub first_of : (a b : Bool) → T (a && b) → T a
first_of true b p = tt
first_of false b p = p

pub second_of : (a b : Bool) → T (a && b) → T b
second_of true b p = p
second_of false b p = absurd p

itself : (n : ℕ) → eq_by_cmp nat_cmp n n ≡ true
itself n = grind (arith, common_steps)

another : (m n : ℕ) → m + 1 ≤ n → eq_by_cmp nat_cmp n m ≡ false
another m n le = grind (arith, common_steps, le)

module _ {X : Type 0} where
  pub all_above : (n : ℕ) (es : List (ℕ × X)) → T (below_all nat_cmp n es) → AllByRecursion (λ e. n + 1 ≤ e.0) es
  all_above n [] below = tt
  all_above n (e ∷ es) below =
      let lt : n < e.0 = less_of n e.0 (nat_cmp n e.0) refl (first_of (is_lt (nat_cmp n e.0)) (below_all nat_cmp n es) below) in
      (omega (arith, lt), all_above n es (second_of (is_lt (nat_cmp n e.0)) (below_all nat_cmp n es) below))

  abbrev AreFound : List (ℕ × X) → List (ℕ × X) → Type 0
  AreFound all es = AllByRecursion (λ e. find nat_cmp e.0 all ≡ Some e.1) es

  found_after : (e : ℕ × X) (all es : List (ℕ × X)) → AllByRecursion (λ x. e.0 + 1 ≤ x.0) es → AreFound all es → AreFound (e ∷ all) es
  found_after e all [] above found = tt
  found_after e all (x ∷ es) (le, above) (is, found) =
      (ap (λ b. cond b (Some e.1) (find nat_cmp x.0 all)) (another e.0 x.0 le) ∙ is, found_after e all es above found)

  are_found : (es : List (ℕ × X)) → T (is_sorted nat_cmp es) → AreFound es es
  are_found [] sorted = tt
  are_found (e ∷ es) sorted = (
    ap (λ b. cond b (Some e.1) (find nat_cmp e.0 es)) (itself e.0),
    found_after e es es (all_above e.0 es (first_of (below_all nat_cmp e.0 es) (is_sorted nat_cmp es) sorted))
        (are_found es (second_of (below_all nat_cmp e.0 es) (is_sorted nat_cmp es) sorted)),
  )

  found_at : (m : finite.FinMap nat_cmp X) (es : List (ℕ × X)) → AreFound (finite.entries m) es → AllByRecursion (λ e. finite.get m e.0 ≡ Some e.1) es
  found_at m [] found = tt
  found_at m (e ∷ es) (is, found) = (get-entries m e.0 ∙ is, found_at m es found)

  -- each entry is found under its number
  pub entries_found : (m : finite.FinMap nat_cmp X) → AllByRecursion (λ e. finite.get m e.0 ≡ Some e.1) (finite.entries m)
  entries_found m = found_at m (finite.entries m) (are_found (finite.entries m) (entries_sorted m))

-- ---- their rows

module _ {X : Type 0} (row : ℕ → X → Row) (numbered : (n : ℕ) (x : X) → rowid (row n x) ≡ Int (pos n)) where
  abbrev pub rows : List (ℕ × X) → List Row
  rows = map (λ e. row e.0 e.1)

  compared : (n : ℕ) (x : X) (k : ℕ) (y : X) → value_cmp (rowid (row k y)) (rowid (row n x)) ≡ ordering_reverse (nat_cmp n k)
  compared n x k y = rw (numbered n x, numbered k y) (by_number k n ∙ nat_cmp_total.antisymm k n)

  has_number : (n k : ℕ) (y : X) → has_rowid (pos n) (row k y) ≡ eq_by_cmp nat_cmp n k
  has_number n k y = rw (numbered k y) (ap is_eq (by_number k n) ∙ (eq_by_cmp_equiv nat_cmp_total).symm k n)

  put_entry : (n : ℕ) (x : X) (es : List (ℕ × X)) → put_row (row n x) (rows es) ≡ rows (put nat_cmp n x es)
  put_entry n x [] = refl
  put_entry n x (e ∷ es) = go (nat_cmp n e.0) refl (put_entry n x es)
    where
      go : (o : Ordering) → nat_cmp n e.0 ≡ o → put_row (row n x) (rows es) ≡ rows (put nat_cmp n x es)
          → put_row (row n x) (rows (e ∷ es)) ≡ rows (put nat_cmp n x (e ∷ es))
      go Less t more = rw (compared n x e.0 e.1, t) refl
      go Equal t more = rw (compared n x e.0 e.1, t) (ap (λ k. row k x ∷ rows es) (nat_cmp-IsAntisymmetric n e.0 t))
      go Greater t more = rw (compared n x e.0 e.1, t) (ap (λ rs. row e.0 e.1 ∷ rs) more)

  -- the row that is put is one more of the map
  pub put_in : (m : finite.FinMap nat_cmp X) (n : ℕ) (x : X) → put_row (row n x) (rows (finite.entries m)) ≡ rows (finite.entries (finite.insert m n x))
  put_in m n x = put_entry n x (finite.entries m) ∙ ap rows (sym (entries-insert nat_cmp_total m n x))

  without_entry : (n : ℕ) (es : List (ℕ × X)) → without_rowid (pos n) (rows es) ≡ rows (filter (λ e. not (eq_by_cmp nat_cmp n e.0)) es)
  without_entry n [] = refl
  without_entry n (e ∷ es) = go (eq_by_cmp nat_cmp n e.0) refl (without_entry n es)
    where
      go : (b : Bool) → eq_by_cmp nat_cmp n e.0 ≡ b → without_rowid (pos n) (rows es) ≡ rows (filter (λ e. not (eq_by_cmp nat_cmp n e.0)) es)
          → without_rowid (pos n) (rows (e ∷ es)) ≡ rows (filter (λ e. not (eq_by_cmp nat_cmp n e.0)) (e ∷ es))
      go true t more = rw (has_number n e.0 e.1, t) more
      go false t more = rw (has_number n e.0 e.1, t) (ap (λ rs. row e.0 e.1 ∷ rs) more)

  turned : (b : Bool) (x : Option X) → cond (not b) x None ≡ cond b None x
  turned true x = refl
  turned false x = refl

  left : (m : finite.FinMap nat_cmp X) (n : ℕ) → finite.entries (finite.remove m n) ≡ filter (λ e. not (eq_by_cmp nat_cmp n e.0)) (finite.entries m)
  left m n =
      let keep : ℕ → Bool = λ x. not (eq_by_cmp nat_cmp n x) in
      let es = finite.entries m in
      let sorted = is_sorted-where_key nat_cmp keep es (finite.entries_sorted m) in
      let same : finite.from_sorted (filter (λ e. keep e.0) es) ≡ finite.remove m n =
      same_map nat_cmp_total nat_cmp-IsAntisymmetric _ _ (λ q.
      get-from_sorted nat_cmp (filter (λ e. keep e.0) es) q sorted
      ∙ find-where_key nat_cmp keep q (λ x t. ap keep (sym (nat_cmp-IsAntisymmetric q x t))) es
      ∙ turned (eq_by_cmp nat_cmp n q) (find nat_cmp q es)
      ∙ ap (λ b. cond b None (find nat_cmp q es)) ((eq_by_cmp_equiv nat_cmp_total).symm n q)
      ∙ ap (cond (eq_by_cmp nat_cmp q n) None) (sym (get-entries m q))
      ∙ sym (get-remove nat_cmp_total m n q)) in
      ap finite.entries (sym same) ∙ entries-from_sorted nat_cmp (filter (λ e. keep e.0) es) sorted

  -- the row that is deleted is one less of the map
  pub without_in : (m : finite.FinMap nat_cmp X) (n : ℕ) → without_rowid (pos n) (rows (finite.entries m)) ≡ rows (finite.entries (finite.remove m n))
  without_in m n = without_entry n (finite.entries m) ∙ ap rows (sym (left m n))

  row_of_entry : (m : finite.FinMap nat_cmp X) (n : ℕ) (r : Row) (more : List Row) (es : List (ℕ × X)) → AllByRecursion (λ e. finite.get m e.0 ≡ Some e.1) es
      → filter (has_rowid (pos n)) (rows es) ≡ r ∷ more → (x : X) × (finite.get m n ≡ Some x) × (r ≡ row n x)
  row_of_entry m n r more [] found is = absurd cc
  row_of_entry m n r more (e ∷ es) found is = go (eq_by_cmp nat_cmp n e.0) refl (row_of_entry m n r more es found.1)
    where
      go : (b : Bool) → eq_by_cmp nat_cmp n e.0 ≡ b
          → (filter (has_rowid (pos n)) (rows es) ≡ r ∷ more → (x : X) × (finite.get m n ≡ Some x) × (r ≡ row n x))
          → (x : X) × (finite.get m n ≡ Some x) × (r ≡ row n x)
      go true t rest =
          let here : row e.0 e.1 ∷ filter (has_rowid (pos n)) (rows es) ≡ r ∷ more = sym (rw (has_number n e.0 e.1, t) refl) ∙ is in
          let mine : r ≡ row e.0 e.1 = cc in
          let number : e.0 ≡ n = grind (arith, common_steps, t) in
          (e.1, subst (λ k. finite.get m k ≡ Some e.1) number found.0, mine ∙ ap (λ k. row k e.1) number)
      go false t rest = rest (sym (rw (has_number n e.0 e.1, t) refl) ∙ is)

  -- the row of a number is the map's
  pub row_in : (m : finite.FinMap nat_cmp X) (n : ℕ) (r : Row) (more : List Row) → filter (has_rowid (pos n)) (rows (finite.entries m)) ≡ r ∷ more
      → (x : X) × (finite.get m n ≡ Some x) × (r ≡ row n x)
  row_in m n r more is = row_of_entry m n r more (finite.entries m) (entries_found m) is

  none_in : (n : ℕ) (es : List (ℕ × X)) → filter (has_rowid (pos n)) (rows es) ≡ [] → find nat_cmp n es ≡ None
  none_in n [] is = refl
  none_in n (e ∷ es) is = go (eq_by_cmp nat_cmp n e.0) refl (none_in n es)
    where
      go : (b : Bool) → eq_by_cmp nat_cmp n e.0 ≡ b → (filter (has_rowid (pos n)) (rows es) ≡ [] → find nat_cmp n es ≡ None) → find nat_cmp n (e ∷ es) ≡ None
      go true t more =
          let here : row e.0 e.1 ∷ filter (has_rowid (pos n)) (rows es) ≡ [] = sym (rw (has_number n e.0 e.1, t) refl) ∙ is in
          absurd cc
      go false t more =
          ap (λ b. cond b (Some e.1) (find nat_cmp n es)) t ∙ more (sym (rw (has_number n e.0 e.1, t) refl) ∙ is)

  -- where no row has a number, the map has none
  pub no_row : (m : finite.FinMap nat_cmp X) (n : ℕ) → filter (has_rowid (pos n)) (rows (finite.entries m)) ≡ [] → finite.get m n ≡ None
  no_row m n is = get-entries m n ∙ none_in n (finite.entries m) is
