-- Reading values one after the other, as a loop does.
use Rattle.std.proofs.Common.{◌≡◌, ◌≢◌, ℕ, zero, suc, ◌-◌, ◌+◌, ◌<◌, Bool, false, eqb, List, [], ◌∷◌, ◌++◌, Option, Some, None, refl, sym, ap, ◌∙◌, arith}
use Rattle.std.proofs.lemmas.Bool.Decides.{nat_tests}
use Rattle.ccbor.specs.declared.error.Error.{Error}
use Rattle.ccbor.specs.declared.error.Error.TheVariants as errors
use Rattle.ccbor.specs.declared.value.Value.{Value}
use Rattle.ccbor.specs.Item.{Items, no_items, item, Pairs, no_pairs, pair, array, map}
use Rattle.ccbor.specs.View.{view, items_view, pairs_view}
use Rattle.ccbor.specs.Reading.{Read, ◌>>=◌, Fails, Refuses, head_at, leaf_at, items_at, pairs_at, nested_at, item_at}

-- ---- what was read before, and what is still read

abbrev pub onto : {V A : Type 0} → (V → A → A) → List V → A → A
onto add [] end = end
onto add (v ∷ vs) end = add v (onto add vs end)

onto-push : {V A : Type 0} (add : V → A → A) (vs : List V) (v : V) (end : A) → onto add (vs ++ v ∷ []) end ≡ onto add vs (add v end)
onto-push add [] v end = refl
onto-push add (x ∷ vs) v end = ap (add x) (onto-push add vs v end)

-- what was read stands before what is still to be read
abbrev pub after : {V A : Type 0} → (V → A → A) → List V → Read A → Read A
after add vs read = read >>= λ x. Some (onto add vs x.0, x.1)

pub after-push : {V A : Type 0} (add : V → A → A) (vs : List V) (v : V) (read : Read A)
    → after add vs (read >>= λ x. Some (add v x.0, x.1)) ≡ after add (vs ++ v ∷ []) read
after-push add vs v (Some x) = ap (λ a. Some (a, x.1)) (sym (onto-push add vs v x.0))
after-push add vs v None = refl

abbrev pub add_item : Value → Items → Items
add_item v xs = item (view v) xs

abbrev pub add_pair : Value × Value → Pairs → Pairs
add_pair p ps = pair (view p.0) (view p.1) ps

pub items_view-is : (vs : List Value) → onto add_item vs no_items ≡ items_view vs
items_view-is [] = refl
items_view-is (v ∷ vs) = ap (item (view v)) (items_view-is vs)

pub pairs_view-is : (ps : List (Value × Value)) → onto add_pair ps no_pairs ≡ pairs_view ps
pairs_view-is [] = refl
pairs_view-is (p ∷ ps) = ap (pair (view p.0) (view p.1)) (pairs_view-is ps)

pub one_more : (count i : ℕ) → i < count → count - i ≡ suc (count - (i + 1))
one_more count i lt = omega arith

-- ---- refusals

pub fails : {X : Type 0} (e : Error) (read : Option X) → Refuses e read → Fails e read
fails errors.NotCanonical read h = h
fails _ read h = absurd h

pub fails-from : {A B : Type 0} (e : Error) (read : Option A) (whole : Option B) → (read ≡ None → whole ≡ None) → Fails e read → Fails e whole
fails-from errors.NotCanonical read whole f h = f h
fails-from errors.Memory read whole f h = tt
fails-from _ read whole f h = absurd h

-- ---- one value

module _ (known : Bool) (d : ℕ) (bs : List ℕ) where
  pub item_at-no_head : head_at bs ≡ None → item_at known d bs ≡ None
  unfolding item_at
  item_at-no_head none = elim d as (λ k. item_at known k bs ≡ None) [ zero ↦ rw none refl | suc k ↦ rw none refl ]

  module _ (m n : ℕ) (rest : List ℕ) where
    pub item_at-no_level : d ≡ 0 → head_at bs ≡ Some ((m, n), rest) → item_at known d bs ≡ leaf_at known (m, n) rest
    unfolding item_at
    item_at-no_level none e = rw (none, e) refl

    module _ (lt : 0 < d) (e : head_at bs ≡ Some ((m, n), rest)) where
      nested : item_at known d bs ≡ nested_at known (item_at known (d - 1)) (m, n) rest
      unfolding item_at
      nested = let k : d ≡ suc (d - 1) = omega arith in ap (λ (i : ℕ). item_at known i bs) k ∙ rw e refl

      pub item_at-leaf : m ≢ 4 → m ≢ 5 → item_at known d bs ≡ leaf_at known (m, n) rest
      item_at-leaf no4 no5 =
          let other4 : eqb m 4 ≡ false = grind (arith, nat_tests) in
          let other5 : eqb m 5 ≡ false = grind (arith, nat_tests) in
          nested ∙ rw (other4, other5) refl

      pub items_is : m ≡ 4 → item_at known d bs ≡ (items_at (item_at known (d - 1)) n rest >>= λ xs. Some (array xs.0, xs.1))
      items_is four = nested ∙ rw four refl

      pub pairs_is : m ≡ 5 → item_at known d bs ≡ (pairs_at known (item_at known (d - 1)) [] n rest >>= λ ps. Some (map ps.0, ps.1))
      pairs_is five = nested ∙ rw five refl
