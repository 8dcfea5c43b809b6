-- Tables whose keys stand in the canonical order.
use Rattle.std.proofs.Common.{◌≡◌, ℕ, Bool, true, false, ◌||◌, ◌&&◌, List, [], None, refl, sym, ap, ◌∙◌, inl, inr}
use Rattle.std.proofs.lemmas.Bool.{or_cases, false_from_ne_true, and_parts}
use Rattle.ccbor.specs.Item.{Item, Pairs, no_pairs, pair}
use Rattle.ccbor.specs.Canon.{before, spelling}
use Rattle.ccbor.specs.Access.{is_same_key, value_at}
use Rattle.ccbor.proofs.AccessLemmas.{same_key}
use Rattle.ccbor.proofs.KeyOrder.{before_trans, before_itself}
use Rattle.ctap_encoding.specs.Table.{Holds, list_of, record_of, not_empty, sized, Members, no_more, listed, is_listed, all_keys}

-- the table's keys come after the last one, and each before the next, in it and in the tables inside it
abbrev mutual
  pub IsOrdered : Holds → Type 0
  IsOrdered (list_of h) = IsOrdered h
  IsOrdered (record_of ms) = IsOrderedFrom [] ms
  IsOrdered (not_empty fault h) = IsOrdered h
  IsOrdered (sized low high fault h) = IsOrdered h
  IsOrdered _ = Unit {0}

  pub IsOrderedFrom : List ℕ → Members → Type 0
  IsOrderedFrom last no_more = Unit {0}
  IsOrderedFrom last (listed k required h ms) = (before last (spelling k) ≡ true) × IsOrdered h × IsOrderedFrom (spelling k) ms

pub differ : (k l : Item) → before (spelling k) (spelling l) ≡ true → is_same_key k l ≡ false
differ k l b = false_from_ne_true (is_same_key k l) (λ s. before_itself (spelling k) (ap (λ (i : Item). before (spelling k) (spelling i)) (same_key k l s) ∙ b))

pub differ_back : (k l : Item) → before (spelling k) (spelling l) ≡ true → is_same_key l k ≡ false
differ_back k l b = false_from_ne_true (is_same_key l k)
    (λ s. before_itself (spelling k) (ap (λ (i : Item). before (spelling k) (spelling i)) (sym (same_key l k s)) ∙ b))

-- a listed key comes after the last one
pub after_last : (ms : Members) (last : List ℕ) (l : Item) → IsOrderedFrom last ms → is_listed ms l ≡ true → before last (spelling l) ≡ true
after_last no_more last l ordered e = absurd cc
after_last (listed k r h ms) last l ordered e =
    elim (or_cases (is_same_key l k) (is_listed ms l) e) [
      | inl s ↦ ap (λ (i : Item). before last (spelling i)) (same_key l k s) ∙ ordered.0
      | inr s ↦ before_trans last (spelling k) (spelling l) ordered.0 (after_last ms (spelling k) l ordered.2 s)
    ]

-- no listed key is one before them all
pub not_there : (k : Item) (ms : Members) (ps : Pairs) → IsOrderedFrom (spelling k) ms → all_keys (is_listed ms) ps ≡ true → value_at k ps ≡ None
not_there k ms no_pairs ordered all = refl
not_there k ms (pair l v ps) ordered all =
    let both = and_parts (is_listed ms l) (all_keys (is_listed ms) ps) all in
    let other = differ_back k l (after_last ms (spelling k) l ordered both.0) in
    rw other (not_there k ms ps ordered both.1)

-- what is listed is listed in a longer table
pub listed_too : (k : Item) (r : Bool) (h : Holds) (ms : Members) (ps : Pairs) → all_keys (is_listed ms) ps ≡ true
    → all_keys (is_listed (listed k r h ms)) ps ≡ true
listed_too k r h ms no_pairs all = refl
listed_too k r h ms (pair l v ps) all =
    let both = and_parts (is_listed ms l) (all_keys (is_listed ms) ps) all in
    rw (listed_too k r h ms ps both.1) (go (is_same_key l k) (is_listed ms l) both.0) where
      go : (a b : Bool) → b ≡ true → ((a || b) && true) ≡ true
      go true b e = refl
      go false b e = rw e refl
