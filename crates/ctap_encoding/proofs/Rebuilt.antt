-- A canonical map whose keys are all listed is its members in the table's order.
use Rattle.std.proofs.Common.{◌≡◌, ℕ, Bool, ◌||◌, true, false, List, None, refl, sym, ap, subst, ◌∙◌, inl, inr}
use Rattle.std.proofs.lemmas.Bool.{and_parts, cases_Bool, false_from_ne_true, and_from}
use Rattle.ccbor.specs.Item.{Item, Pairs, no_pairs, pair}
use Rattle.ccbor.specs.Canon.{before, spelling, PairsFit}
use Rattle.ccbor.specs.Access.{is_same_key, value_at}
use Rattle.ccbor.proofs.AccessLemmas.{same_key}
use Rattle.ccbor.proofs.KeyOrder.{before_trans, before_itself}
use Rattle.ctap_encoding.specs.Table.{Holds, Members, no_more, listed, is_listed, all_keys}
use Rattle.ctap_encoding.specs.Content.{optional}
use Rattle.ctap_encoding.proofs.Ordered.{IsOrderedFrom, differ, differ_back, after_last}

-- the members that are there, in the table's order
abbrev pub in_order : Members → Pairs → Pairs
in_order no_more ps = no_pairs
in_order (listed k required h ms) ps = optional k (value_at k ps) (in_order ms ps)

-- a key that isn't after the last one isn't there
absent : (k : Item) (d : ℕ) (last : List ℕ) (ps : Pairs) → PairsFit d last ps → (before last (spelling k) ≡ true → ⊥) → value_at k ps ≡ None
absent k d last no_pairs fits never = refl
absent k d last (pair l v ps) fits never =
    let after = fits.1 in
    let other : is_same_key l k ≡ false =
    false_from_ne_true (is_same_key l k) (λ s. never (ap (λ (i : Item). before last (spelling i)) (sym (same_key l k s)) ∙ after)) in
    rw other (absent k d (spelling l) ps fits.4 (λ b. never (before_trans last (spelling l) (spelling k) after b)))

-- a front pair before all of a table's keys isn't looked at
skip : (k v : Item) (ps : Pairs) (ms : Members) (last : List ℕ) → ((x : List ℕ) → before last x ≡ true → before (spelling k) x ≡ true) → IsOrderedFrom last ms
    → in_order ms (pair k v ps) ≡ in_order ms ps
skip k v ps no_more last up ordered = refl
skip k v ps (listed l r h ms) last up ordered =
    let after = up (spelling l) ordered.0 in
    let other = differ k l after in
    let inner = skip k v ps ms (spelling l) (λ x b. before_trans (spelling k) (spelling l) x after b) ordered.2 in
    rw (other, inner) refl

-- keys after the table's first one are listed after it
narrowed : (k : Item) (r : Bool) (h : Holds) (ms : Members) (d : ℕ) (last : List ℕ) (ps : Pairs)
    → ((x : List ℕ) → before last x ≡ true → before (spelling k) x ≡ true) → PairsFit d last ps
    → all_keys (is_listed (listed k r h ms)) ps ≡ true → all_keys (is_listed ms) ps ≡ true
narrowed k r h ms d last no_pairs up fits all = refl
narrowed k r h ms d last (pair l v ps) up fits all =
    let after = up (spelling l) (fits.1) in
    let both = and_parts (is_same_key l k || is_listed ms l) (all_keys (is_listed (listed k r h ms)) ps) all in
    let other = differ_back k l after in
    let here : is_listed ms l ≡ true = rw other at both.0 in
    and_from (is_listed ms l) (all_keys (is_listed ms) ps) here
    (narrowed k r h ms d (spelling l) ps (λ x b. before_trans (spelling k) (spelling l) x after b) fits.4 both.1)

pub in_order_is : (ms : Members) (d : ℕ) (last : List ℕ) (ps : Pairs) → IsOrderedFrom last ms → PairsFit d last ps → all_keys (is_listed ms) ps ≡ true
    → in_order ms ps ≡ ps
in_order_is no_more d last no_pairs ordered fits all = refl
in_order_is no_more d last (pair l v ps) ordered fits all = absurd cc
in_order_is (listed k r h ms) d last no_pairs ordered fits all = in_order_is ms d (spelling k) no_pairs ordered.2 tt refl
in_order_is (listed k r h ms) d last (pair l v ps) ordered fits all =
    let both = and_parts (is_same_key l k || is_listed ms l) (all_keys (is_listed (listed k r h ms)) ps) all in
    elim (cases_Bool (is_same_key l k)) [
      | inl s ↦
          let same : l ≡ k = same_key l k s in
          let tail : PairsFit d (spelling k) ps = subst (λ (i : Item). PairsFit d (spelling i) ps) same fits.4 in
          let rest = in_order_is ms d (spelling k) ps ordered.2 tail (narrowed k r h ms d (spelling k) ps (λ x b. b) tail both.1) in
          let skipped = skip l v ps ms (spelling k) (λ x b. ap (λ (i : Item). before (spelling i) x) same ∙ b) ordered.2 in
          rw s (ap (λ (q : Pairs). pair k v q) (skipped ∙ rest) ∙ ap (λ (i : Item). pair i v ps) (sym same))
      | inr s ↦
          let here : is_listed ms l ≡ true = rw s at both.0 in
          let after = after_last ms (spelling k) l ordered.2 here in
          let gone = absent k d (spelling l) ps fits.4 (λ b. before_itself (spelling k) (before_trans (spelling k) (spelling l) (spelling k) after b)) in
          let whole : PairsFit d (spelling k) (pair l v ps) = (fits.0, after, fits.2, fits.3, fits.4) in
          rw (s, gone) (in_order_is ms d (spelling k) (pair l v ps) ordered.2 whole (narrowed k r h ms d (spelling k) (pair l v ps) (λ x b. b) whole all))
    ]
