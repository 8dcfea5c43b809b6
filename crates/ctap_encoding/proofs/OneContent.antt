-- A value of a table has one content.
use Rattle.std.proofs.Common.{◌≡◌, ℕ, Bool, true, false, List, [], ◌∷◌, map, Some, None, refl, sym, ap, ◌∙◌, pos, negsuc}
use Rattle.ccbor.specs.Item.{Item, Pairs, pair}
use Rattle.ccbor.specs.Canon.{before, spelling}
use Rattle.ccbor.specs.View.{items_of, pairs_of}
use Rattle.ccbor.proofs.KeyOrder.{before_trans, before_itself}
use Rattle.ctap_encoding.specs.Table.{Holds, a_number, some_bytes, a_text, a_truth, any_map, that_text, unsigned, truths, list_of, record_of, not_empty}
use Rattle.ctap_encoding.specs.Table.{sized, Members, no_more, listed}
use Rattle.ctap_encoding.specs.Content.{Content, Contents, truth_pair, item_of, members_item}
use Rattle.ctap_encoding.proofs.Ordered.{IsOrdered, IsOrderedFrom}

abbrev pub HasOne : Holds → Type 0
HasOne h = (c d : Content h) → item_of h c ≡ item_of h d → c ≡ d

abbrev pub HaveOne : Members → Type 0
HaveOne ms = (c d : Contents ms) → members_item ms c ≡ members_item ms d → c ≡ d

one_list_of_truths : (c d : List (List ℕ × Bool)) → pairs_of (map truth_pair c) ≡ pairs_of (map truth_pair d) → c ≡ d
one_list_of_truths [] [] e = refl
one_list_of_truths [] (q ∷ d) e = absurd cc
one_list_of_truths (p ∷ c) [] e = absurd cc
one_list_of_truths ((k, b) ∷ c) ((l, a) ∷ d) e =
    let rest : pairs_of (map truth_pair c) ≡ pairs_of (map truth_pair d) = cc in
    let name : k ≡ l = cc in
    let truth : b ≡ a = cc in
    let inner = one_list_of_truths c d rest in
    cc

one_each : (h : Holds) → HasOne h → (c d : List (Content h)) → items_of (map (item_of h) c) ≡ items_of (map (item_of h) d) → c ≡ d
one_each h one [] [] e = refl
one_each h one [] (q ∷ d) e = absurd cc
one_each h one (p ∷ c) [] e = absurd cc
one_each h one (p ∷ c) (q ∷ d) e =
    let first : item_of h p ≡ item_of h q = cc in
    let rest : items_of (map (item_of h) c) ≡ items_of (map (item_of h) d) = cc in
    ap (λ (x : Content h). x ∷ c) (one p q first) ∙ ap (λ (l : List (Content h)). q ∷ l) (one_each h one c d rest)

-- ---- records

-- the first key of a table's map comes after the last one
first_after : (ms : Members) (last : List ℕ) (c : Contents ms) (k v : Item) (ps : Pairs) → IsOrderedFrom last ms → members_item ms c ≡ pair k v ps
    → before last (spelling k) ≡ true
first_after no_more last c k v ps ordered e = absurd cc
first_after (listed l true h ms) last (a, c) k v ps ordered e = let same : l ≡ k = cc in ap (λ (i : Item). before last (spelling i)) (sym same) ∙ ordered.0
first_after (listed l false h ms) last (Some a, c) k v ps ordered e = let same : l ≡ k = cc in ap (λ (i : Item). before last (spelling i)) (sym same)
    ∙ ordered.0
first_after (listed l false h ms) last (None, c) k v ps ordered e =
    before_trans last (spelling l) (spelling k) ordered.0 (first_after ms (spelling l) c k v ps ordered.2 e)

pair_parts : (k v w : Item) (ps qs : Pairs) → pair k v ps ≡ pair k w qs → (v ≡ w) × (ps ≡ qs)
pair_parts k v w ps qs e = (cc, cc)

one_required : (k : Item) (h : Holds) (ms : Members) → HasOne h → HaveOne ms → HaveOne (listed k true h ms)
one_required k h ms one others (a, c) (b, d) e =
    let parts = pair_parts k (item_of h a) (item_of h b) (members_item ms c) (members_item ms d) e in
    ap (λ (x : Content h). (x, c)) (one a b parts.0) ∙ ap (λ (r : Contents ms). (b, r)) (others c d parts.1)

one_optional : (k : Item) (h : Holds) (ms : Members) → IsOrderedFrom (spelling k) ms → HasOne h → HaveOne ms → HaveOne (listed k false h ms)
one_optional k h ms ordered one others (Some a, c) (Some b, d) e =
    let parts = pair_parts k (item_of h a) (item_of h b) (members_item ms c) (members_item ms d) e in
    ap (λ (x : Content h). (Some x, c)) (one a b parts.0) ∙ ap (λ (r : Contents ms). (Some b, r)) (others c d parts.1)
one_optional k h ms ordered one others (None, c) (None, d) e = ap (λ (r : Contents ms). (None, r)) (others c d e)
one_optional k h ms ordered one others (None, c) (Some b, d) e =
    absurd (before_itself (spelling k) (first_after ms (spelling k) c k (item_of h b) (members_item ms d) ordered e))
one_optional k h ms ordered one others (Some a, c) (None, d) e =
    absurd (before_itself (spelling k) (first_after ms (spelling k) d k (item_of h a) (members_item ms c) ordered (sym e)))

mutual
  pub one_content : (h : Holds) → IsOrdered h → HasOne h
  one_content a_number o (pos n) (pos m) e = cc
  one_content a_number o (negsuc n) (negsuc m) e = cc
  one_content a_number o (pos n) (negsuc m) e = absurd cc
  one_content a_number o (negsuc n) (pos m) e = absurd cc
  one_content some_bytes o c d e = cc
  one_content a_text o c d e = cc
  one_content a_truth o c d e = cc
  one_content any_map o c d e = e
  one_content (that_text t) o c d e = refl
  one_content (unsigned low) o c d e = cc
  one_content truths o c d e = let inner : pairs_of (map truth_pair c) ≡ pairs_of (map truth_pair d) = cc in one_list_of_truths c d inner
  one_content (list_of h) o c d e = let inner : items_of (map (item_of h) c) ≡ items_of (map (item_of h) d) = cc in one_each h (one_content h o) c d inner
  one_content (record_of ms) o c d e = let inner : members_item ms c ≡ members_item ms d = cc in one_members ms [] o c d inner
  one_content (not_empty here h) o c d e = one_content h o c d e
  one_content (sized low high here h) o c d e = one_content h o c d e

  one_members : (ms : Members) (last : List ℕ) → IsOrderedFrom last ms → HaveOne ms
  one_members no_more last o = λ c d e. refl
  one_members (listed k true h ms) last o = one_required k h ms (one_content h o.1) (one_members ms (spelling k) o.2)
  one_members (listed k false h ms) last o = one_optional k h ms o.2 (one_content h o.1) (one_members ms (spelling k) o.2)
