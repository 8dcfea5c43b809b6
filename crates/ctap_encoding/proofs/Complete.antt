-- A value that has no fault against a table is read by it.
use Rattle.std.proofs.Common.{◌≡◌, ℕ, zero, suc, Bool, true, false, cond, List, [], ◌∷◌, Option, Some, None, refl, sym, ap, subst, ◌∙◌, pos, negsuc}
use Rattle.std.proofs.Common.{nat_le, nat_lt}
use Rattle.ccbor.specs.Item as of
use Rattle.ccbor.specs.Item.{Item, Items, no_items, item, Pairs, no_pairs, pair}
use Rattle.ccbor.specs.Canon.{before, spelling, Fits, ItemsFit, PairsFit}
use Rattle.ccbor.specs.Reading.{◌>>=◌}
use Rattle.ccbor.specs.Access.{value_at, split_key, is_same_key}
use Rattle.ccbor.proofs.AccessLemmas.{same_key}
use Rattle.ccbor.proofs.KeyOrder.{before_trans}
use Rattle.ctap_encoding.specs.declared.fault.Fault.{Fault}
use Rattle.ctap_encoding.specs.declared.fault.Fault.TheVariants as faults
use Rattle.ctap_encoding.specs.Table.{Holds, a_number, some_bytes, a_text, a_truth, any_map, that_text, unsigned, truths, list_of, record_of, not_empty}
use Rattle.ctap_encoding.specs.Table.{sized, Members, no_more, listed, fails, size_of, any_item, is_listed, all_keys, all_truths, has_fault, in_members}
use Rattle.ctap_encoding.specs.Table.{Clean}
use Rattle.ctap_encoding.specs.Content.{Content, Contents, optional}
use Rattle.ctap_encoding.specs.Reading.{checked, is_within, each_truth, each_in, read_in, members_in}
use Rattle.ctap_encoding.proofs.Tests.{or_none, holds}
use Rattle.ctap_encoding.proofs.Ordered.{IsOrdered, IsOrderedFrom, differ_back}
use Rattle.ctap_encoding.proofs.Rebuilt.{in_order, in_order_is}

abbrev pub IsComplete : Holds → Type 0
IsComplete h = (x : Item) (d : ℕ) → Fits d x → Clean h x → (c : Content h) × (read_in h x ≡ Some c)

-- ---- lists and truth values

truths_there : (ps : Pairs) → all_truths ps ≡ true → (c : List (List ℕ × Bool)) × (each_truth ps ≡ Some c)
truths_there no_pairs e = ([], refl)
truths_there (pair (of.text k) (of.boolean b) ps) e = let rest = truths_there ps e in ((k, b) ∷ rest.0, rw rest.1 refl)
truths_there (pair _ _ ps) e = absurd cc

each_complete : (h : Holds) → IsComplete h → (xs : Items) (d : ℕ) → ItemsFit d xs → ((f : Fault) → any_item (has_fault f h) xs ≡ false)
    → (cs : List (Content h)) × (each_in (read_in h) xs ≡ Some cs)
each_complete h complete no_items d fits clean = ([], refl)
each_complete h complete (item x xs) d fits clean =
    let first = complete x d fits.0 (λ f. (or_none (has_fault f h x) (any_item (has_fault f h) xs) (clean f)).0) in
    let rest = each_complete h complete xs d fits.1 (λ f. (or_none (has_fault f h x) (any_item (has_fault f h) xs) (clean f)).1) in
    (first.0 ∷ rest.0, rw (first.1, rest.1) refl)

-- ---- records

-- the members that are there are read in the table's order
abbrev pub AreComplete : Members → Type 0
AreComplete ms = (ps : Pairs) (d : ℕ) → ((k v : Item) → value_at k ps ≡ Some v → Fits d v) → ((f : Fault) → in_members f ms (of.map ps) ≡ false)
    → (c : Contents ms) × (members_in ms (in_order ms ps) ≡ Some c)

-- a key before all of a table's is at the front of no map of its members
no_front : (k : Item) (ms : Members) (ps : Pairs) (last : List ℕ) → ((x : List ℕ) → before last x ≡ true → before (spelling k) x ≡ true) → IsOrderedFrom last ms
    → split_key k (in_order ms ps) ≡ None
no_front k no_more ps last up ordered = refl
no_front k (listed l r h ms) ps last up ordered =
    go (value_at l ps) (no_front k ms ps (spelling l) (λ x b. before_trans (spelling k) (spelling l) x (up (spelling l) ordered.0) b) ordered.2) where
      go : (o : Option Item) → split_key k (in_order ms ps) ≡ None → split_key k (optional l o (in_order ms ps)) ≡ None
      go (Some v) inner = rw (differ_back k l (up (spelling l) ordered.0)) refl
      go None inner = inner

-- a value at a key: the key is the same as itself
found_same : (k : Item) (ps : Pairs) (v : Item) → value_at k ps ≡ Some v → is_same_key k k ≡ true
found_same k no_pairs v e = absurd cc
found_same k (pair l w ps) v e =
    elim (is_same_key l k) as (λ b. is_same_key l k ≡ b → cond b (Some w) (value_at k ps) ≡ Some v → is_same_key k k ≡ true) [
      | true ↦ λ t s. ap (λ (i : Item). is_same_key i k) (sym (same_key l k t)) ∙ t
      | false ↦ λ t s. found_same k ps v s
    ] refl e

complete_required : (k : Item) (h : Holds) (ms : Members) → IsComplete h → AreComplete ms → AreComplete (listed k true h ms)
complete_required k h ms complete others ps d fits clean = go (value_at k ps) refl where
  go : (o : Option Item) → value_at k ps ≡ o → (c : Contents (listed k true h ms))
      × (members_in (listed k true h ms) (in_order (listed k true h ms) ps) ≡ Some c)
  go (Some v) e =
      let parts = λ (f : Fault). or_none (has_fault f h v) (in_members f ms (of.map ps)) (rw e at (clean f)) in
      let first = complete v d (fits k v e) (λ f. (parts f).0) in
      let rest = others ps d fits (λ f. (parts f).1) in
      ((first.0, rest.0), rw (e, found_same k ps v e, first.1, rest.1) refl)
  go None e = let missing = rw e at (clean faults.MissingMember) in absurd cc

complete_optional : (k : Item) (h : Holds) (ms : Members) → IsOrderedFrom (spelling k) ms → IsComplete h → AreComplete ms → AreComplete (listed k false h ms)
complete_optional k h ms ordered complete others ps d fits clean = go (value_at k ps) refl where
  go : (o : Option Item) → value_at k ps ≡ o → (c : Contents (listed k false h ms))
      × (members_in (listed k false h ms) (in_order (listed k false h ms) ps) ≡ Some c)
  go (Some v) e =
      let parts = λ (f : Fault). or_none (has_fault f h v) (in_members f ms (of.map ps)) (rw e at (clean f)) in
      let first = complete v d (fits k v e) (λ f. (parts f).0) in
      let rest = others ps d fits (λ f. (parts f).1) in
      ((Some first.0, rest.0), rw (e, found_same k ps v e, first.1, rest.1) refl)
  go None e =
      let parts = λ (f : Fault). or_none false (in_members f ms (of.map ps)) (rw e at (clean f)) in
      let rest = others ps d fits (λ f. (parts f).1) in
      ((None, rest.0), rw (e, no_front k ms ps (spelling k) (λ x b. b) ordered, rest.1) refl)

-- what stands in a map has a spelling
held_fits : (k : Item) (d : ℕ) (last : List ℕ) (ps : Pairs) (v : Item) → PairsFit d last ps → value_at k ps ≡ Some v → Fits d v
held_fits k d last no_pairs v fits e = absurd cc
held_fits k d last (pair l w ps) v fits e =
    elim (is_same_key l k) as (λ b. cond b (Some w) (value_at k ps) ≡ Some v → Fits d v) [
      | true ↦ λ s. let same : w ≡ v = cc in subst (λ (i : Item). Fits d i) same fits.3
      | false ↦ λ s. held_fits k d (spelling l) ps v fits.4 s
    ] e

tested : {A : Type 0} (b : Bool) (o : Option A) (c : A) → b ≡ true → o ≡ Some c → (checked b >>= λ u. o) ≡ Some c
tested true o c e read = read
tested false o c e read = absurd cc

-- ---- each table

mutual
  pub complete : (h : Holds) → IsOrdered h → IsComplete h
  complete a_number o (of.uint n) d fits clean = (pos n, refl)
  complete a_number o (of.nint n) d fits clean = (negsuc n, refl)
  complete a_number o _ d fits clean = let e = clean faults.AnotherKind in absurd cc
  complete some_bytes o (of.bytes bs) d fits clean = (bs, refl)
  complete some_bytes o _ d fits clean = let e = clean faults.AnotherKind in absurd cc
  complete a_text o (of.text s) d fits clean = (s, refl)
  complete a_text o _ d fits clean = let e = clean faults.AnotherKind in absurd cc
  complete a_truth o (of.boolean b) d fits clean = (b, refl)
  complete a_truth o _ d fits clean = let e = clean faults.AnotherKind in absurd cc
  complete any_map o (of.map ps) d fits clean = (of.map ps, refl)
  complete any_map o _ d fits clean = let e = clean faults.AnotherKind in absurd cc
  complete (that_text t) o x d fits clean = (tt, rw (holds faults.AnotherKind (is_same_key x (of.text t)) (clean faults.AnotherKind)) refl)
  complete (unsigned low) o (of.uint n) d fits clean = (n, rw (holds faults.AnotherKind (nat_le low n) (clean faults.AnotherKind)) refl)
  complete (unsigned low) o _ d fits clean = let e = clean faults.AnotherKind in absurd cc
  complete truths o (of.map ps) d fits clean = truths_there ps (holds faults.AnotherKind (all_truths ps) (clean faults.AnotherKind))
  complete truths o _ d fits clean = let e = clean faults.AnotherKind in absurd cc
  complete (list_of h) o (of.array xs) zero fits clean = absurd fits.1
  complete (list_of h) o (of.array xs) (suc d) fits clean = each_complete h (complete h o) xs d fits.1 clean
  complete (list_of h) o _ d fits clean = let e = clean faults.AnotherKind in absurd cc
  complete (record_of ms) o (of.map ps) zero fits clean = absurd fits.1
  complete (record_of ms) o (of.map ps) (suc d) fits clean =
      let parts = λ (f : Fault). or_none (fails f faults.UnlistedKey (all_keys (is_listed ms) ps)) (in_members f ms (of.map ps)) (clean f) in
      let keys = holds faults.UnlistedKey (all_keys (is_listed ms) ps) (parts faults.UnlistedKey).0 in
      let read = complete_members ms [] o ps d (λ k v e. held_fits k d [] ps v fits.1 e) (λ f. (parts f).1) in
      (read.0, ap (members_in ms) (sym (in_order_is ms d [] ps o fits.1 keys)) ∙ read.1)
  complete (record_of ms) o _ d fits clean = let e = clean faults.AnotherKind in absurd cc
  complete (not_empty here h) o x d fits clean =
      let parts = λ (f : Fault). or_none (has_fault f h x) (fails f here (nat_lt 0 (size_of x))) (clean f) in
      let inner = complete h o x d fits (λ f. (parts f).0) in
      (inner.0, tested (nat_lt 0 (size_of x)) (read_in h x) inner.0 (holds here (nat_lt 0 (size_of x)) (parts here).1) inner.1)
  complete (sized low high here h) o x d fits clean =
      let parts = λ (f : Fault). or_none (has_fault f h x) (fails f here (is_within low high x)) (clean f) in
      let inner = complete h o x d fits (λ f. (parts f).0) in
      (inner.0, tested (is_within low high x) (read_in h x) inner.0 (holds here (is_within low high x) (parts here).1) inner.1)

  complete_members : (ms : Members) (last : List ℕ) → IsOrderedFrom last ms → AreComplete ms
  complete_members no_more last o ps d fits clean = (tt, refl)
  complete_members (listed k true h ms) last o ps d fits clean =
      complete_required k h ms (complete h o.1) (complete_members ms (spelling k) o.2) ps d fits clean
  complete_members (listed k false h ms) last o ps d fits clean =
      complete_optional k h ms o.2 (complete h o.1) (complete_members ms (spelling k) o.2) ps d fits clean
