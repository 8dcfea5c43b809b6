-- What is read by a table is the content of the value, and the value has no fault.
use Rattle.std.proofs.Common.{◌≡◌, ℕ, Bool, true, false, List, [], ◌∷◌, map, Option, Some, None, refl, sym, ap, ◌∙◌, pos, negsuc, nat_le, nat_lt}
use Rattle.std.proofs.lemmas.Option.{cond_some, same_Some}
use Rattle.ccbor.specs.Item as of
use Rattle.ccbor.specs.Item.{Item, Items, no_items, item, Pairs, no_pairs, pair}
use Rattle.ccbor.specs.Canon.{before, spelling}
use Rattle.ccbor.specs.Reading.{◌>>=◌}
use Rattle.ccbor.specs.View.{items_of, pairs_of}
use Rattle.ccbor.specs.Access.{split_key, is_same_key}
use Rattle.ccbor.proofs.Numbers.{bind_some}
use Rattle.ccbor.proofs.KeyOrder.{before_trans}
use Rattle.ccbor.proofs.AccessLemmas.{same_key, split_key_takes}
use Rattle.ctap_encoding.specs.declared.fault.Fault.{Fault}
use Rattle.ctap_encoding.specs.Table.{Holds, a_number, some_bytes, a_text, a_truth, any_map, that_text, unsigned, truths, list_of, record_of, not_empty}
use Rattle.ctap_encoding.specs.Table.{sized, Members, no_more, listed, size_of, any_item, is_listed, all_keys, all_truths, has_fault, in_members, Clean}
use Rattle.ctap_encoding.specs.Content.{Content, Contents, number_item, truth_pair, item_of, members_item}
use Rattle.ctap_encoding.specs.Reading.{checked, is_within, each_truth, each_in, maybe, taken_from, read_in, members_in}
use Rattle.ctap_encoding.proofs.Tests.{none_or}
use Rattle.ctap_encoding.proofs.Ordered.{IsOrdered, IsOrderedFrom, differ, not_there, listed_too}

abbrev pub IsSound : Holds → Type 0
IsSound h = (x : Item) (c : Content h) → read_in h x ≡ Some c → (x ≡ item_of h c) × Clean h x

-- these are the pairs of the members' contents, and they have no fault
pub record AreMembers (ms : Members) (ps : Pairs) (c : Contents ms) : Type 0 where
  pub is : ps ≡ members_item ms c
  pub keys : all_keys (is_listed ms) ps ≡ true
  pub clean : (f : Fault) → in_members f ms (of.map ps) ≡ false

abbrev pub AreSound : Members → Type 0
AreSound ms = (ps : Pairs) (c : Contents ms) → members_in ms ps ≡ Some c → AreMembers ms ps c

cond_some_of : {A : Type 0} (b : Bool) (o : Option A) (c : A) → (checked b >>= λ u. o) ≡ Some c → (b ≡ true) × (o ≡ Some c)
cond_some_of true o c e = (refl, e)
cond_some_of false o c e = absurd cc

truths_read : (ps : Pairs) (c : List (List ℕ × Bool)) → each_truth ps ≡ Some c → (ps ≡ pairs_of (map truth_pair c)) × (all_truths ps ≡ true)
truths_read no_pairs c e = (ap (λ (os : List (List ℕ × Bool)). pairs_of (map truth_pair os)) (same_Some [] c e), refl)
truths_read (pair (of.text k) (of.boolean b) ps) c e =
    let rest = bind_some (each_truth ps) (λ (os : List (List ℕ × Bool)). Some ((k, b) ∷ os)) c e in
    let inner = truths_read ps rest.0 rest.1 in (
      ap (λ (qs : Pairs). pair (of.text k) (of.boolean b) qs) inner.0
          ∙ ap (λ (os : List (List ℕ × Bool)). pairs_of (map truth_pair os)) (same_Some ((k, b) ∷ rest.0) c rest.2),
      inner.1,
    )
truths_read (pair _ _ ps) c e = absurd cc

-- ---- lists and truth values

each_sound : (h : Holds) → IsSound h → (xs : Items) (cs : List (Content h)) → each_in (read_in h) xs ≡ Some cs → (xs ≡ items_of (map (item_of h) cs))
    × ((f : Fault) → any_item (has_fault f h) xs ≡ false)
each_sound h sound no_items cs e = (ap (λ (l : List (Content h)). items_of (map (item_of h) l)) (same_Some [] cs e), λ f. refl)
each_sound h sound (item x xs) cs e =
    let a = bind_some (read_in h x) (λ a. each_in (read_in h) xs >>= λ rest. Some (a ∷ rest)) cs e in
    let r = bind_some (each_in (read_in h) xs) (λ rest. Some (a.0 ∷ rest)) cs a.2 in
    let first = sound x a.0 a.1 in
    let inner = each_sound h sound xs r.0 r.1 in (
      ap (λ (i : Item). item i xs) first.0 ∙ ap (λ (is : Items). item (item_of h a.0) is) inner.0
          ∙ ap (λ (l : List (Content h)). items_of (map (item_of h) l)) (same_Some (a.0 ∷ r.0) cs r.2),
      λ f. none_or (has_fault f h x) (any_item (has_fault f h) xs) (first.1 f) (inner.1 f),
    )

-- ---- records

split_same : (k : Item) (ps : Pairs) (m : Item × Pairs) → split_key k ps ≡ Some m → is_same_key k k ≡ true
split_same k no_pairs m e = absurd cc
split_same k (pair l v ps) m e =
    let s = cond_some (is_same_key l k) (v, ps) m e in
    ap (λ (i : Item). is_same_key i k) (sym (same_key l k s.0)) ∙ s.0

-- a front pair before all of a table's keys has no part in it
passes : (f : Fault) (k v : Item) (ps : Pairs) (ms : Members) (last : List ℕ) → ((x : List ℕ) → before last x ≡ true → before (spelling k) x ≡ true)
    → IsOrderedFrom last ms
    → in_members f ms (of.map (pair k v ps)) ≡ in_members f ms (of.map ps)
passes f k v ps no_more last up ordered = refl
passes f k v ps (listed l r h ms) last up ordered =
    let after = up (spelling l) ordered.0 in
    let other = differ k l after in
    let inner = passes f k v ps ms (spelling l) (λ x b. before_trans (spelling k) (spelling l) x after b) ordered.2 in
    rw (other, inner) refl

-- a member that is there
there : (k : Item) (r : Bool) (h : Holds) (ms : Members) → IsOrderedFrom (spelling k) ms → (ps : Pairs) (m : Item × Pairs) → split_key k ps ≡ Some m
    → (a : Content h) → (m.0 ≡ item_of h a) × Clean h m.0
    → (rest : Contents ms) → AreMembers ms m.1 rest → (c : Contents (listed k r h ms))
    → pair k (item_of h a) (members_item ms rest) ≡ members_item (listed k r h ms) c → AreMembers (listed k r h ms) ps c
there k r h ms ordered ps m s a value rest others c made =
    let is = split_key_takes k ps m s in
    let same = split_same k ps m s in
    record {
      is = is ∙ ap (λ (i : Item). pair k i m.1) value.0 ∙ ap (λ (q : Pairs). pair k (item_of h a) q) others.is ∙ made;
      keys = rw (is, same, listed_too k r h ms m.1 others.keys) refl;
      clean = λ f. rw (is, same, value.1 f, passes f k m.0 m.1 ms (spelling k) (λ x b. b) ordered) (others.clean f);
    }

sound_required : (k : Item) (h : Holds) (ms : Members) → IsOrderedFrom (spelling k) ms → IsSound h → AreSound ms → AreSound (listed k true h ms)
sound_required k h ms ordered sound others ps c e =
    let m = bind_some (split_key k ps) _ c e in
    let a = bind_some (read_in h m.0.0) _ c m.2 in
    let r = bind_some (members_in ms m.0.1) _ c a.2 in
    there k true h ms ordered ps m.0 m.1 a.0 (sound m.0.0 a.0 a.1) r.0 (others m.0.1 r.0 r.1) c
    (ap (members_item (listed k true h ms)) (same_Some (a.0, r.0) c r.2))

optional_there : (k : Item) (h : Holds) (ms : Members) → IsOrderedFrom (spelling k) ms → IsSound h → AreSound ms
    → (ps : Pairs) (c : Contents (listed k false h ms)) (m : Item × Pairs) → split_key k ps ≡ Some m
    → (maybe (read_in h) (Some m.0) >>= λ a. members_in ms m.1 >>= λ rest. Some (a, rest)) ≡ Some c → AreMembers (listed k false h ms) ps c
optional_there k h ms ordered sound others ps c m s e =
    let b = bind_some (maybe (read_in h) (Some m.0)) _ c e in
    let a = bind_some (read_in h m.0) (λ a. Some (Some a)) b.0 b.1 in
    let r = bind_some (members_in ms m.1) _ c b.2 in
    let made : Contents (listed k false h ms) = (Some a.0, r.0) in
    let same : made ≡ c = ap (λ (o : Option (Content h)). (o, r.0)) (same_Some (Some a.0) b.0 a.2) ∙ same_Some (b.0, r.0) c r.2 in
    there k false h ms ordered ps m s a.0 (sound m.0 a.0 a.1) r.0 (others m.1 r.0 r.1) c (ap (members_item (listed k false h ms)) same)

optional_absent : (k : Item) (h : Holds) (ms : Members) → IsOrderedFrom (spelling k) ms → AreSound ms → (ps : Pairs) (c : Contents (listed k false h ms))
    → (members_in ms ps >>= λ rest. Some (None, rest)) ≡ Some c → AreMembers (listed k false h ms) ps c
optional_absent k h ms ordered others ps c e =
    let r = bind_some (members_in ms ps) _ c e in
    let rest = others ps r.0 r.1 in
    let made : Contents (listed k false h ms) = (None, r.0) in
    record {
      is = rest.is ∙ ap (members_item (listed k false h ms)) (same_Some made c r.2);
      keys = listed_too k false h ms ps rest.keys;
      clean = λ f. rw (not_there k ms ps ordered rest.keys) (rest.clean f);
    }

sound_optional : (k : Item) (h : Holds) (ms : Members) → IsOrderedFrom (spelling k) ms → IsSound h → AreSound ms → AreSound (listed k false h ms)
sound_optional k h ms ordered sound others ps c e = go (split_key k ps) refl e where
  go : (o : Option (Item × Pairs)) → split_key k ps ≡ o
      → (maybe (read_in h) (taken_from o ps).0 >>= λ a. members_in ms (taken_from o ps).1 >>= λ rest. Some (a, rest)) ≡ Some c
      → AreMembers (listed k false h ms) ps c
  go (Some m) s g = optional_there k h ms ordered sound others ps c m s g
  go None s g = optional_absent k h ms ordered others ps c g

-- ---- each table

mutual
  pub sound : (h : Holds) → IsOrdered h → IsSound h
  sound a_number o (of.uint n) c e = (ap number_item (same_Some (pos n) c e), λ f. refl)
  sound a_number o (of.nint n) c e = (ap number_item (same_Some (negsuc n) c e), λ f. refl)
  sound a_number o _ c e = absurd cc
  sound some_bytes o (of.bytes bs) c e = (ap of.bytes (same_Some bs c e), λ f. refl)
  sound some_bytes o _ c e = absurd cc
  sound a_text o (of.text s) c e = (ap of.text (same_Some s c e), λ f. refl)
  sound a_text o _ c e = absurd cc
  sound a_truth o (of.boolean b) c e = (ap of.boolean (same_Some b c e), λ f. refl)
  sound a_truth o _ c e = absurd cc
  sound any_map o (of.map ps) c e = (same_Some (of.map ps) c e, λ f. refl)
  sound any_map o _ c e = absurd cc
  sound (that_text t) o x c e = let s = cond_some (is_same_key x (of.text t)) tt c e in (same_key x (of.text t) s.0, λ f. rw s.0 refl)
  sound (unsigned low) o (of.uint n) c e = let s = cond_some (nat_le low n) n c e in (ap of.uint s.1, λ f. rw s.0 refl)
  sound (unsigned low) o _ c e = absurd cc
  sound truths o (of.map ps) c e = let r = truths_read ps c e in (ap of.map r.0, λ f. rw r.1 refl)
  sound truths o _ c e = absurd cc
  sound (list_of h) o (of.array xs) c e = let r = each_sound h (sound h o) xs c e in (ap of.array r.0, r.1)
  sound (list_of h) o _ c e = absurd cc
  sound (record_of ms) o (of.map ps) c e = let m = sound_members ms [] o ps c e in (ap of.map m.is, λ f. rw m.keys (m.clean f))
  sound (record_of ms) o _ c e = absurd cc
  sound (not_empty here h) o x c e =
      let s = cond_some_of (nat_lt 0 (size_of x)) (read_in h x) c e in
      let inner = sound h o x c s.1 in
      (inner.0, λ f. rw (inner.1 f, s.0) refl)
  sound (sized low high here h) o x c e =
      let s = cond_some_of (is_within low high x) (read_in h x) c e in
      let inner = sound h o x c s.1 in
      (inner.0, λ f. rw (inner.1 f, s.0) refl)

  sound_members : (ms : Members) (last : List ℕ) → IsOrderedFrom last ms → AreSound ms
  sound_members no_more last o no_pairs c e = record { is = refl; keys = refl; clean = λ f. refl }
  sound_members no_more last o (pair k v ps) c e = absurd cc
  sound_members (listed k true h ms) last o ps c e = sound_required k h ms o.2 (sound h o.1) (sound_members ms (spelling k) o.2) ps c e
  sound_members (listed k false h ms) last o ps c e = sound_optional k h ms o.2 (sound h o.1) (sound_members ms (spelling k) o.2) ps c e
