-- What is read by a table, with other members passed over, is what the value tells; and all that it tells is read.
use Rattle.std.proofs.Common.{◌≡◌, ◌≤◌, ◌<◌, ℕ, Bool, true, false, List, [], ◌∷◌, map, Option, Some, None, refl, sym, ap, subst, ◌∙◌, pos, negsuc, nat_le, nat_lt, rules}
use Rattle.std.proofs.lemmas.Bool.{and_parts}
use Rattle.std.proofs.lemmas.Option.{cond_some, same_Some}
use Rattle.ccbor.specs.Item as of
use Rattle.ccbor.specs.Item.{Item, Items, no_items, item, Pairs, no_pairs, pair}
use Rattle.ccbor.specs.Reading.{◌>>=◌}
use Rattle.ccbor.specs.View.{pairs_of}
use Rattle.ccbor.specs.Access.{member, is_same_key}
use Rattle.ccbor.proofs.Numbers.{bind_some}
use Rattle.ccbor.proofs.AccessLemmas.{same_key}
use Rattle.ctap_encoding.specs.Table.{Holds, a_number, some_bytes, a_text, a_truth, any_map, that_text, unsigned, truths, list_of, record_of, not_empty}
use Rattle.ctap_encoding.specs.Table.{sized, Members, no_more, listed, size_of}
use Rattle.ctap_encoding.specs.Content.{Content, Contents, number_item, truth_pair}
use Rattle.ctap_encoding.specs.Reading.{checked, is_within, each_truth, each_in, maybe}
use Rattle.ctap_open_replies.specs.Telling.{EachTells, Has, TellsMember, Tells, TellsMembers}
use Rattle.ctap_open_replies.specs.Reading.{held_in, open_in, open_members}

abbrev IsTold : Holds → Type 0
IsTold h = (x : Item) (c : Content h) → open_in h x ≡ Some c → Tells h c x

abbrev AreTold : Members → Type 0
AreTold ms = (x : Item) (c : Contents ms) → open_members ms x ≡ Some c → TellsMembers ms c x

-- ---- what is read is answered

checked_of : {A : Type 0} (b : Bool) (o : Option A) (c : A) → (checked b >>= λ u. o) ≡ Some c → (b ≡ true) × (o ≡ Some c)
checked_of true o c e = (refl, e)
checked_of false o c e = absurd cc

le_of : (a b : ℕ) → nat_le a b ≡ true → a ≤ b
le_of a b h = search (rules, h)

lt_of : (a b : ℕ) → nat_lt a b ≡ true → a < b
lt_of a b h = search (rules, h)

truths_told : (ps : Pairs) (c : List (List ℕ × Bool)) → each_truth ps ≡ Some c → ps ≡ pairs_of (map truth_pair c)
truths_told no_pairs c e = ap (λ (os : List (List ℕ × Bool)). pairs_of (map truth_pair os)) (same_Some [] c e)
truths_told (pair (of.text k) (of.boolean b) ps) c e =
    let rest = bind_some (each_truth ps) (λ (os : List (List ℕ × Bool)). Some ((k, b) ∷ os)) c e in
    ap (λ (qs : Pairs). pair (of.text k) (of.boolean b) qs) (truths_told ps rest.0 rest.1)
    ∙ ap (λ (os : List (List ℕ × Bool)). pairs_of (map truth_pair os)) (same_Some ((k, b) ∷ rest.0) c rest.2)
truths_told (pair _ _ ps) c e = absurd cc

each_told : (h : Holds) → IsTold h → (xs : Items) (cs : List (Content h)) → each_in (open_in h) xs ≡ Some cs → EachTells (Tells h) cs xs
each_told h told no_items cs e = subst (λ (l : List (Content h)). EachTells (Tells h) l no_items) (same_Some [] cs e) tt
each_told h told (item x xs) cs e =
    let a = bind_some (open_in h x) (λ a. each_in (open_in h) xs >>= λ rest. Some (a ∷ rest)) cs e in
    let r = bind_some (each_in (open_in h) xs) (λ rest. Some (a.0 ∷ rest)) cs a.2 in
    subst (λ (l : List (Content h)). EachTells (Tells h) l (item x xs)) (same_Some (a.0 ∷ r.0) cs r.2)
    (told x a.0 a.1, each_told h told xs r.0 r.1)

present_told : (k : Item) (h : Holds) (x : Item) → IsTold h → (o : Option Item) (c : Content h) → member k x ≡ o → held_in (open_in h) o ≡ Some c → Has (Tells h) k c x
present_told k h x told (Some v) c m e = (v, m, told v c e)
present_told k h x told None c m e = absurd cc

required_told : (k : Item) (h : Holds) (ms : Members) → IsTold h → AreTold ms → AreTold (listed k true h ms)
required_told k h ms told others x c e =
    let a = bind_some (held_in (open_in h) (member k x)) _ c e in
    let r = bind_some (open_members ms x) _ c a.2 in
    subst (λ (d : Contents (listed k true h ms)). TellsMembers (listed k true h ms) d x) (same_Some (a.0, r.0) c r.2)
    (present_told k h x told (member k x) a.0 refl a.1, others x r.0 r.1)

held_told : (k : Item) (h : Holds) (x : Item) → IsTold h → (o : Option Item) (c : Option (Content h)) → member k x ≡ o → maybe (open_in h) o ≡ Some c
    → TellsMember (Tells h) false k c x
held_told k h x told (Some v) c m e =
    let a = bind_some (open_in h v) (λ a. Some (Some a)) c e in
    subst (λ (d : Option (Content h)). TellsMember (Tells h) false k d x) (same_Some (Some a.0) c a.2) (v, m, told v a.0 a.1)
held_told k h x told None c m e = subst (λ (d : Option (Content h)). TellsMember (Tells h) false k d x) (same_Some None c e) m

optional_told : (k : Item) (h : Holds) (ms : Members) → IsTold h → AreTold ms → AreTold (listed k false h ms)
optional_told k h ms told others x c e =
    let a = bind_some (maybe (open_in h) (member k x)) _ c e in
    let r = bind_some (open_members ms x) _ c a.2 in
    subst (λ (d : Contents (listed k false h ms)). TellsMembers (listed k false h ms) d x) (same_Some (a.0, r.0) c r.2)
    (held_told k h x told (member k x) a.0 refl a.1, others x r.0 r.1)

mutual
  pub is_told : (h : Holds) → IsTold h
  is_told a_number (of.uint n) c e = ap number_item (same_Some (pos n) c e)
  is_told a_number (of.nint n) c e = ap number_item (same_Some (negsuc n) c e)
  is_told a_number _ c e = absurd cc
  is_told some_bytes (of.bytes bs) c e = ap of.bytes (same_Some bs c e)
  is_told some_bytes _ c e = absurd cc
  is_told a_text (of.text s) c e = ap of.text (same_Some s c e)
  is_told a_text _ c e = absurd cc
  is_told a_truth (of.boolean b) c e = ap of.boolean (same_Some b c e)
  is_told a_truth _ c e = absurd cc
  is_told any_map (of.map ps) c e = (ps, refl, sym (same_Some (of.map ps) c e))
  is_told any_map _ c e = absurd cc
  is_told (that_text t) x c e = let s = cond_some (is_same_key x (of.text t)) tt c e in same_key x (of.text t) s.0
  is_told (unsigned low) (of.uint n) c e = let s = cond_some (nat_le low n) n c e in (ap of.uint s.1, subst (λ (m : ℕ). low ≤ m) s.1 (le_of low n s.0))
  is_told (unsigned low) _ c e = absurd cc
  is_told truths (of.map ps) c e = ap of.map (truths_told ps c e)
  is_told truths _ c e = absurd cc
  is_told (list_of h) (of.array xs) c e = (xs, refl, each_told h (is_told h) xs c e)
  is_told (list_of h) _ c e = absurd cc
  is_told (record_of ms) (of.map ps) c e = (ps, refl, are_told ms (of.map ps) c e)
  is_told (record_of ms) _ c e = absurd cc
  is_told (not_empty fault h) x c e =
      let s = checked_of (nat_lt 0 (size_of x)) (open_in h x) c e in
      (lt_of 0 (size_of x) s.0, is_told h x c s.1)
  is_told (sized low high fault h) x c e =
      let s = checked_of (is_within low high x) (open_in h x) c e in
      let both = and_parts (nat_le low (size_of x)) (nat_le (size_of x) high) s.0 in
      (le_of low (size_of x) both.0, le_of (size_of x) high both.1, is_told h x c s.1)

  pub are_told : (ms : Members) → AreTold ms
  are_told no_more x c e = tt
  are_told (listed k true h ms) x c e = required_told k h ms (is_told h) (are_told ms) x c e
  are_told (listed k false h ms) x c e = optional_told k h ms (is_told h) (are_told ms) x c e

-- ---- what is answered is read

abbrev IsRead : Holds → Type 0
IsRead h = (x : Item) (c : Content h) → Tells h c x → open_in h x ≡ Some c

abbrev AreRead : Members → Type 0
AreRead ms = (x : Item) (c : Contents ms) → TellsMembers ms c x → open_members ms x ≡ Some c

true_le : (a b : ℕ) → a ≤ b → nat_le a b ≡ true
true_le a b h = search (rules, h)

true_lt : (a b : ℕ) → a < b → nat_lt a b ≡ true
true_lt a b h = search (rules, h)

truths_read : (c : List (List ℕ × Bool)) → each_truth (pairs_of (map truth_pair c)) ≡ Some c
truths_read [] = refl
truths_read ((k, b) ∷ c) = rw (truths_read c) refl

each_read : (h : Holds) → IsRead h → (xs : Items) (cs : List (Content h)) → EachTells (Tells h) cs xs → each_in (open_in h) xs ≡ Some cs
each_read h read no_items [] t = refl
each_read h read no_items (c ∷ cs) t = absurd t
each_read h read (item x xs) [] t = absurd t
each_read h read (item x xs) (c ∷ cs) t = rw (read x c t.0, each_read h read xs cs t.1) refl

required_read : (k : Item) (h : Holds) (ms : Members) → IsRead h → AreRead ms → AreRead (listed k true h ms)
required_read k h ms read others x (a, c) t = rw (t.0.1, read t.0.0 a t.0.2, others x c t.1) refl

optional_read : (k : Item) (h : Holds) (ms : Members) → IsRead h → AreRead ms → AreRead (listed k false h ms)
optional_read k h ms read others x (Some a, c) t = rw (t.0.1, read t.0.0 a t.0.2, others x c t.1) refl
optional_read k h ms read others x (None, c) t = rw (t.0, others x c t.1) refl

same_text : (t : List ℕ) → is_same_key (of.text t) (of.text t) ≡ true
same_text t = search rules

mutual
  pub is_read : (h : Holds) → IsRead h
  is_read a_number x (pos n) t = rw t refl
  is_read a_number x (negsuc n) t = rw t refl
  is_read some_bytes x c t = rw t refl
  is_read a_text x c t = rw t refl
  is_read a_truth x c t = rw t refl
  is_read any_map x c t = rw (t.1, t.2) refl
  is_read (that_text s) x c t = rw (t, same_text s) refl
  is_read (unsigned low) x c t = rw (t.0, true_le low c t.1) refl
  is_read truths x c t = rw t (truths_read c)
  is_read (list_of h) x c t = rw (t.1) (each_read h (is_read h) t.0 c t.2)
  is_read (record_of ms) x c t =
      let inner = are_read ms x c t.2 in
      rw (t.1, (rw (t.1) at inner)) refl
  is_read (not_empty fault h) x c t = rw (true_lt 0 (size_of x) t.0, is_read h x c t.1) refl
  is_read (sized low high fault h) x c t = rw (true_le low (size_of x) t.0, true_le (size_of x) high t.1, is_read h x c t.2) refl

  pub are_read : (ms : Members) → AreRead ms
  are_read no_more x c t = refl
  are_read (listed k true h ms) x c t = required_read k h ms (is_read h) (are_read ms) x c t
  are_read (listed k false h ms) x c t = optional_read k h ms (is_read h) (are_read ms) x c t
