-- The grammar's loops, a turn at a time, as `serde_json` takes them; the count of the tokens is always enough turns.
use Rattle.std.proofs.Common.{◌≡◌, ℕ, zero, suc, ◌-◌, ◌≤◌, List, [], ◌∷◌, length, Option, Some, None, option_map, option_and_then, refl, sym, ap, ◌∙◌, arith}
use Rattle.json.specs.Token.{Token}
use Rattle.json.specs.Json as json
use Rattle.json.specs.Json.{Parse, parse_map, after_end_array, read_key, items_step, members_step, items, members, value}
use Rattle.json.proofs.Grammar.{Takes, left, left_none, read_key-shorter, skip_value-shorter, members_end, members_no_key, members_more}
use Rattle.serde_json.specs.Data.{Data, Members, put}
use Rattle.serde_json.specs.Read.{of_json, of_members, converted}
use Rattle.clientdata.specs.Passing.{value_at, members_at}

-- ---- more turns change nothing

item_turn : (p : Parse json.Json) (more less : Parse json.Items) (ts : List Token) → ((q : json.Json × List Token) → p ts ≡ Some q → more q.1 ≡ less q.1)
    → (o : Option (json.Json × List Token)) → p ts ≡ o
    → option_and_then (λ q. parse_map (json.item q.0) (more q.1)) o ≡ option_and_then (λ q. parse_map (json.item q.0) (less q.1)) o
item_turn p more less ts same None e = refl
item_turn p more less ts same (Some q) e = ap (parse_map (json.item q.0)) (same q e)

items_turn : (p : Parse json.Json) (more less : Parse json.Items) (ts : List Token) → ((q : json.Json × List Token) → p ts ≡ Some q → more q.1 ≡ less q.1)
    → (o : Option (List Token)) → items_step p more ts o ≡ items_step p less ts o
items_turn p more less ts same (Some r) = refl
items_turn p more less ts same None = item_turn p more less ts same (p ts) refl

member_turn : (p : Parse json.Json) (more less : Parse json.Members) (k : List ℕ) (ts : List Token) → ((q : json.Json × List Token) → p ts ≡ Some q → more q.1 ≡ less q.1)
    → (o : Option (json.Json × List Token)) → p ts ≡ o
    → option_and_then (λ q. parse_map (json.member k q.0) (more q.1)) o ≡ option_and_then (λ q. parse_map (json.member k q.0) (less q.1)) o
member_turn p more less k ts same None e = refl
member_turn p more less k ts same (Some q) e = ap (parse_map (json.member k q.0)) (same q e)

members_turn : (p : Parse json.Json) (more less : Parse json.Members) (o : Option (Option (List ℕ) × List Token))
    → ((k : List ℕ) (s : List Token) (q : json.Json × List Token) → o ≡ Some (Some k, s) → p s ≡ Some q → more q.1 ≡ less q.1)
    → option_and_then (λ q. members_step p more q.0 q.1) o ≡ option_and_then (λ q. members_step p less q.0 q.1) o
members_turn p more less None same = refl
members_turn p more less (Some (None, s)) same = refl
members_turn p more less (Some (Some k, s)) same = member_turn p more less k s (λ q e. same k s q refl e) (p s) refl

module _ (p : Parse json.Json) (takes : Takes p) where
  nothing_left : (o : Option (List Token)) → left (p []) ≡ o → o ≡ None
  nothing_left None e = refl
  nothing_left (Some r) e = let less = takes [] r e in absurd (omega (arith, less))

  nothing : p [] ≡ None
  nothing = left_none (p []) (nothing_left (left (p [])) refl)

  items_nothing : (n : ℕ) → items p n [] ≡ None
  unfolding items
  items_nothing zero = refl
  items_nothing (suc n) = ap (option_and_then (λ q. parse_map (json.item q.0) (items p n q.1))) nothing

  members_nothing : (n : ℕ) → members p n [] ≡ None
  unfolding members
  members_nothing zero = refl
  members_nothing (suc n) = refl

  pub items_enough : (n m : ℕ) (ts : List Token) → length ts ≤ n → length ts ≤ m → items p n ts ≡ items p m ts
  unfolding items
  items_enough zero m [] a b = sym (items_nothing m)
  items_enough zero m (t ∷ ts) a b = let never : ⊥ = omega arith in absurd never
  items_enough (suc n) zero [] a b = items_nothing (suc n)
  items_enough (suc n) zero (t ∷ ts) a b = let never : ⊥ = omega arith in absurd never
  items_enough (suc n) (suc m) ts a b =
      items_turn p (items p n) (items p m) ts
      (λ q e. let less = takes ts q.1 (ap left e) in items_enough n m q.1 (omega (arith, less)) (omega (arith, less)))
      (after_end_array ts)

  pub members_enough : (n m : ℕ) (ts : List Token) → length ts ≤ n → length ts ≤ m → members p n ts ≡ members p m ts
  unfolding members
  members_enough zero m [] a b = sym (members_nothing m)
  members_enough zero m (t ∷ ts) a b = let never : ⊥ = omega arith in absurd never
  members_enough (suc n) zero [] a b = members_nothing (suc n)
  members_enough (suc n) zero (t ∷ ts) a b = let never : ⊥ = omega arith in absurd never
  members_enough (suc n) (suc m) ts a b =
      members_turn p (members p n) (members p m) (read_key ts)
      (λ k s q named e.
      let less = takes s q.1 (ap left e) in
      let lesser = read_key-shorter ts (Some k) s named in
      members_enough n m q.1 (omega (arith, less, lesser)) (omega (arith, less, lesser)))

-- ---- what is converted

abbrev pub pick : {A : Type 0} → A → Option A → A
pick d None = d
pick d (Some a) = a

one_pair : {A B : Type 0} (a : A) (r s : List Token) (x : Option B) (b : B) → option_map {U = B × List Token} (λ y. (y, r)) x ≡ Some (b, s) → (r ≡ s) × (x ≡ Some b)
one_pair a r s None b e = absurd (cc)
one_pair a r s (Some y) b e = let same = ap (pick (y, r)) e in (ap (λ p. p.1) same, ap (λ p. Some p.0) same)

pub converted_from : {A B : Type 0} (f : A → Option B) (o : Option (A × List Token)) (b : B) (r : List Token)
    → converted f o ≡ Some (b, r) → (a : A) × (o ≡ Some (a, r)) × (f a ≡ Some b)
converted_from f None b r e = absurd (cc)
converted_from f (Some p) b r e = let both = one_pair p.0 p.1 r (f p.0) b e in (p.0, ap (λ s. Some (p.0, s)) both.0, both.1)

pub not_converted : {B : Type 0} (r : List Token) (x : Option B) → option_map {U = B × List Token} (λ y. (y, r)) x ≡ None → x ≡ None
not_converted r None e = refl
not_converted r (Some y) e = absurd (cc)

-- ---- the members of an object

with_member : (k : List ℕ) (j : json.Json) (d : Data) (earlier : Members) → of_json j ≡ Some d → (o : Option (json.Members × List Token))
    → converted (λ ms. of_members ms earlier) (parse_map (json.member k j) o) ≡ converted (λ ms. of_members ms (put k d earlier)) o
with_member k j d earlier e None = refl
with_member k j d earlier e (Some q) = rw e refl

without_member : (k : List ℕ) (j : json.Json) (earlier : Members) → of_json j ≡ None → (o : Option (json.Members × List Token))
    → converted (λ ms. of_members ms earlier) (parse_map (json.member k j) o) ≡ None
without_member k j earlier e None = refl
without_member k j earlier e (Some q) = rw e refl

pub no_key : (depth : ℕ) (earlier : Members) (ts : List Token) → read_key ts ≡ None → members_at depth earlier ts ≡ None
no_key depth earlier ts e = ap (converted (λ ms. of_members ms earlier)) (members_no_key (value depth) (length ts) ts e)

pub no_more : (depth : ℕ) (earlier : Members) (ts r : List Token) → read_key ts ≡ Some (None, r) → members_at depth earlier ts ≡ Some (earlier, r)
no_more depth earlier ts r e = ap (converted (λ ms. of_members ms earlier)) (members_end (value depth) (length ts) ts r (omega arith) e)

pub one_member : (depth : ℕ) (earlier : Members) (k : List ℕ) (ts s r : List Token) (d : Data) → read_key ts ≡ Some (Some k, s) → value_at depth s ≡ Some (d, r)
    → members_at depth earlier ts ≡ members_at depth (put k d earlier) r
one_member depth earlier k ts s r d named e =
    let j = converted_from of_json (value depth s) d r e in
    let shorter = read_key-shorter ts (Some k) s named in
    let less = skip_value-shorter depth s r (ap left j.1) in
    ap (converted (λ ms. of_members ms earlier)) (members_more (value depth) (length ts) k ts s r j.0 (omega (arith, shorter)) named j.1)
    ∙ with_member k j.0 d earlier j.2 _
    ∙ ap (converted (λ ms. of_members ms (put k d earlier)))
    (members_enough (value depth) (skip_value-shorter depth) (length ts - 1) (length r) r (omega (arith, shorter, less)) (omega arith))

no_member_turn : (k : List ℕ) (earlier : Members) (more : Parse json.Members) (o : Option (json.Json × List Token)) → converted of_json o ≡ None
    → converted (λ ms. of_members ms earlier) (option_and_then (λ q. parse_map (json.member k q.0) (more q.1)) o) ≡ None
no_member_turn k earlier more None e = refl
no_member_turn k earlier more (Some q) e = without_member k q.0 earlier (not_converted q.1 (of_json q.0) e) (more q.1)

no_member_at : (p : Parse json.Json) (n : ℕ) (earlier : Members) (k : List ℕ) (ts s : List Token) → read_key ts ≡ Some (Some k, s) → converted of_json (p s) ≡ None
    → converted (λ ms. of_members ms earlier) (members p n ts) ≡ None
unfolding members
no_member_at p zero earlier k ts s named e = refl
no_member_at p (suc n) earlier k ts s named e = rw named (no_member_turn k earlier (members p n) (p s) e)

pub no_member : (depth : ℕ) (earlier : Members) (k : List ℕ) (ts s : List Token) → read_key ts ≡ Some (Some k, s) → value_at depth s ≡ None
    → members_at depth earlier ts ≡ None
no_member depth earlier k ts s named e = no_member_at (value depth) (length ts) earlier k ts s named e
