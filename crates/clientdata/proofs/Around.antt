-- What is left after objects and arrays that are open, a value at a time.
use Rattle.std.proofs.Common.{◌≡◌, ℕ, zero, suc, ◌-◌, ◌<◌, Bool, true, false, List, [], ◌∷◌, ◌++◌, length, Option, Some, None, option_map, option_and_then, refl, sym, ap, ◌∙◌, arith, length-append}
use Rattle.std.specs.Prelude.{⊤, is_some, Result, Ok, Err, OnOk, OnErr, MatchResult}
use Rattle.json.specs.Token.{Token}
use Rattle.json.specs.Json as json
use Rattle.json.specs.Json.{Parse, parse_map, after_end_array, read_key, items_step, items, members, value}
use Rattle.json.proofs.Grammar.{left, skip_value-shorter, items_end, items_more, value_is, value-begin_array, value-begin_object}
use Rattle.serde_json.specs.Data.{Num, Data, Items, item, Members, no_members, put, number, array, object}
use Rattle.serde_json.specs.Read.{of_json, of_items, of_members, converted, number_of}
use Rattle.clientdata.specs.Passing.{value_at, passed, closed, all_closed, resumed}
use Rattle.clientdata.proofs.Turns.{items_enough, converted_from, not_converted, no_key, no_more, one_member, no_member}

-- ---- an object goes on

-- which members were read earlier is nothing to what is left
same_turn : (ms : json.Members) (k : List ℕ) (a b : Members) (r : List Token) → ((x y : Members)
    → left (option_map {U = Members × List Token} (λ m. (m, r)) (of_members ms x)) ≡ left (option_map {U = Members × List Token} (λ m. (m, r)) (of_members ms y)))
    → (o : Option Data) → left (option_map {U = Members × List Token} (λ m. (m, r)) (option_and_then (λ d. of_members ms (put k d a)) o))
    ≡ left (option_map {U = Members × List Token} (λ m. (m, r)) (option_and_then (λ d. of_members ms (put k d b)) o))
same_turn ms k a b r same None = refl
same_turn ms k a b r same (Some d) = same (put k d a) (put k d b)

same_left : (ms : json.Members) (a b : Members) (r : List Token)
    → left (option_map {U = Members × List Token} (λ m. (m, r)) (of_members ms a)) ≡ left (option_map {U = Members × List Token} (λ m. (m, r)) (of_members ms b))
same_left json.no_members a b r = refl
same_left (json.member k j ms) a b r = same_turn ms k a b r (λ x y. same_left ms x y r) (of_json j)

whatever_earlier : (o : Option (json.Members × List Token)) (a b : Members)
    → left (converted (λ ms. of_members ms a) o) ≡ left (converted (λ ms. of_members ms b) o)
whatever_earlier None a b = refl
whatever_earlier (Some p) a b = same_left p.0 a b p.1

object_turn : (depth : ℕ) (k : List ℕ) (ts s : List Token) → read_key ts ≡ Some (Some k, s) → (o : Option (Data × List Token)) → value_at depth s ≡ o
    → closed true depth ts ≡ option_and_then (closed true depth) (left o)
unfolding closed
object_turn depth k ts s named None e = ap left (no_member depth no_members k ts s named e)
object_turn depth k ts s named (Some (d, r)) e =
    ap left (one_member depth no_members k ts s r d named e) ∙ whatever_earlier (members (value depth) (length r) r) (put k d no_members) no_members

pub object_goes_on : (depth : ℕ) (k : List ℕ) (ts s : List Token) → read_key ts ≡ Some (Some k, s)
    → closed true depth ts ≡ option_and_then (closed true depth) (passed depth s)
unfolding passed
object_goes_on depth k ts s named = object_turn depth k ts s named (value_at depth s) refl

pub object_ends : (depth : ℕ) (ts r : List Token) → read_key ts ≡ Some (None, r) → closed true depth ts ≡ Some r
unfolding closed
object_ends depth ts r e = ap left (no_more depth no_members ts r e)

pub object_fails : (depth : ℕ) (ts : List Token) → read_key ts ≡ None → closed true depth ts ≡ None
unfolding closed
object_fails depth ts e = ap left (no_key depth no_members ts e)

-- ---- an array goes on

with_item : (j : json.Json) (d : Data) → of_json j ≡ Some d → (o : Option (json.Items × List Token))
    → left (converted of_items (parse_map (json.item j) o)) ≡ left (converted of_items o)
with_item j d e None = refl
with_item j d e (Some q) = rw e (at (of_items q.0))
  where
    at : (o : Option Items) → left (option_map {U = Items × List Token} (λ i. (i, q.1)) (option_map (item d) o)) ≡ left (option_map {U = Items × List Token} (λ i. (i, q.1)) o)
    at None = refl
    at (Some i) = refl

without_item : (j : json.Json) → of_json j ≡ None → (o : Option (json.Items × List Token)) → converted of_items (parse_map (json.item j) o) ≡ None
without_item j e None = refl
without_item j e (Some q) = rw e refl

no_item_turn : (more : Parse json.Items) (o : Option (json.Json × List Token)) → converted of_json o ≡ None
    → converted of_items (option_and_then (λ q. parse_map (json.item q.0) (more q.1)) o) ≡ None
no_item_turn more None e = refl
no_item_turn more (Some q) e = without_item q.0 (not_converted q.1 (of_json q.0) e) (more q.1)

no_item_at : (p : Parse json.Json) (n : ℕ) (ts : List Token) → after_end_array ts ≡ None → converted of_json (p ts) ≡ None → converted of_items (items p n ts) ≡ None
unfolding items
no_item_at p zero ts going e = refl
no_item_at p (suc n) ts going e = ap (λ o. converted of_items (items_step p (items p n) ts o)) going ∙ no_item_turn (items p n) (p ts) e

some_left : (depth : ℕ) (ts r : List Token) (d : Data) → value_at depth ts ≡ Some (d, r) → length r < length ts
some_left depth ts r d e =
    let j = converted_from of_json (value depth ts) d r e in
    skip_value-shorter depth ts r (ap left j.1)

array_turn : (depth : ℕ) (ts : List Token) → after_end_array ts ≡ None → (o : Option (Data × List Token)) → value_at depth ts ≡ o
    → closed false depth ts ≡ option_and_then (closed false depth) (left o)
unfolding closed
array_turn depth ts going None e = ap left (no_item_at (value depth) (length ts) ts going e)
array_turn depth ts going (Some (d, r)) e =
    let j = converted_from of_json (value depth ts) d r e in
    let less = some_left depth ts r d e in
    ap (λ o. left (converted of_items o)) (items_more (value depth) (length ts) ts r j.0 (omega (arith, less)) going j.1)
    ∙ with_item j.0 d j.2 _
    ∙ ap (λ o. left (converted of_items o)) (items_enough (value depth) (skip_value-shorter depth) (length ts - 1) (length r) r (omega (arith, less)) (omega arith))

pub array_goes_on : (depth : ℕ) (ts : List Token) → after_end_array ts ≡ None → closed false depth ts ≡ option_and_then (closed false depth) (passed depth ts)
unfolding passed
array_goes_on depth ts going = array_turn depth ts going (value_at depth ts) refl

pub array_ends : (depth : ℕ) (ts r : List Token) → after_end_array ts ≡ Some r → closed false depth ts ≡ Some r
unfolding closed
array_ends depth ts r e = ap (λ o. left (converted of_items o)) (items_end (value depth) (length ts) ts r (omega arith) e)

-- no value begins where there is no token
pub passed-nothing : (depth : ℕ) → passed depth [] ≡ None
unfolding passed
passed-nothing depth = ap (λ o. left (converted of_json o)) (value_is depth [])

-- ---- what is open, with one more inside of it

option_none : {A : Type 0} (o : Option A) → option_and_then (λ a. Some a) o ≡ o
option_none None = refl
option_none (Some a) = refl

option_twice : {A B C : Type 0} (f : B → Option C) (g : A → Option B) (o : Option A)
    → option_and_then f (option_and_then g o) ≡ option_and_then (λ a. option_and_then f (g a)) o
option_twice f g None = refl
option_twice f g (Some a) = refl

same_then : {A B : Type 0} (f g : A → Option B) → ((a : A) → f a ≡ g a) → (o : Option A) → option_and_then f o ≡ option_and_then g o
same_then f g same None = refl
same_then f g same (Some a) = same a

pub all_closed-inside : (depth : ℕ) (kinds : List Bool) (kind : Bool) (ts : List Token) → length kinds < depth
    → all_closed depth (kinds ++ kind ∷ []) ts ≡ option_and_then (all_closed depth kinds) (closed kind (depth - suc (length kinds)) ts)
unfolding all_closed
all_closed-inside zero kinds kind ts less = let never : ⊥ = omega arith in absurd never
all_closed-inside (suc depth) [] kind ts less =
    let same : depth ≡ suc depth - 1 = omega arith in
    sym (option_none (closed kind depth ts)) ∙ ap (λ d. option_and_then (λ r. Some r) (closed kind d ts)) same
all_closed-inside (suc depth) (outer ∷ kinds) kind ts less =
    let same : depth - suc (length kinds) ≡ suc depth - suc (suc (length kinds)) = omega arith in
    ap (option_and_then (closed outer depth)) (all_closed-inside depth kinds kind ts (omega arith))
    ∙ option_twice (closed outer depth) (all_closed depth kinds) (closed kind (depth - suc (length kinds)) ts)
    ∙ ap (λ d. option_and_then (λ r. option_and_then (closed outer depth) (all_closed depth kinds r)) (closed kind d ts)) same

-- the innermost one has ended
pub all_closed-ends : (depth : ℕ) (kinds : List Bool) (kind : Bool) (ts r : List Token) → length kinds < depth
    → ((d : ℕ) → closed kind d ts ≡ Some r) → all_closed depth (kinds ++ kind ∷ []) ts ≡ all_closed depth kinds r
all_closed-ends depth kinds kind ts r less ended =
    all_closed-inside depth kinds kind ts less ∙ ap (option_and_then (all_closed depth kinds)) (ended (depth - suc (length kinds)))

-- it is broken
pub all_closed-fails : (depth : ℕ) (kinds : List Bool) (kind : Bool) (ts : List Token) → length kinds < depth
    → ((d : ℕ) → closed kind d ts ≡ None) → all_closed depth (kinds ++ kind ∷ []) ts ≡ None
all_closed-fails depth kinds kind ts less broken =
    all_closed-inside depth kinds kind ts less ∙ ap (option_and_then (all_closed depth kinds)) (broken (depth - suc (length kinds)))

-- it goes on with a value
pub all_closed-goes_on : (depth : ℕ) (kinds : List Bool) (kind : Bool) (ts r : List Token) → length kinds < depth
    → ((d : ℕ) → closed kind d ts ≡ option_and_then (closed kind d) (passed d r)) → all_closed depth (kinds ++ kind ∷ []) ts ≡ resumed depth (kinds ++ kind ∷ []) r
unfolding resumed
all_closed-goes_on depth kinds kind ts r less on =
    let d = depth - suc (length kinds) in
    let within : depth - suc (length kinds) ≡ depth - length (kinds ++ kind ∷ []) = omega (arith, length-append kinds (kind ∷ [])) in
    all_closed-inside depth kinds kind ts less
    ∙ ap (option_and_then (all_closed depth kinds)) (on d)
    ∙ option_twice (all_closed depth kinds) (closed kind d) (passed d r)
    ∙ same_then (λ s. option_and_then (all_closed depth kinds) (closed kind d s)) (all_closed depth (kinds ++ kind ∷ []))
    (λ s. sym (all_closed-inside depth kinds kind s less)) (passed d r)
    ∙ ap (λ k. option_and_then (all_closed depth (kinds ++ kind ∷ [])) (passed k r)) within

-- ---- a value begins inside of what is open

-- one that is whole
pub resumed-whole : (depth : ℕ) (kinds : List Bool) (ts r : List Token) → ((d : ℕ) → passed d ts ≡ Some r) → resumed depth kinds ts ≡ all_closed depth kinds r
unfolding resumed
resumed-whole depth kinds ts r e = ap (option_and_then (all_closed depth kinds)) (e (depth - length kinds))

pub resumed-none : (depth : ℕ) (kinds : List Bool) (ts : List Token) → passed (depth - length kinds) ts ≡ None → resumed depth kinds ts ≡ None
unfolding resumed
resumed-none depth kinds ts e = ap (option_and_then (all_closed depth kinds)) e

pub resumed-opens : (depth : ℕ) (kinds : List Bool) (kind : Bool) (ts r : List Token) → length kinds < depth
    → passed (depth - length kinds) ts ≡ closed kind (depth - suc (length kinds)) r → resumed depth kinds ts ≡ all_closed depth (kinds ++ kind ∷ []) r
unfolding resumed
resumed-opens depth kinds kind ts r less e = ap (option_and_then (all_closed depth kinds)) e ∙ sym (all_closed-inside depth kinds kind r less)

-- ---- tokens with which values begin

pub passed-string : (depth : ℕ) (s : List ℕ) (ts : List Token) → passed depth (Token.string s ∷ ts) ≡ Some ts
unfolding passed
passed-string depth s ts = ap (λ o. left (converted of_json o)) (value_is depth _)

pub passed-boolean : (depth : ℕ) (b : Bool) (ts : List Token) → passed depth (Token.boolean b ∷ ts) ≡ Some ts
unfolding passed
passed-boolean depth b ts = ap (λ o. left (converted of_json o)) (value_is depth _)

pub passed-null : (depth : ℕ) (ts : List Token) → passed depth (Token.null ∷ ts) ≡ Some ts
unfolding passed
passed-null depth ts = ap (λ o. left (converted of_json o)) (value_is depth _)

taken_number : (o : Option Num) (ts : List Token) → is_some o ≡ true → left (option_map {U = Data × List Token} (λ d. (d, ts)) (option_map number o)) ≡ Some ts
taken_number None ts e = absurd (cc)
taken_number (Some n) ts e = refl

refused_number : (o : Option Num) (ts : List Token) → is_some o ≡ false → left (option_map {U = Data × List Token} (λ d. (d, ts)) (option_map number o)) ≡ None
refused_number None ts e = refl
refused_number (Some n) ts e = absurd (cc)

pub passed-number : (depth : ℕ) (s : List ℕ) (ts : List Token) → is_some (number_of s) ≡ true → passed depth (Token.number s ∷ ts) ≡ Some ts
unfolding passed
passed-number depth s ts e = ap (λ o. left (converted of_json o)) (value_is depth _) ∙ taken_number (number_of s) ts e

pub passed-large : (depth : ℕ) (s : List ℕ) (ts : List Token) → is_some (number_of s) ≡ false → passed depth (Token.number s ∷ ts) ≡ None
unfolding passed
passed-large depth s ts e = ap (λ o. left (converted of_json o)) (value_is depth _) ∙ refused_number (number_of s) ts e

-- an end, a key and text that is not JSON begin no value
pub passed-end_object : (depth : ℕ) (ts : List Token) → passed depth (Token.end_object ∷ ts) ≡ None
unfolding passed
passed-end_object depth ts = ap (λ o. left (converted of_json o)) (value_is depth _)

pub passed-end_array : (depth : ℕ) (ts : List Token) → passed depth (Token.end_array ∷ ts) ≡ None
unfolding passed
passed-end_array depth ts = ap (λ o. left (converted of_json o)) (value_is depth _)

pub passed-key : (depth : ℕ) (k : List ℕ) (ts : List Token) → passed depth (Token.key k ∷ ts) ≡ None
unfolding passed
passed-key depth k ts = ap (λ o. left (converted of_json o)) (value_is depth _)

pub passed-bad : (depth : ℕ) (ts : List Token) → passed depth (Token.bad ∷ ts) ≡ None
unfolding passed
passed-bad depth ts = ap (λ o. left (converted of_json o)) (value_is depth _)

-- nothing may be opened at depth 0
pub passed-too_deep : (depth : ℕ) (ts : List Token) → depth ≡ 0 → (passed depth (Token.begin_object ∷ ts) ≡ None) × (passed depth (Token.begin_array ∷ ts) ≡ None)
unfolding passed value
passed-too_deep zero ts e = (refl, refl)
passed-too_deep (suc depth) ts e = let never : ⊥ = omega arith in absurd never

opened_object : (o : Option (json.Members × List Token)) → left (converted of_json (parse_map json.object o)) ≡ left (converted (λ ms. of_members ms no_members) o)
opened_object None = refl
opened_object (Some p) = at (of_members p.0 no_members)
  where
    at : (o : Option Members) → left (option_map {U = Data × List Token} (λ d. (d, p.1)) (option_map object o)) ≡ left (option_map {U = Members × List Token} (λ ms. (ms, p.1)) o)
    at None = refl
    at (Some ms) = refl

opened_array : (o : Option (json.Items × List Token)) → left (converted of_json (parse_map json.array o)) ≡ left (converted of_items o)
opened_array None = refl
opened_array (Some p) = at (of_items p.0)
  where
    at : (o : Option Items) → left (option_map {U = Data × List Token} (λ d. (d, p.1)) (option_map array o)) ≡ left (option_map {U = Items × List Token} (λ is. (is, p.1)) o)
    at None = refl
    at (Some is) = refl

pub passed-object : (depth : ℕ) (ts : List Token) → 0 < depth → passed depth (Token.begin_object ∷ ts) ≡ closed true (depth - 1) ts
unfolding passed closed
passed-object depth ts some =
    ap (λ o. left (converted of_json o)) (value-begin_object depth ts some) ∙ opened_object (members (value (depth - 1)) (length ts) ts)

pub passed-array : (depth : ℕ) (ts : List Token) → 0 < depth → passed depth (Token.begin_array ∷ ts) ≡ closed false (depth - 1) ts
unfolding passed closed
passed-array depth ts some =
    ap (λ o. left (converted of_json o)) (value-begin_array depth ts some) ∙ opened_array (items (value (depth - 1)) (length ts) ts)

-- a token that opens an object or array inside of what is open, or would nest too deep there
pub resumed-enters : {E : Type 0} (depth : ℕ) (kinds now : List Bool) (kind : Bool) (t : Token) → ((d : ℕ) (ts : List Token) → 0 < d → passed d (t ∷ ts) ≡ closed kind (d - 1) ts)
    → ((d : ℕ) (ts : List Token) → d ≡ 0 → passed d (t ∷ ts) ≡ None) → (r : Result ⊤ E)
    → OnOk r ((length kinds < depth) × (now ≡ kinds ++ kind ∷ [])) → OnErr r (length kinds ≡ depth)
    → MatchResult r (λ _. (ts : List Token) → resumed depth kinds (t ∷ ts) ≡ all_closed depth now ts) (λ _. (ts : List Token) → resumed depth kinds (t ∷ ts) ≡ None)
resumed-enters depth kinds now kind t opens shut (Ok u) opened full = λ ts.
    let some : 0 < depth - length kinds = omega (arith, opened.0) in
    let inner : depth - length kinds - 1 ≡ depth - suc (length kinds) = omega (arith, opened.0) in
    resumed-opens depth kinds kind (t ∷ ts) ts opened.0 (opens (depth - length kinds) ts some ∙ ap (λ d. closed kind d ts) inner)
    ∙ ap (λ k. all_closed depth k ts) (sym opened.1)
resumed-enters depth kinds now kind t opens shut (Err e) opened full = λ ts.
    resumed-none depth kinds (t ∷ ts) (shut (depth - length kinds) ts (omega (arith, full)))

-- a value begins, and what is left is what was left before
pub begun : {E : Type 0} (r : Result ⊤ E) (depth : ℕ) (kinds now : List Bool) (t : Token) (ts : List Token) (before : Option (List Token)) → before ≡ resumed depth kinds (t ∷ ts)
    → MatchResult r (λ _. (us : List Token) → resumed depth kinds (t ∷ us) ≡ all_closed depth now us) (λ _. (us : List Token) → resumed depth kinds (t ∷ us) ≡ None)
    → MatchResult r (λ _. before ≡ all_closed depth now ts) (λ _. before ≡ None)
begun (Ok u) depth kinds now t ts before e on = e ∙ on ts
begun (Err u) depth kinds now t ts before e on = e ∙ on ts

-- nothing is open
pub all_closed-nothing : (depth : ℕ) (ts : List Token) → all_closed depth [] ts ≡ Some ts
unfolding all_closed
all_closed-nothing zero ts = refl
all_closed-nothing (suc depth) ts = refl

nothing_open : (depth : ℕ) (o : Option (List Token)) → option_and_then (all_closed depth []) o ≡ o
nothing_open depth None = refl
nothing_open depth (Some ts) = all_closed-nothing depth ts

pub resumed-alone : (depth : ℕ) (kinds : List Bool) (ts : List Token) → kinds ≡ [] → resumed depth kinds ts ≡ passed depth ts
unfolding resumed
resumed-alone depth [] ts e = let same : depth - 0 ≡ depth = omega arith in nothing_open depth (passed (depth - 0) ts) ∙ ap (λ d. passed d ts) same
resumed-alone depth (kind ∷ kinds) ts e = absurd (cc)
