-- A value by its first token.
use Rattle.std.proofs.Common.{◌≡◌, ℕ, zero, suc, ◌-◌, ◌<◌, true, false, List, [], ◌∷◌, length, Option, Some, None, option_map, refl, sym, ap, subst, ◌∙◌, arith}
use Rattle.json.specs.Token.{Token}
use Rattle.json.specs.Json as json
use Rattle.json.specs.Json.{Parse, parse_map, items, members, value, value_with, if_last}
use Rattle.json.proofs.Grammar.{left_none, left_some, value_is, value-begin_object}
use Rattle.serde_json.specs.Data.{Num, Data, Items, Members, no_members, null, boolean, number, string, array, object}
use Rattle.serde_json.specs.Read.{of_json, of_items, of_members, converted, number_of}
use Rattle.serde_json.specs.Find.{as_bool, as_str, get}
use Rattle.clientdata.specs.Passing.{Reads, value_at, members_at, passed, first_text, first_truth, opens_object}
use Rattle.clientdata.proofs.Turns.{pick}

-- what a value is, as its first token says it
pub record IsBy (t : Token) (d : Data) : Type 0 where
  pub text : as_str d ≡ first_text t
  pub truth : as_bool d ≡ first_truth t
  pub members : opens_object t ≡ false → (k : List ℕ) → get k d ≡ None

same_pair : {A : Type 0} (a b : A) (r s : List Token) → ◌≡◌ {A = Option (A × List Token)} (Some (a, r)) (Some (b, s)) → b ≡ a
same_pair {A} a b r s e = sym (ap (λ (o : Option (A × List Token)). (pick {A = A × List Token} (a, r) o).0) e)

by_number : (s : List ℕ) (ts r : List Token) (d : Data) (o : Option Num) → option_map {U = Data × List Token} (λ b. (b, ts)) (option_map number o) ≡ Some (d, r) → IsBy (Token.number s) d
by_number s ts r d None e = absurd (cc)
by_number s ts r d (Some n) e = subst (IsBy (Token.number s)) (sym (same_pair (number n) d ts r e)) (record { text = refl; truth = refl; members = λ shut k. refl })

by_array : (r s : List Token) (d : Data) (o : Option Items) → option_map {U = Data × List Token} (λ b. (b, s)) (option_map array o) ≡ Some (d, r) → IsBy Token.begin_array d
by_array r s d None e = absurd (cc)
by_array r s d (Some js) e = subst (IsBy Token.begin_array) (sym (same_pair (array js) d s r e)) (record { text = refl; truth = refl; members = λ shut k. refl })

by_some_array : (r : List Token) (d : Data) (o : Option (json.Items × List Token)) → converted of_json (parse_map json.array o) ≡ Some (d, r) → IsBy Token.begin_array d
by_some_array r d None e = absurd (cc)
by_some_array r d (Some p) e = by_array r p.1 d (of_items p.0) e

by_object : (r s : List Token) (d : Data) (o : Option Members) → option_map {U = Data × List Token} (λ b. (b, s)) (option_map object o) ≡ Some (d, r) → IsBy Token.begin_object d
by_object r s d None e = absurd (cc)
by_object r s d (Some ms) e = subst (IsBy Token.begin_object) (sym (same_pair (object ms) d s r e)) (record { text = refl; truth = refl; members = λ shut k. absurd (cc) })

by_some_object : (r : List Token) (d : Data) (o : Option (json.Members × List Token)) → converted of_json (parse_map json.object o) ≡ Some (d, r) → IsBy Token.begin_object d
by_some_object r d None e = absurd (cc)
by_some_object r d (Some p) e = by_object r p.1 d (of_members p.0 no_members) e

nothing_read : {P : Type 0} (d : Data) (r : List Token) → ◌≡◌ {A = Option (Data × List Token)} None (Some (d, r)) → P
nothing_read d r e = absurd (cc)

by_grammar : (a : Parse json.Items) (o : Parse json.Members) (t : Token) (ts r : List Token) (d : Data) → converted of_json (value_with a o (t ∷ ts)) ≡ Some (d, r) → IsBy t d
by_grammar a o Token.begin_object ts r d e = by_some_object r d (o ts) e
by_grammar a o Token.end_object ts r d e = nothing_read d r e
by_grammar a o Token.begin_array ts r d e = by_some_array r d (a ts) e
by_grammar a o Token.end_array ts r d e = nothing_read d r e
by_grammar a o (Token.key s) ts r d e = nothing_read d r e
by_grammar a o (Token.string s) ts r d e =
    subst (IsBy (Token.string s)) (sym (same_pair (string s) d ts r e)) (record { text = refl; truth = refl; members = λ shut k. refl })
by_grammar a o (Token.number s) ts r d e = by_number s ts r d (number_of s) e
by_grammar a o (Token.boolean b) ts r d e =
    subst (IsBy (Token.boolean b)) (sym (same_pair (boolean b) d ts r e)) (record { text = refl; truth = refl; members = λ shut k. refl })
by_grammar a o Token.null ts r d e =
    subst (IsBy Token.null) (sym (same_pair null d ts r e)) (record { text = refl; truth = refl; members = λ shut k. refl })
by_grammar a o Token.bad ts r d e = nothing_read d r e

inner_items : ℕ → Parse json.Items
inner_items zero ts = None
inner_items (suc depth) ts = items (value depth) (length ts) ts

inner_members : ℕ → Parse json.Members
inner_members zero ts = None
inner_members (suc depth) ts = members (value depth) (length ts) ts

by_inner : (depth : ℕ) (ts : List Token) → value depth ts ≡ value_with (inner_items depth) (inner_members depth) ts
unfolding value inner_items inner_members
by_inner zero ts = refl
by_inner (suc depth) ts = refl

pub by_first : (depth : ℕ) (t : Token) (ts r : List Token) (d : Data) → value_at depth (t ∷ ts) ≡ Some (d, r) → IsBy t d
by_first depth t ts r d e = by_grammar (inner_items depth) (inner_members depth) t ts r d (ap (converted of_json) (sym (by_inner depth (t ∷ ts))) ∙ e)

-- a value that was passed over was read
read_by : {A : Type 0} (said : Data → A) (a : A) (depth : ℕ) (t : Token) (ts r : List Token) → passed depth (t ∷ ts) ≡ Some r
    → ((d : Data) → IsBy t d → a ≡ said d) → Reads said depth (t ∷ ts) a r
unfolding passed
read_by said a depth t ts r e says = let d = left_some (value_at depth (t ∷ ts)) r e in (d.0, d.1, says d.0 (by_first depth t ts r d.0 d.1))

pub there : {A : Type 0} (said : Data → A) (a : A) (depth : ℕ) (t : Token) (whole ts r : List Token) → whole ≡ t ∷ ts → passed depth (t ∷ ts) ≡ Some r
    → ((d : Data) → IsBy t d → a ≡ said d) → Reads said depth whole a r
there said a depth t whole ts r e passes says = subst (λ (l : List Token). Reads said depth l a r) (sym e) (read_by said a depth t ts r passes says)

not_passed : (depth : ℕ) (ts : List Token) → passed depth ts ≡ None → value_at depth ts ≡ None
unfolding passed
not_passed depth ts e = left_none (value_at depth ts) e

pub not_there : (depth : ℕ) (whole ts : List Token) → whole ≡ ts → passed depth ts ≡ None → value_at depth whole ≡ None
not_there depth whole ts e none = ap (value_at depth) e ∙ not_passed depth ts none

pub nothing_there : (depth : ℕ) (ts : List Token) → ts ≡ [] → value_at depth ts ≡ None
nothing_there depth ts e = ap (value_at depth) e ∙ ap (converted of_json) (value_is depth [])

-- ---- an object

object_converted : (o : Option (json.Members × List Token)) (m : Option (Members × List Token)) → converted (λ ms. of_members ms no_members) o ≡ m
    → converted of_json (parse_map json.object o) ≡ parse_map object m
object_converted None m e = ap (parse_map object) e
object_converted (Some p) m e = at (of_members p.0 no_members) ∙ ap (parse_map object) e
  where
    at : (o : Option Members) → option_map {U = Data × List Token} (λ d. (d, p.1)) (option_map object o) ≡ parse_map object (option_map {U = Members × List Token} (λ ms. (ms, p.1)) o)
    at None = refl
    at (Some ms) = refl

pub object_at : (depth : ℕ) (whole ts : List Token) → 0 < depth → whole ≡ Token.begin_object ∷ ts → (m : Option (Members × List Token)) → members_at (depth - 1) no_members ts ≡ m
    → value_at depth whole ≡ parse_map object m
object_at depth whole ts some e m inside =
    ap (value_at depth) e ∙ ap (converted of_json) (value-begin_object depth ts some) ∙ object_converted (members (value (depth - 1)) (length ts) ts) m inside

too_deep : (depth : ℕ) (ts : List Token) → depth ≡ 0 → value depth (Token.begin_object ∷ ts) ≡ None
unfolding value
too_deep zero ts e = refl
too_deep (suc depth) ts e = let never : ⊥ = omega arith in absurd never

pub object_too_deep : (depth : ℕ) (whole ts : List Token) → depth ≡ 0 → whole ≡ Token.begin_object ∷ ts → value_at depth whole ≡ None
object_too_deep depth whole ts none e = ap (value_at depth) e ∙ ap (converted of_json) (too_deep depth ts none)

opened : (t : Token) → opens_object t ≡ true → t ≡ Token.begin_object
opened Token.begin_object e = refl
opened Token.end_object e = absurd (cc)
opened Token.begin_array e = absurd (cc)
opened Token.end_array e = absurd (cc)
opened (Token.key s) e = absurd (cc)
opened (Token.string s) e = absurd (cc)
opened (Token.number s) e = absurd (cc)
opened (Token.boolean b) e = absurd (cc)
opened Token.null e = absurd (cc)
opened Token.bad e = absurd (cc)

pub opens : (whole ts : List Token) (t : Token) → whole ≡ t ∷ ts → opens_object t ≡ true → whole ≡ Token.begin_object ∷ ts
opens whole ts t e begins = e ∙ ap (λ u. u ∷ ts) (opened t begins)
