-- A member that is read and what was found of those before it, and the whole text.
use Rattle.std.proofs.Common.{◌≡◌, ℕ, List, [], ◌∷◌, Option, Some, None, option_map, option_and_then, arith, true, false, ◌∙◌, refl, sym, ap}
use Rattle.std.proofs.lemmas.Bool.{false≢true}
use Rattle.std.specs.Str.{bytes_eq}
use Rattle.std.proofs.lemmas.Slice.Eq.{bytes_eq-Decides}
use Rattle.json.specs.Token.{Token}
use Rattle.json.specs.Json as json
use Rattle.json.specs.Json.{if_last, value}
use Rattle.serde_json.specs.Data.{Data, Members, no_members, object, put}
use Rattle.serde_json.specs.Read.{of_json, converted}
use Rattle.serde_json.specs.Find.{as_str, get, get_member}
use Rattle.serde_json.proofs.Views.{get_member-put, get_member-put_other}
use Rattle.std.specs.Prelude.{codes}
use Rattle.clientdata.specs.declared.members.Found.{Found}
use Rattle.clientdata.specs.Found.{IsFound, seen_found}
use Rattle.clientdata.specs.Passing.{members_at, opens_object, value_at, whole_of}
use Rattle.clientdata.specs.Reading.{seen_in, text_member, binding_in, cross_origin_in, top_origin_in}
use Rattle.clientdata.proofs.Turns.{converted_from, not_converted}
use Rattle.clientdata.proofs.Firsts.{by_first, nothing_there, object_at}

-- the member of this name says what was read
pub set : {A : Type 0} (said : Option Data → A) (a : A) (key name : List ℕ) (d : Data) (ms : Members) → name ≡ key → a ≡ said (Some d) → a ≡ said (get_member key (put name d ms))
set said a key name d ms e is = is ∙ ap said (sym (ap (λ k. get_member k (put name d ms)) (sym e) ∙ get_member-put name d ms))

-- a member of another name says what it said
pub kept : {A : Type 0} (said : Option Data → A) (a : A) (key name : List ℕ) (d : Data) (ms : Members) → (name ≡ key → ⊥) → a ≡ said (get_member key ms) → a ≡ said (get_member key (put name d ms))
kept said a key name d ms other is = is ∙ ap said (sym (get_member-put_other key name d ms (λ e. other (sym e))))

-- two names that are not the same bytes
same_bytes : (xs : List ℕ) → bytes_eq xs xs ≡ true
same_bytes xs = (bytes_eq-Decides xs xs).1 refl

pub apart : (a b name : List ℕ) → bytes_eq a b ≡ false → name ≡ a → name ≡ b → ⊥
apart a b name differ e f = false≢true (sym differ ∙ ap (bytes_eq a) (sym f ∙ e) ∙ same_bytes a)

-- ---- the whole text

whole : Option (json.Json × List Token) → Option Data
whole o = option_and_then of_json (option_and_then (λ p. if_last p.0 p.1) o)

-- a value, and no more
ended : (o : Option (json.Json × List Token)) (d : Data) → converted of_json o ≡ Some (d, []) → whole o ≡ Some d
unfolding whole
ended o d e = let j = converted_from of_json o d [] e in ap (λ p. option_and_then of_json (option_and_then (λ q. if_last q.0 q.1) p)) j.1 ∙ j.2

-- more after it
more : (o : Option (json.Json × List Token)) (d : Data) (t : Token) (r : List Token) → converted of_json o ≡ Some (d, t ∷ r) → whole o ≡ None
unfolding whole
more o d t r e = let j = converted_from of_json o d (t ∷ r) e in ap (λ p. option_and_then of_json (option_and_then (λ q. if_last q.0 q.1) p)) j.1

-- no value
refused : (o : Option (json.Json × List Token)) → converted of_json o ≡ None → whole o ≡ None
unfolding whole
refused None e = refl
refused (Some (j, [])) e = not_converted [] (of_json j) e
refused (Some (j, t ∷ r)) e = refl

pub whole_object : (all ts : List Token) (ms : Members) (r : List Token) → all ≡ Token.begin_object ∷ ts → members_at 126 no_members ts ≡ Some (ms, r) → r ≡ []
    → whole_of all ≡ Some (object ms)
unfolding whole
whole_object all ts ms r e inside last =
    ended (value 127 all) (object ms) (object_at 127 all ts (omega arith) e (Some (ms, r)) inside ∙ ap (λ l. Some (object ms, l)) last)

pub whole_and_more : (all ts : List Token) (ms : Members) (t : Token) (r s : List Token) → all ≡ Token.begin_object ∷ ts → members_at 126 no_members ts ≡ Some (ms, s) → s ≡ t ∷ r
    → option_and_then seen_in (whole_of all) ≡ None
unfolding whole
whole_and_more all ts ms t r s e inside next =
    ap (option_and_then seen_in) (more (value 127 all) (object ms) t r (object_at 127 all ts (omega arith) e (Some (ms, s)) inside ∙ ap (λ l. Some (object ms, l)) next))

pub whole_broken : (all ts : List Token) → all ≡ Token.begin_object ∷ ts → members_at 126 no_members ts ≡ None → option_and_then seen_in (whole_of all) ≡ None
unfolding whole
whole_broken all ts e inside = ap (option_and_then seen_in) (refused (value 127 all) (object_at 127 all ts (omega arith) e None inside))

pub whole_nothing : (all : List Token) → all ≡ [] → option_and_then seen_in (whole_of all) ≡ None
unfolding whole
whole_nothing all e = ap (option_and_then seen_in) (refused (value 127 all) (nothing_there 127 all e))

-- anything but an object is not client data
no_object : (d : Data) → ((k : List ℕ) → get k d ≡ None) → seen_in d ≡ None
no_object d none = ap (λ o. option_and_then (λ kind.
    option_and_then (λ challenge.
    option_map (λ origin. record {
      kind = kind;
      challenge = challenge;
      origin = origin;
      binding = binding_in d;
      cross_origin = cross_origin_in d;
      top_origin = top_origin_in d;
    })
    (text_member (codes "origin") d))
    (text_member (codes "challenge") d))
    (option_and_then as_str o)) (none (codes "type"))

other_value : (t : Token) (r : List Token) → opens_object t ≡ false → (o : Option (Data × List Token)) → value_at 127 (t ∷ r) ≡ o → option_and_then seen_in (whole_of (t ∷ r)) ≡ None
unfolding whole
other_value t r shut None e = ap (option_and_then seen_in) (refused (value 127 (t ∷ r)) e)
other_value t r shut (Some (d, [])) e =
    ap (option_and_then seen_in) (ended (value 127 (t ∷ r)) d e) ∙ no_object d ((by_first 127 t r [] d e).members shut)
other_value t r shut (Some (d, u ∷ s)) e = ap (option_and_then seen_in) (more (value 127 (t ∷ r)) d u s e)

pub whole_other : (all ts : List Token) (t : Token) → all ≡ t ∷ ts → opens_object t ≡ false → option_and_then seen_in (whole_of all) ≡ None
whole_other all ts t e shut = ap (λ l. option_and_then seen_in (whole_of l)) e ∙ other_value t ts shut (value_at 127 (t ∷ ts)) refl

-- what was found of an object is what client data say
pub seen_found_is : (found : Found) (ms : Members) → IsFound found ms → seen_found found ≡ seen_in (object ms)
seen_found_is found ms f = rw (f.kind, f.challenge, f.origin, f.binding, f.cross_origin, f.top_origin) refl
