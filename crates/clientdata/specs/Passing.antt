-- What is left of a JSON text after its parts, where `serde_json` takes them. Private functions are proved against these.
use Rattle.std.specs.Prelude.{◌≡◌, ℕ, zero, suc, ◌-◌, Bool, true, false, List, [], ◌∷◌, length, Option, Some, None, option_map, option_and_then}
use Rattle.json.specs.Token.{Token}
use Rattle.json.specs.Json.{if_last, items, members, value}
use Rattle.serde_json.specs.Data.{Data, Members, no_members}
use Rattle.serde_json.specs.Read.{of_json, of_items, of_members, converted, max_depth}

-- a value, with objects and arrays nested no deeper than the number, and what is left
abbrev pub value_at : ℕ → List Token → Option (Data × List Token)
value_at depth ts = converted of_json (value depth ts)

-- the members of an object up to its end, after those that were read, and what is left
abbrev pub members_at : ℕ → Members → List Token → Option (Members × List Token)
members_at depth earlier ts = converted (λ ms. of_members ms earlier) (members (value depth) (length ts) ts)

-- a value is read, and this is said of it
abbrev pub Reads : {A : Type 0} → (Data → A) → ℕ → List Token → A → List Token → Type 0
Reads said depth old a new = (value : Data) × (value_at depth old ≡ Some (value, new)) × (a ≡ said value)

-- the members of an object are read, and this is said of them
abbrev pub ReadsMembers : (Members → Type 0) → ℕ → List Token → List Token → Type 0
ReadsMembers Says depth old new = (ms : Members) × (members_at depth no_members old ≡ Some (ms, new)) × Says ms

-- what is left after a value
unfoldable pub passed : ℕ → List Token → Option (List Token)
passed depth ts = option_map (λ p. p.1) (value_at depth ts)

-- what is left after the rest of an object, or of an array
unfoldable pub closed : Bool → ℕ → List Token → Option (List Token)
closed true depth ts = option_map (λ p. p.1) (members_at depth no_members ts)
closed false depth ts = option_map (λ p. p.1) (converted of_items (items (value depth) (length ts) ts))

-- what is left after the rest of all that is open, the outermost first
unfoldable pub all_closed : ℕ → List Bool → List Token → Option (List Token)
all_closed depth [] ts = Some ts
all_closed zero (kind ∷ kinds) ts = None
all_closed (suc depth) (kind ∷ kinds) ts = option_and_then (closed kind depth) (all_closed depth kinds ts)

-- what is left after a value and then the rest of all that is open around it
unfoldable pub resumed : ℕ → List Bool → List Token → Option (List Token)
resumed depth kinds ts = option_and_then (all_closed depth kinds) (passed (depth - length kinds) ts)

-- an object or array goes on with a value that begins with this token, or has ended
abbrev pub GoesOn : Bool → ℕ → Option Token → List Token → List Token → Type 0
GoesOn is_object depth None old new = closed is_object depth old ≡ Some new
GoesOn is_object depth (Some token) old new = closed is_object depth old ≡ option_and_then (closed is_object depth) (passed depth (token ∷ new))

-- the value that all tokens of a text are
abbrev pub whole_of : List Token → Option Data
whole_of ts = option_and_then of_json (option_and_then (λ p. if_last p.0 p.1) (value max_depth ts))

-- what a value's first token says of it: its text, its truth, whether it is an object
abbrev pub first_text : Token → Option (List ℕ)
first_text Token.begin_object = None
first_text Token.end_object = None
first_text Token.begin_array = None
first_text Token.end_array = None
first_text (Token.key s) = None
first_text (Token.string s) = Some s
first_text (Token.number s) = None
first_text (Token.boolean b) = None
first_text Token.null = None
first_text Token.bad = None

abbrev pub first_truth : Token → Option Bool
first_truth Token.begin_object = None
first_truth Token.end_object = None
first_truth Token.begin_array = None
first_truth Token.end_array = None
first_truth (Token.key s) = None
first_truth (Token.string s) = None
first_truth (Token.number s) = None
first_truth (Token.boolean b) = Some b
first_truth Token.null = None
first_truth Token.bad = None

abbrev pub opens_object : Token → Bool
opens_object Token.begin_object = true
opens_object Token.end_object = false
opens_object Token.begin_array = false
opens_object Token.end_array = false
opens_object (Token.key s) = false
opens_object (Token.string s) = false
opens_object (Token.number s) = false
opens_object (Token.boolean b) = false
opens_object Token.null = false
opens_object Token.bad = false
