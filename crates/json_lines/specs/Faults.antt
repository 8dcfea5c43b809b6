-- What an error says of a member: it is so of the line.
use Rattle.std.specs.Prelude.{◌≡◌, ◌⊎◌, ℕ, ⊤, Bool, List, [], ◌∷◌, codes, Some, None, option_and_then}
use Rattle.std.specs.Borrow.{Bor}
use Rattle.std.specs.List.{AllByRecursion}
use Rattle.base64.specs.GeneralPurpose.{IsBytes}
use Rattle.serde_json.specs.Data.{Data, Members, member as entry, no_members}
use Rattle.serde_json.specs.Find.{as_array, as_bool, as_number, as_object, as_str, as_u64}
use Rattle.serde_json.specs.View.{items_of, items_view}
use Rattle.serde_json.specs.declared.value.Value.{Value}
use Rattle.json_lines.specs.Members.{IsBase64url, member}
use Rattle.json_lines.specs.declared.error.LineError.{LineError}
use Rattle.json_lines.specs.declared.error.LineError.TheVariants as errors

-- ---- the forms of members

abbrev pub IsText : Data → Type 0
IsText d = (text : List ℕ) × (as_str d ≡ Some text)

abbrev pub IsNumber : Data → Type 0
IsNumber d = (n : ℕ) × (option_and_then as_u64 (as_number d) ≡ Some n)

abbrev pub IsFlag : Data → Type 0
IsFlag d = (b : Bool) × (as_bool d ≡ Some b)

abbrev pub AreBytes : Data → Type 0
AreBytes d = (bytes : List ℕ) × IsBytes bytes × IsBase64url d bytes

abbrev pub HasItems : (Data → Type 0) → Data → Type 0
HasItems Is d = (ds : List Data) × (as_array d ≡ Some (items_of ds)) × AllByRecursion Is ds

-- the values of a member that is a list; none where it is absent
abbrev pub AreItems : List ℕ → Data → List Value → Type 0
AreItems name d items = (option_and_then as_array (member name d) ≡ Some (items_view items)) ⊎ ((member name d ≡ None) × (items ≡ []))

-- ---- what an error says of a member

-- it is there, and not in its form; running out of memory says nothing
abbrev pub IsIllFormed : List ℕ → (Data → Type 0) → Data → LineError → Type 0
IsIllFormed name Is d (errors.BadForm n) = (n.now ≡ name) × ((m : Data) × (member name d ≡ Some m) × (Is m → ⊥))
IsIllFormed name Is d errors.Memory = ⊤
IsIllFormed name Is d _ = ⊥

-- it is missing, or it is there and not in its form
abbrev pub IsAmiss : List ℕ → (Data → Type 0) → Data → LineError → Type 0
IsAmiss name Is d (errors.Missing n) = (n.now ≡ name) × (member name d ≡ None)
IsAmiss name Is d (errors.BadForm n) = (n.now ≡ name) × ((m : Data) × (member name d ≡ Some m) × (Is m → ⊥))
IsAmiss name Is d errors.Memory = ⊤
IsAmiss name Is d _ = ⊥

-- a member is not in its form, which is named
abbrev pub IsBadForm : List ℕ → LineError → Type 0
IsBadForm name (errors.BadForm n) = n.now ≡ name
IsBadForm name _ = ⊥

abbrev pub IsMissing : List ℕ → Data → LineError → Type 0
IsMissing name d (errors.Missing n) = (n.now ≡ name) × (member name d ≡ None)
IsMissing name d _ = ⊥

-- a value is refused as that of a member, since it has not a form; running out of memory says nothing
abbrev pub IsRefusedAs : Bor (List ℕ) → Type 0 → LineError → Type 0
IsRefusedAs name Is e = (e ≡ errors.Memory) ⊎ ((e ≡ errors.BadForm name) × (Is → ⊥))

-- a member is there, and no list
abbrev pub IsNoList : Bor (List ℕ) → Data → LineError → Type 0
IsNoList name d e = (e ≡ errors.BadForm name) × ((m : Data) × (member name.now d ≡ Some m) × (as_array m ≡ None))

-- ---- the names of members

-- a name is one of these
abbrev pub IsOneOf : List (List ℕ) → List ℕ → Type 0
IsOneOf [] name = ⊥
IsOneOf (n ∷ ns) name = (name ≡ n) ⊎ IsOneOf ns name

-- the names of an object's members
abbrev pub names_in : Members → List (List ℕ)
names_in no_members = []
names_in (entry k d ms) = k ∷ names_in ms

-- what the members of a line may be called whose act takes members of these names
abbrev pub taken : List (List ℕ) → List (List ℕ)
taken names = codes "id" ∷ codes "act" ∷ names

-- members of which the act does not take one
abbrev pub HasUnknownIn : List (List ℕ) → Members → LineError → Type 0
HasUnknownIn names ms e =
    (e ≡ errors.UnknownMember) × ((name : List ℕ) × IsOneOf (names_in ms) name × (IsOneOf (taken names) name → ⊥))

-- a line is an object that has a member which its act does not take
abbrev pub HasUnknown : List (List ℕ) → Data → LineError → Type 0
HasUnknown names d e =
    (e ≡ errors.UnknownMember)
    × ((ms : Members) × (name : List ℕ) × (as_object d ≡ Some ms) × IsOneOf (names_in ms) name × (IsOneOf (taken names) name → ⊥))

-- an object has no member but those that its act takes
abbrev pub HasNoOther : List (List ℕ) → Data → Type 0
HasNoOther names d = (ms : Members) → as_object d ≡ Some ms → AllByRecursion (IsOneOf (taken names)) (names_in ms)
