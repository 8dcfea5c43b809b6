-- Why a line is refused: what an error names is so of the line.
use Rattle.std.specs.Prelude.{◌≡◌, ◌⊎◌, ℕ, ⊤, List, Option, Some, codes, length}
use Rattle.json_lines.specs.Faults.{AreBytes, HasUnknown, IsAmiss, IsBadForm, IsFlag, IsIllFormed, IsNumber, IsText}
use Rattle.json_lines.specs.Lines as lines
use Rattle.json_lines.specs.Members.{HasBytes, HasText, member}
use Rattle.json_lines.specs.declared.error.LineError.{LineError}
use Rattle.json_lines.specs.declared.error.LineError.TheVariants as errors
use Rattle.serde_json.specs.Data.{Data, Members}
use Rattle.serde_json.specs.Find.{as_object}
use Rattle.client_acts.specs.Kinds.{kind_name, names_for}
use Rattle.client_acts.specs.declared.acts.Kind.{Kind}
use Rattle.client_acts.specs.declared.acts.Kind.TheVariants as kinds

abbrev pub IsObject : Data → Type 0
IsObject d = (ms : Members) × (as_object d ≡ Some ms)

-- ---- what an error says of an act's members

-- bytes, of which there are just so many
abbrev pub OfSized : List ℕ → ℕ → Data → LineError → Type 0
OfSized name n d e = IsAmiss name AreBytes d e ⊎ (IsBadForm name e × ((bytes : List ℕ) × HasBytes name d bytes × (length bytes ≡ n → ⊥)))

-- a member of options is missing or not in its form; which one, and why, is not said
abbrev pub IsInOptions : LineError → Type 0
IsInOptions (errors.Missing n) = ⊤
IsInOptions (errors.BadForm n) = ⊤
IsInOptions errors.Memory = ⊤
IsInOptions _ = ⊥

abbrev pub OfOptions : Data → LineError → Type 0
OfOptions d e =
    IsAmiss (codes "options") IsObject d e ⊎ (IsAmiss (codes "origin") IsText d e
    ⊎ ((options : Data) × (member (codes "options") d ≡ Some options) × IsInOptions e))

abbrev pub OfBegin : Data → LineError → Type 0
OfBegin d e = OfSized (codes "nonce") 8 d e ⊎ IsIllFormed (codes "built_in") IsFlag d e

abbrev pub OfAct : Kind → Data → LineError → Type 0
OfAct kinds.Register d e = OfOptions d e ⊎ OfBegin d e
OfAct kinds.SignIn d e = OfOptions d e ⊎ OfBegin d e
OfAct kinds.Information d e = OfBegin d e
OfAct kinds.SetPin d e = IsAmiss (codes "new_pin") IsText d e ⊎ OfBegin d e
OfAct kinds.ChangePin d e = IsAmiss (codes "new_pin") IsText d e ⊎ OfBegin d e
OfAct kinds.Packet d e = OfSized (codes "packet") 64 d e
OfAct kinds.Pin d e = IsAmiss (codes "pin") IsText d e
OfAct kinds.Computed d e = IsAmiss (codes "bytes") AreBytes d e
OfAct kinds.Choose d e = IsAmiss (codes "number") IsNumber d e
OfAct kinds.Cancel d e = ⊥

-- ---- lines that are refused

-- its `act` is a text, and names no act
abbrev pub IsNoAct : Data → LineError → Type 0
IsNoAct d e = (e ≡ errors.UnknownAct) × ((name : List ℕ) × HasText (codes "act") d name × ((kind : Kind) → name ≡ kind_name kind → ⊥))

abbrev pub IsOfAct : Data → LineError → Type 0
IsOfAct d e = (kind : Kind) × HasText (codes "act") d (kind_name kind) × (HasUnknown (names_for kind) d e ⊎ OfAct kind d e)

-- what is refused of an object that has a number
abbrev pub IsRefusedIn : Data → LineError → Type 0
IsRefusedIn d e = IsAmiss (codes "act") IsText d e ⊎ (IsNoAct d e ⊎ IsOfAct d e)

-- why a line is refused, and the number that is answered of it
abbrev pub IsRefused : List ℕ → Option ℕ → LineError → Type 0
IsRefused = lines.IsRefused IsRefusedIn
