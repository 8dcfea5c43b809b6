-- Which lines are read, and why others are refused.
use Rattle.std.specs.Prelude.{◌≡◌, ◌≤◌, ◌<◌, ◌⊎◌, ℕ, ⊤, List, codes, length, IsUtf8, Option, Some, None}
use Rattle.serde_json.specs.Data.{Data}
use Rattle.serde_json.specs.Find.{as_object}
use Rattle.serde_json.specs.Read.{read}
use Rattle.json_lines.specs.Nesting.{Nests}
use Rattle.json_lines.specs.Members.{HasNumber}
use Rattle.json_lines.specs.declared.error.LineError.{LineError}
use Rattle.json_lines.specs.declared.error.LineError.TheVariants as errors

-- a line is at most 65,536 bytes of UTF-8, nests at most 32 deep, and is this JSON text
abbrev pub IsLine : List ℕ → Data → Type 0
IsLine line d = (length line ≤ 65536) × IsUtf8 line × Nests 32 line × (read line ≡ Some d)

-- a line is no object, or not looked at
abbrev pub IsUnread : List ℕ → LineError → Type 0
IsUnread line errors.TooLong = 65536 < length line
IsUnread line errors.NotUtf8 = IsUtf8 line → ⊥
IsUnread line errors.TooDeep = Nests 32 line → ⊥
IsUnread line errors.NotAnObject = (d : Data) → read line ≡ Some d → as_object d ≡ None
IsUnread line errors.Memory = ⊤
IsUnread line _ = ⊥

-- an object has no number
abbrev pub IsUnnumbered : Data → Option ℕ → LineError → Type 0
IsUnnumbered d id e = (e ≡ errors.BadId) × (id ≡ None) × ((n : ℕ) → HasNumber (codes "id") d n → ⊥)

-- a line is no object, or has no number
abbrev pub IsNotRead : List ℕ → Option ℕ → LineError → Type 0
IsNotRead line id e = IsUnread line e ⊎ ((d : Data) × (read line ≡ Some d) × IsUnnumbered d id e)

-- an object has no number; or it has one, which is answered, and this is amiss
abbrev pub IsAmissIn : (Data → LineError → Type 0) → Data → Option ℕ → LineError → Type 0
IsAmissIn Of d id e = IsUnnumbered d id e ⊎ ((n : ℕ) × (id ≡ Some n) × HasNumber (codes "id") d n × Of d e)

-- why a line is refused, and the number that is answered of it
abbrev pub IsRefused : (Data → LineError → Type 0) → List ℕ → Option ℕ → LineError → Type 0
IsRefused Of line id e = IsUnread line e ⊎ ((d : Data) × (read line ≡ Some d) × IsAmissIn Of d id e)
