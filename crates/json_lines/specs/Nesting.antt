-- How deep a JSON text nests: the brackets that are open, of those that stand in no text (RFC 8259, sections 2 and 7).
use Rattle.std.specs.Prelude.{ℕ, ◌+◌, ◌-◌, ◌≤◌, ◌==◌, ◌||◌, List, if◌then◌else◌, fold, take}
use Rattle.json_lines.specs.declared.nesting.Place.{Place}
use Rattle.json_lines.specs.declared.nesting.Within.{Within}
use Rattle.json_lines.specs.declared.nesting.Within.TheVariants.{Outside, Text, Escape}

-- a text begins and ends with a quotation mark (34), and what stands after a backslash (92) in it ends nothing
abbrev pub next_within : Within → ℕ → Within
next_within Outside byte = if byte == 34 then Text else Outside
next_within Text byte = if byte == 34 then Outside else if byte == 92 then Escape else Text
next_within Escape byte = Text

-- `{` (123) and `[` (91) open, `}` (125) and `]` (93) close
abbrev pub next_depth : Within → ℕ → ℕ → ℕ
next_depth Outside byte depth = if byte == 123 || byte == 91 then depth + 1 else if byte == 125 || byte == 93 then depth - 1 else depth
next_depth Text byte depth = depth
next_depth Escape byte depth = depth

abbrev pub next : Place → ℕ → Place
next place byte = record { within = next_within place.within byte; depth = next_depth place.within byte place.depth }

-- the place after these bytes
unfoldable pub place_after : List ℕ → Place
place_after bytes = fold next (record { within = Outside; depth = 0 }) bytes

-- at no place are more brackets open
abbrev pub Nests : ℕ → List ℕ → Type 0
Nests most bytes = (i : ℕ) → (place_after (take i bytes)).depth ≤ most
