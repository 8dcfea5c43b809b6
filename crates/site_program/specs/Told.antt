-- What is written of answers: the line of each, in order.
use Rattle.std.specs.Prelude.{◌≡◌, ◌++◌, ℕ, List, [], ◌∷◌}
use Rattle.serde_json.specs.Data.{Data}
use Rattle.json_lines.specs.Written.{IsTextOf}
use Rattle.site_lines.specs.Written.{Writes}
use Rattle.site_lines.specs.declared.line.Answered.{Answered}
use Rattle.site_lines.specs.declared.writing.Teller.{Teller}

-- the line of one answer: the text of its object and of nothing else, and a line feed
abbrev pub IsLineOf : Teller → Answered → List ℕ → Type 0
IsLineOf teller answered line =
    (d : Data) × (text : List ℕ) × Writes teller answered.id answered.answer d × IsTextOf d text × (line ≡ text ++ 10 ∷ [])

-- the lines of these answers: each, in order, and nothing else
abbrev pub AreLinesOf : Teller → List Answered → List ℕ → Type 0
AreLinesOf teller [] bytes = bytes ≡ []
AreLinesOf teller (answered ∷ more) bytes =
    (line rest : List ℕ) × IsLineOf teller answered line × AreLinesOf teller more rest × (bytes ≡ line ++ rest)
