-- The random bytes of lines.
use Rattle.std.specs.Prelude.{◌++◌, ℕ, List, [], ◌∷◌}
use Rattle.site_lines.specs.declared.line.Arrived.{Arrived}

-- those of each line, one after the other
abbrev pub words_in : List Arrived → List ℕ
words_in [] = []
words_in (line ∷ lines) = line.words ++ words_in lines
