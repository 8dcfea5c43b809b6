-- Transports as one text, which is how a store has them.
use Rattle.std.specs.Prelude.{◌++◌, ℕ, List, [], ◌∷◌}

-- texts as one, with a comma between each and the next
abbrev pub with_comma : List ℕ → List ℕ
with_comma [] = []
with_comma (b ∷ bs) = (b ∷ bs) ++ 44 ∷ []

abbrev pub joined_on : List ℕ → List (List ℕ) → List ℕ
joined_on text [] = text
joined_on text (t ∷ ts) = joined_on (with_comma text ++ t) ts

abbrev pub joined : List (List ℕ) → List ℕ
joined ts = joined_on [] ts
