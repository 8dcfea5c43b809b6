-- Items one after the other.
use Rattle.std.specs.Prelude.{ℕ, List, [], ◌∷◌, ◌++◌}

abbrev pub joined : {E : Type 0} → (E → List ℕ) → List E → List ℕ
joined octets_of [] = []
joined octets_of (e ∷ es) = octets_of e ++ joined octets_of es
