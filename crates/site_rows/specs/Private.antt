-- What private functions are proved against; no public clause cites it.
use Rattle.std.specs.Prelude.{◌≡◌, ◌<◌, ◌^◌, ℕ, List, [], ◌∷◌, ⊤}
use Rattle.std.specs.List.{AllByRecursion}
use Rattle.sqlite_value.specs.Order.{Row}
use Rattle.site_rows.specs.Held.{entry}

-- each is an entry of an index, whose place has 32 bits
abbrev pub AreEntries : List Row → Type 0
AreEntries entries = AllByRecursion (λ e. (key : List ℕ) × (place : ℕ) × (e ≡ entry key place) × (place < 2 ^ 32)) entries

-- none is left, or the next one is of another key
abbrev pub IsPast : List ℕ → List Row → Type 0
IsPast key [] = ⊤
IsPast key (e ∷ left) = (place : ℕ) → e ≡ entry key place → ⊥
