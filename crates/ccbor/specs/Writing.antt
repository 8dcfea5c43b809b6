-- What the private functions of writing are proved against; no public clause cites it.
use Rattle.std.specs.Prelude.{◌≡◌, ℕ, List, ◌++◌, Result, Ok, Err}
use Rattle.ccbor.specs.declared.error.Error.{Error}
use Rattle.ccbor.specs.declared.error.Error.TheVariants as errors

-- new is old with something at its end
abbrev pub Grows : List ℕ → List ℕ → Type 0
Grows old new = (tail : List ℕ) × (new ≡ old ++ tail)

-- the fact holds and the bytes were appended; or it does not hold; or memory ran out
abbrev pub Writes : Type 0 → List ℕ → List ℕ → List ℕ → Result (Unit {0}) Error → Type 0
Writes P bytes old new (Ok _) = P × (new ≡ old ++ bytes)
Writes P bytes old new (Err errors.Unfit) = P → ⊥
Writes P bytes old new (Err errors.Memory) = Unit {0}
Writes P bytes old new (Err errors.NotCanonical) = ⊥
Writes P bytes old new (Err errors.Trailing) = ⊥
