-- Bytes that are refused are no value's.
use Rattle.std.proofs.Common.{◌≡◌, ◌⊎◌, inl, inr, ℕ, List, arith, length, take}
use Rattle.std.proofs.lemmas.List.{take_all}
use Rattle.ccbor.specs.Canon.{Canon}
use Rattle.ccbor.specs.Item.{Item}
use Rattle.ccbor.specs.declared.error.Error.{Error}
use Rattle.ccbor.specs.declared.error.Error.TheVariants as errors

pub not_canonical : (bytes : List ℕ) (e : Error) → (e ≡ errors.NotCanonical) ⊎ (e ≡ errors.Trailing)
    → (e ≡ errors.Trailing → (v : Item) → Canon v bytes → ⊥) → (e ≡ errors.NotCanonical → (v : Item) (n : ℕ) → Canon v (take n bytes) → ⊥)
    → ((v : Item) × Canon v bytes) → ⊥
not_canonical bytes e (inl is) front none w =
    let whole : take (length bytes) bytes ≡ bytes = take_all (length bytes) bytes (omega arith) in
    none is w.0 (length bytes) (rw whole w.1)
not_canonical bytes e (inr is) front none w = front is w.0 w.1
