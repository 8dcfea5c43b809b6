-- What stands after the expected bytes.
use Rattle.std.proofs.Common.{◌≡◌, ◌⊎◌, ℕ, ◌≤◌, List, [], ◌∷◌, ◌++◌, length, slice_index, sym, ◌∙◌, arith}
use Rattle.std.proofs.lemmas.List.{append_cancel_left}
use Rattle.clientdata.specs.Verified.{IsVerified}

-- a byte that ends the text or begins a further member
abbrev pub GoesOn : ℕ → Type 0
GoesOn next = (next ≡ 125) ⊎ (next ≡ 44)

pub verified : (bytes expected rest : List ℕ) → bytes ≡ expected ++ rest → 1 ≤ length rest → GoesOn (slice_index rest 0) → IsVerified bytes expected
verified bytes expected [] e some on = absurd (omega arith)
verified bytes expected (x ∷ rest) e some on = record { next = x; rest = rest; begins = e; goes_on = on }

pub goes_on : (bytes expected rest : List ℕ) → bytes ≡ expected ++ rest → IsVerified bytes expected → GoesOn (slice_index rest 0)
goes_on bytes expected rest e v =
    let same = append_cancel_left expected rest (v.next ∷ v.rest) (sym e ∙ v.begins) in
    rw same v.goes_on
