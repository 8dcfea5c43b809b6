-- Messages and signatures.
use Rattle.std.specs.Prelude.{◌≡◌, ◌≤◌, ℕ, List, [], ◌++◌, length, slice_index_or}
use Rattle.std.specs.Borrow.{Bor}
use Rattle.cose.specs.declared.key.CoseKey.{CoseKey}

-- no bytes, which stand for a part that is not there
abbrev pub no_part : Bor (List ℕ)
no_part = record { ref_ptr = (0, 0); now = [] }

-- the message: the second part after the first
abbrev pub joined : List (Bor (List ℕ)) → List ℕ
joined parts = (slice_index_or parts 0 no_part).now ++ (slice_index_or parts 1 no_part).now

-- which signatures are valid: key, message, signature
abbrev pub Validity : Type 1
Validity = CoseKey → List ℕ → List ℕ → Type 0

-- new is old and then a signature, of 1 to 128 bytes, that is valid
abbrev pub AppendsSignature : (List ℕ → Type 0) → List ℕ → List ℕ → Type 0
AppendsSignature IsValid old new =
    (sig : List ℕ) × (new ≡ old ++ sig) × (1 ≤ length sig) × (length sig ≤ 128) × IsValid sig
