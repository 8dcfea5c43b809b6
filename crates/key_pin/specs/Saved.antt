-- What outlives a power cycle, as bytes. Their form is this product's own: the version, which is 1; the retries; and the 16 bytes
-- of the PIN's hash where one is set.
use Rattle.std.specs.Prelude.{◌≡◌, ◌≤◌, ℕ, List, [], ◌∷◌, length, Option, Some, None}
use Rattle.key_pin.specs.State.{PinState}

abbrev pub hash_bytes : Option (List ℕ) → List ℕ
hash_bytes None = []
hash_bytes (Some hash) = hash

abbrev pub saved : PinState → List ℕ
saved s = 1 ∷ s.retries ∷ hash_bytes s.pin

-- a key without a PIN has all 8 retries
abbrev pub FitsPin : Option (List ℕ) → ℕ → Type 0
FitsPin None retries = retries ≡ 8
FitsPin (Some hash) retries = (length hash ≡ 16) × (retries ≤ 8)
