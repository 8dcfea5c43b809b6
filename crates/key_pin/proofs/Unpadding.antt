-- Zeros at an end.
use Rattle.std.proofs.Common.{◌≡◌, ◌≢◌, ℕ, zero, suc, List, [], ◌∷◌, ◌++◌, refl, ap, ◌∙◌}
use Rattle.key_pin.specs.Pins.{unpadded, without_zero}

pub strip : (xs : List ℕ) → unpadded (xs ++ 0 ∷ []) ≡ unpadded xs
strip [] = refl
strip (x ∷ xs) = ap (without_zero x) (strip xs)

before : (x y : ℕ) (ys : List ℕ) → without_zero x (y ∷ ys) ≡ x ∷ y ∷ ys
before zero y ys = refl
before (suc x) y ys = refl

before_last : (x : ℕ) (xs : List ℕ) (b : ℕ) → without_zero x (xs ++ b ∷ []) ≡ x ∷ (xs ++ b ∷ [])
before_last x [] b = before x b []
before_last x (y ∷ ys) b = before x y (ys ++ b ∷ [])

pub keeps : (xs : List ℕ) (b : ℕ) → b ≢ 0 → unpadded (xs ++ b ∷ []) ≡ xs ++ b ∷ []
keeps [] zero ne = absurd (ne refl)
keeps [] (suc b) ne = refl
keeps (x ∷ xs) b ne = ap (without_zero x) (keeps xs b ne) ∙ before_last x xs b
