-- Texts of ASCII are UTF-8.
use Rattle.std.proofs.Common.{◌≡◌, ◌<◌, ◌&&◌, ℕ, List, [], ◌∷◌, Bool, true, false, refl, arith, IsUtf8, nat_lt}
use Rattle.std.specs.Prelude.{slice_index, zero, suc}
use Rattle.std.specs.List.{list_all}
use Rattle.std.proofs.lemmas.Bool.{ltb-true}
use Rattle.std.proofs.lemmas.Str.{IsUtf8-from_ascii}

pub and_left : (a b : Bool) → (a && b) ≡ true → a ≡ true
and_left true b e = refl
and_left false b e = absurd cc

pub and_right : (a b : Bool) → (a && b) ≡ true → b ≡ true
and_right true b e = e
and_right false b e = absurd cc

below : (bs : List ℕ) → list_all (λ b. nat_lt b 128) bs ≡ true → (i : ℕ) → slice_index bs i < 128
below [] e i = omega arith
below (x ∷ xs) e zero = ltb-true x 128 (and_left (nat_lt x 128) _ e)
below (x ∷ xs) e (suc i) = below xs (and_right (nat_lt x 128) _ e) i

pub plain : (bs : List ℕ) → list_all (λ b. nat_lt b 128) bs ≡ true → IsUtf8 bs
plain bs e = IsUtf8-from_ascii bs (below bs e)
