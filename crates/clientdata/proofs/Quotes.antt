-- Quoted texts, as they are written, and bytes that are no text.
use Rattle.std.proofs.Common.{◌≡◌, ℕ, List, [], ◌∷◌, ◌++◌, Bool, true, false, ◌&&◌, append_assoc, refl, IsUtf8}
use Rattle.std.specs.Prelude.{chars, flat_map}
use Rattle.std.specs.Str.{is_utf8}
use Rattle.std.proofs.lemmas.Str.{IsUtf8-from_is_utf8}
use Rattle.clientdata.specs.Quoted.{escaped, quoted}

-- a quoted text ends after its code points
pub quoted_ends : (old text inner cs : List ℕ) → text ≡ old ++ 34 ∷ flat_map escaped cs → cs ≡ chars inner → text ++ 34 ∷ [] ≡ old ++ quoted inner
unfolding quoted
quoted_ends old text inner cs e same = rw (e, same) (append_assoc old (34 ∷ flat_map escaped (chars inner)) (34 ∷ []))

-- a test that fails fails both
both_fail : (a b : Bool) → (b ≡ true → ⊥) → (a && b) ≡ false
both_fail true true untrue = absurd (untrue refl)
both_fail true false untrue = refl
both_fail false b untrue = refl

pub not_utf8 : (a : Bool) (bytes : List ℕ) → (IsUtf8 bytes → ⊥) → (a && is_utf8 bytes) ≡ false
not_utf8 a bytes broken = both_fail a (is_utf8 bytes) (λ e. broken (IsUtf8-from_is_utf8 bytes e))
