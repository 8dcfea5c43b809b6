-- A store that is not broken is clean.
use Rattle.std.proofs.Common.{◌≡◌, Bool, true, false, IsTrue, refl}
use Rattle.sqlite_trees.specs.View.{View, IsClean}
use Rattle.sqlite_trees.proofs.Doubt.{no_doubt}

pub clean_if_sound : (v : View) → (v.is_clean ≡ false → v.is_open ≡ false) → (v.is_open ≡ false → IsTrue v.is_broken) → v.is_broken ≡ false → IsClean v
clean_if_sound v dirty shut sound = go v.is_clean refl
  where
    go : (b : Bool) → v.is_clean ≡ b → IsClean v
    go true e = no_doubt v.is_clean e
    go false e = let broken = shut (dirty e) in absurd cc
