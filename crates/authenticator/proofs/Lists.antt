-- Lists that others are the images of.
use Rattle.std.proofs.Common.{◌≡◌, ◌<◌, ℕ, List, [], ◌∷◌, ◌++◌, Bool, true, Option, Some, None, map, refl, ap, ◌∙◌, arith, length}
use Rattle.std.specs.Prelude.{find, filter, option_map, remove, IfSome, Result, Ok, Err, OnOk}
use Rattle.std.specs.List.{list_any}
use Rattle.std.proofs.lemmas.Grind.{common_steps}
use Rattle.std.proofs.lemmas.List.Edits.{remove-append_left}
use Rattle.authenticator.specs.Private.{without}

pub map_mapped : {X Y Z : Type 0} (f : Y → Z) (v : X → Y) (xs : List X) → map f (map v xs) ≡ map (λ x. f (v x)) xs
map_mapped f v [] = refl
map_mapped f v (x ∷ xs) = ap (λ ys. f (v x) ∷ ys) (map_mapped f v xs)

pub find_mapped : {X Y : Type 0} (v : X → Y) (p : Y → Bool) (xs : List X) → find p (map v xs) ≡ option_map v (find (λ x. p (v x)) xs)
find_mapped v p [] = refl
find_mapped v p (x ∷ xs) = grind (arith, common_steps, find_mapped v p xs)

pub any_mapped : {X Y : Type 0} (v : X → Y) (p : Y → Bool) (xs : List X) → list_any p (map v xs) ≡ list_any (λ x. p (v x)) xs
any_mapped v p [] = refl
any_mapped v p (x ∷ xs) = rw (any_mapped v p xs) refl

pub filter_mapped : {X Y : Type 0} (v : X → Y) (p : Y → Bool) (xs : List X) → filter p (map v xs) ≡ map v (filter (λ x. p (v x)) xs)
filter_mapped v p [] = refl
filter_mapped v p (x ∷ xs) = grind (arith, common_steps, filter_mapped v p xs)

pub option_map_map : {X Y Z : Type 0} (f : Y → Z) (g : X → Y) (o : Option X) → option_map f (option_map g o) ≡ option_map (λ x. f (g x)) o
option_map_map f g None = refl
option_map_map f g (Some x) = refl

-- what is found passes the test
pub find_passes : {X : Type 0} (p : X → Bool) (xs : List X) (y : X) → find p xs ≡ Some y → p y ≡ true
find_passes p [] y e = absurd cc
find_passes p (x ∷ xs) y e = grind (arith, common_steps, e, find_passes p xs y)

pub removed_behind : {X : Type 0} (o : Option ℕ) (i : ℕ) (xs ys zs : List X) (y : X) → o ≡ Some i → IfSome o (λ k. k < length xs)
    → ys ≡ xs ++ y ∷ [] → zs ≡ remove ys i
    → zs ≡ without xs o ++ y ∷ []
removed_behind o i xs ys zs y is lt pushed removed =
    rw is (removed ∙ ap (λ l. remove l i) pushed ∙ remove-append_left xs (y ∷ []) i (rw is at lt))

pub on_ok : {T E : Type 0} (r : Result T E) (P Q : Type 0) → (P → Q) → OnOk r P → OnOk r Q
on_ok (Ok x) P Q f h = f h
on_ok (Err e) P Q f h = tt
