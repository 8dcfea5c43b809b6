-- Lists of packets.
use Rattle.std.proofs.Common.{◌≡◌, Bool, true, cond, List, [], ◌∷◌, ◌++◌, length, take, map, filter, refl, ◌∙◌, ap}
use Rattle.std.specs.List.{AllByRecursion}

-- what all pass is not thinned out
pub all_pass : {X : Type 0} (test : X → Bool) (xs : List X) → AllByRecursion (λ x. test x ≡ true) xs → filter test xs ≡ xs
all_pass test [] h = refl
all_pass test (x ∷ xs) h = ap (λ b. cond b (x ∷ filter test xs) (filter test xs)) h.0 ∙ ap (λ ys. x ∷ ys) (all_pass test xs h.1)

-- of images
pub all_mapped : {X Y : Type 0} (f : X → Y) (P : Y → Type 0) (xs : List X) → AllByRecursion P (map f xs) → AllByRecursion (λ x. P (f x)) xs
all_mapped f P [] h = tt
all_mapped f P (x ∷ xs) h = (h.0, all_mapped f P xs h.1)

-- the last of a list
pub record Last {X : Type 0} (P : X → Type 0) (xs : List X) : Type 0 where
  pub before : List X
  pub last : X
  pub ends : xs ≡ before ++ last ∷ []
  pub has : P last

pub last_of : {X : Type 0} (P : X → Type 0) (x : X) (xs : List X) → AllByRecursion P (x ∷ xs) → Last P (x ∷ xs)
last_of P x [] h = record { before = []; last = x; ends = refl; has = h.0 }
last_of P x (y ∷ xs) h =
    let l = last_of P y xs h.1 in
    record { before = x ∷ l.before; last = l.last; ends = ap (λ ys. x ∷ ys) l.ends; has = l.has }

pub all_taken : {X : Type 0} (xs : List X) → take (length xs) xs ≡ xs
all_taken [] = refl
all_taken (x ∷ xs) = ap (λ ys. x ∷ ys) (all_taken xs)
