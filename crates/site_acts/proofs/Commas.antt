-- Transports as one text: with one more.
use Rattle.std.proofs.Common.{◌≡◌, ◌++◌, ◌∷◌, [], ℕ, List, map, ap, refl, ◌∙◌}
use Rattle.site_acts.specs.Joined.{joined, joined_on, with_comma}

more_on : (text : List ℕ) (ts : List (List ℕ)) (t : List ℕ) → joined_on text (ts ++ t ∷ []) ≡ with_comma (joined_on text ts) ++ t
more_on text [] t = refl
more_on text (s ∷ ts) t = more_on (with_comma text ++ s) ts t

pub map_on : {A B : Type 0} (f : A → B) (xs : List A) (x : A) → map f (xs ++ x ∷ []) ≡ map f xs ++ f x ∷ []
map_on f [] x = refl
map_on f (y ∷ xs) x = ap (λ l. f y ∷ l) (map_on f xs x)

pub joined_more : {T : Type 0} (text_of : T → List ℕ) (ts : List T) (t : T) → joined (map text_of (ts ++ t ∷ [])) ≡ with_comma (joined (map text_of ts)) ++ text_of t
joined_more text_of ts t = ap joined (map_on text_of ts t) ∙ more_on [] (map text_of ts) (text_of t)
