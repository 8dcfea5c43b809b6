-- The first option of a name, and the ids of a list, as they are lent.
use Rattle.std.proofs.Common.{◌≡◌, ℕ, List, [], ◌∷◌, map, Bool, Some, None, refl, sym, ap, ◌∙◌, arith, Bor}
use Rattle.std.specs.Prelude.{Option, find, option_map}
use Rattle.std.specs.List.{list_any}
use Rattle.std.specs.Str.{bytes_eq}
use Rattle.std.proofs.lemmas.Grind.{common_steps}
use Rattle.ctap_open_requests.specs.Limits.{value_of}

find_mapped : {X Y : Type 0} (v : X → Y) (p : Y → Bool) (xs : List X) → find p (map v xs) ≡ option_map v (find (λ x. p (v x)) xs)
find_mapped v p [] = refl
find_mapped v p (x ∷ xs) = grind (arith, common_steps, find_mapped v p xs)

seen : (o : Option (Bor (Bor (List ℕ) × Bool))) → option_map (λ (e : Bor (Bor (List ℕ) × Bool)). e.now.1) o
    ≡ option_map (λ (e : List ℕ × Bool). e.1) (option_map (λ (e : Bor (List ℕ) × Bool). (e.0.now, e.1)) (option_map (λ (e : Bor (Bor (List ℕ) × Bool)). e.now) o))
seen (Some e) = refl
seen None = refl

pub value_is : (name : List ℕ) (xs : List (Bor (List ℕ) × Bool)) (o : Option (Bor (Bor (List ℕ) × Bool))) → option_map (λ e. e.now) o ≡ find (λ e. bytes_eq e.0.now name) xs
    → option_map (λ e. e.now.1) o ≡ value_of name (map (λ e. (e.0.now, e.1)) xs)
value_is name xs o is =
    seen o ∙ ap (λ (f : Option (Bor (List ℕ) × Bool)). option_map (λ (e : List ℕ × Bool). e.1) (option_map (λ (e : Bor (List ℕ) × Bool). (e.0.now, e.1)) f)) is
    ∙ sym (ap (option_map (λ (e : List ℕ × Bool). e.1)) (find_mapped (λ (e : Bor (List ℕ) × Bool). (e.0.now, e.1)) (λ (e : List ℕ × Bool). bytes_eq e.0 name) xs))

pub any_lent : (p : List ℕ → Bool) (xs : List (Bor (List ℕ))) → list_any p (map (λ b. b.now) xs) ≡ list_any (λ b. p b.now) xs
any_lent p [] = refl
any_lent p (x ∷ xs) = rw (any_lent p xs) refl
