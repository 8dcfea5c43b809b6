-- The first answer among those that were kept.
use Rattle.std.proofs.Common.{◌≡◌, ℕ, List, [], ◌∷◌, map, Bool, Some, None, refl, sym, ap, ◌∙◌, arith, Bor, Vec, Global}
use Rattle.std.specs.Prelude.{Option, find, option_map}
use Rattle.std.proofs.lemmas.Grind.{common_steps}
use Rattle.pin_protocols.specs.declared.ask.Ask.{Ask}
use Rattle.pin_protocols.specs.Asks.{Asked, answer_of, ask_view, is_asked, listed}

find_mapped : {X Y : Type 0} (v : X → Y) (p : Y → Bool) (xs : List X) → find p (map v xs) ≡ option_map v (find (λ x. p (v x)) xs)
find_mapped v p [] = refl
find_mapped v p (x ∷ xs) = grind (arith, common_steps, find_mapped v p xs)

seen : (o : Option (Bor (Ask × Vec ℕ Global))) → option_map (λ (e : Bor (Ask × Vec ℕ Global)). e.now.1.items) o
    ≡ option_map (λ (e : Asked × List ℕ). e.1) (option_map (λ (e : Ask × Vec ℕ Global). (ask_view e.0, e.1.items)) (option_map (λ (e : Bor (Ask × Vec ℕ Global)). e.now) o))
seen (Some e) = refl
seen None = refl

pub answer_is : (a : Asked) (xs : List (Ask × Vec ℕ Global)) (o : Option (Bor (Ask × Vec ℕ Global))) → option_map (λ e. e.now) o ≡ find (λ e. is_asked a (ask_view e.0)) xs
    → option_map (λ e. e.now.1.items) o ≡ answer_of (listed xs) a
answer_is a xs o is =
    seen o ∙ ap (λ (f : Option (Ask × Vec ℕ Global)). option_map (λ (e : Asked × List ℕ). e.1) (option_map (λ (e : Ask × Vec ℕ Global). (ask_view e.0, e.1.items)) f)) is
    ∙ sym (ap (option_map (λ (e : Asked × List ℕ). e.1)) (find_mapped (λ (e : Ask × Vec ℕ Global). (ask_view e.0, e.1.items)) (λ (e : Asked × List ℕ). is_asked a e.0) xs))
