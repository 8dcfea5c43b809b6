-- Elements of a list that a search meets.
use Rattle.std.proofs.Common.{◌≡◌, ◌≢◌, ◌<◌, ◌≤◌, ℕ, List, length, Contains, slice_index_or, map, arith, sym, subst, ap, refl, ◌∙◌, ◌+◌, inl, inr}
use Rattle.std.proofs.lemmas.Bool.{cases_lt}
use Rattle.std.proofs.lemmas.List.{get_or_default, length-map, get_or-map}

-- an element that was met is in the list, and what it shows among what the elements show
pub listed : {X : Type 0} (xs : List X) (i : ℕ) (x y : X) → i < length xs → x ≡ slice_index_or xs i x → x ≡ y → Contains xs y
listed xs i x y lt is same = subst (Contains xs) same (i, lt, sym is)

pub met : {X Y : Type 0} (f : X → Y) (xs : List X) (i : ℕ) (x : X) (y : Y) → i < length xs → x ≡ slice_index_or xs i x → f x ≡ y → Contains (map f xs) y
met f xs i x y lt is same =
    let l = length-map xs f in
    (i, omega arith, get_or-map f xs i x y lt ∙ ap f (sym is) ∙ same)

-- a search that met none, and not the next either
pub none_yet : {X : Type 0} (P : X → Type 0) (xs : List X) (n : ℕ) (x : X) → n < length xs → x ≡ slice_index_or xs n x → (P x → ⊥)
    → ((k : ℕ) (d : X) → k < n → P (slice_index_or xs k d) → ⊥) → (k : ℕ) (d : X) → k < n + 1 → P (slice_index_or xs k d) → ⊥
none_yet P xs n x there is other none k d lt h = elim (cases_lt k n) [
  | inl before ↦ none k d before h
  | inr behind ↦
      let here : k ≡ n = omega arith in
      other (subst P (sym (is ∙ get_or_default xs n x d there)) (subst (λ i. P (slice_index_or xs i d)) here h))
]

-- a search over all elements that met none shows that there is none
pub none_such : {X : Type 0} (P : X → Type 0) (xs : List X) (n : ℕ) (y : X) → length xs ≤ n → ((k : ℕ) (d : X) → k < n → P (slice_index_or xs k d) → ⊥)
    → Contains xs y → P y → ⊥
none_such P xs n y all none (k, lt, e) h = none k y (omega arith) (subst P (sym e) h)

pub none_listed : {X : Type 0} (xs : List X) (n : ℕ) (y : X) → length xs ≤ n → ((k : ℕ) (d : X) → k < n → slice_index_or xs k d ≢ y) → Contains xs y → ⊥
none_listed xs n y all none there = none_such (λ x. x ≡ y) xs n y all none there refl
