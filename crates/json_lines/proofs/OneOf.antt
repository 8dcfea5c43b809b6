-- A name among names.
use Rattle.std.proofs.Common.{◌≡◌, ◌<◌, ◌+◌, ℕ, zero, suc, List, [], ◌∷◌, length, get_or, map, take, Bor, sym, subst, inl, inr, arith}
use Rattle.json_lines.specs.Faults.{IsOneOf}

pub one_at : (ns : List (Bor (List ℕ))) (i : ℕ) (d : Bor (List ℕ)) (name : List ℕ) → i < length ns → (get_or ns i d).now ≡ name
    → IsOneOf (map (λ b. b.now) ns) name
one_at [] i d name below same = absurd (omega arith)
one_at (x ∷ ns) zero d name below same = inl (sym same)
one_at (x ∷ ns) (suc i) d name below same = inr (one_at ns i d name (omega arith) same)

first_or : (x : Bor (List ℕ)) (ns : List (Bor (List ℕ))) (name : List ℕ) → (IsOneOf (map (λ b. b.now) (x ∷ ns)) name → ⊥) → IsOneOf (map (λ b. b.now) ns) name → ⊥
first_or x ns name none there = none (inr there)

pub none_more : (ns : List (Bor (List ℕ))) (i : ℕ) (d : Bor (List ℕ)) (name : List ℕ) → i < length ns
    → (IsOneOf (map (λ b. b.now) (take i ns)) name → ⊥) → ((get_or ns i d).now ≡ name → ⊥) → IsOneOf (map (λ b. b.now) (take (i + 1) ns)) name → ⊥
none_more [] i d name below none other found = absurd (omega arith)
none_more (x ∷ ns) zero d name below none other (inl found) = other (sym found)
none_more (x ∷ ns) zero d name below none other (inr never) = never
none_more (x ∷ ns) (suc i) d name below none other found =
    let rest = none_more ns i d name (omega arith) (first_or x (take i ns) name none) other in
    split (subst (λ k. IsOneOf (map (λ b. b.now) (take k (x ∷ ns))) name) next found) none rest
  where
    next : suc i + 1 ≡ suc (i + 1)
    next = omega arith

    split : IsOneOf (map (λ b. b.now) (take (suc (i + 1)) (x ∷ ns))) name → (IsOneOf (map (λ b. b.now) (take (suc i) (x ∷ ns))) name → ⊥)
        → (IsOneOf (map (λ b. b.now) (take (i + 1) ns)) name → ⊥) → ⊥
    split (inl here) front rest = front (inl here)
    split (inr there) front rest = rest there
