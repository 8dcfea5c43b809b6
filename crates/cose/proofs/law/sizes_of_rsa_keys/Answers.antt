-- What is owed of `sizes_of_rsa_keys`.
use Rattle.std.proofs.Common.{◌≡◌, ◌≤◌, ◌%◌, ◌∷◌, [], ℕ, Contains, ◌⊎◌, inl, inr, sym, arith}
use Rattle.cose.proofs.law.sizes_of_rsa_keys.Goals as goal

which : (l : ℕ) → 256 ≤ l → l ≤ 512 → l % 128 ≡ 0 → (l ≡ 256) ⊎ ((l ≡ 384) ⊎ (l ≡ 512))
which l low high even = grind arith

named : (l : ℕ) → (l ≡ 256) ⊎ ((l ≡ 384) ⊎ (l ≡ 512)) → Contains (256 ∷ 384 ∷ 512 ∷ []) l
named l (inl e) = (0, omega arith, sym e)
named l (inr (inl e)) = (1, omega arith, sym e)
named l (inr (inr e)) = (2, omega arith, sym e)

three : (l : ℕ) → Contains (256 ∷ 384 ∷ 512 ∷ []) l → (256 ≤ l) × (l ≤ 512) × (l % 128 ≡ 0)
three l h = grind arith

counted : (l : ℕ) → 1 ≤ l → l ≤ 4 → (l ≡ 1) ⊎ ((l ≡ 2) ⊎ ((l ≡ 3) ⊎ (l ≡ 4)))
counted l low high = grind arith

one_of_four : (l : ℕ) → (l ≡ 1) ⊎ ((l ≡ 2) ⊎ ((l ≡ 3) ⊎ (l ≡ 4))) → Contains (1 ∷ 2 ∷ 3 ∷ 4 ∷ []) l
one_of_four l (inl e) = (0, omega arith, sym e)
one_of_four l (inr (inl e)) = (1, omega arith, sym e)
one_of_four l (inr (inr (inl e))) = (2, omega arith, sym e)
one_of_four l (inr (inr (inr e))) = (3, omega arith, sym e)

four : (l : ℕ) → Contains (1 ∷ 2 ∷ 3 ∷ 4 ∷ []) l → (1 ≤ l) × (l ≤ 4)
four l h = grind arith

pub returns-clause-moduli : goal.returns-clause-moduli
returns-clause-moduli c = λ n. (
  λ h. (named _ (which _ h.0 h.1 h.2), h.3, h.4.1),
  λ h. let l = three _ h.0 in (l.0, l.1, l.2, h.1, (omega (arith, h.1), h.2)),
)

pub returns-clause-exponents : goal.returns-clause-exponents
returns-clause-exponents c = λ e. (
  λ h. (one_of_four _ (counted _ h.0 h.1), h.2.0, h.2.1, h.3),
  λ h. let l = four _ h.0 in (l.0, l.1, (h.1, h.2), h.3),
)
