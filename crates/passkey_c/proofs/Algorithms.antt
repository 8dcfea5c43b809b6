-- The algorithm of a number.
use Rattle.std.proofs.Common.{◌≡◌, ◌≢◌, ℕ, ℤ, negsuc, pos, Some, None, refl, subst, ap, sym, arith}
use Rattle.cose.specs.Keys.{number_of}
use Rattle.cose.specs.declared.key.Alg.{Alg}
use Rattle.cose.specs.declared.key.Alg.TheVariants as algs
use Rattle.passkey_c.specs.Parts.{alg_in}

alg_of_number : (alg : Alg) → alg_in (number_of alg) ≡ Some alg
alg_of_number algs.Es256 = refl
alg_of_number algs.EdDsa = refl
alg_of_number algs.Rs256 = refl

pub known_alg : (number : ℤ) (alg : Alg) → number_of alg ≡ number → Some alg ≡ alg_in number
known_alg number alg e = subst (λ n. Some alg ≡ alg_in n) e (sym (alg_of_number alg))

other_number : (n : ℕ) → n ≢ 6 → n ≢ 7 → n ≢ 256 → None ≡ alg_in (negsuc n)
other_number n a b c = grind arith

pub unknown_alg : (number : ℤ) → ((alg : Alg) → number_of alg ≡ number → ⊥) → None ≡ alg_in number
unknown_alg (pos n) none = refl
unknown_alg (negsuc n) none = other_number n (λ e. none algs.Es256 (ap negsuc (sym e))) (λ e. none algs.EdDsa (ap negsuc (sym e)))
    (λ e. none algs.Rs256 (ap negsuc (sym e)))
