-- Lists of numbers that are bytes.
use Rattle.std.proofs.Common.{ℕ, suc, zero, ◌<◌, ◌^◌, List, [], ◌∷◌, ◌++◌, arith, slice_index}
use Rattle.std.specs.Prelude.{replicate}
use Rattle.std.specs.Int.{w16, w32, to_be_bytes}

-- each of these numbers is a byte
abbrev pub AreBytes : List ℕ → Type 0
AreBytes xs = (k : ℕ) → slice_index xs k < 256

pub bytes-append : (xs ys : List ℕ) → AreBytes xs → AreBytes ys → AreBytes (xs ++ ys)
bytes-append [] ys h g k = g k
bytes-append (x ∷ xs) ys h g zero = h zero
bytes-append (x ∷ xs) ys h g (suc k) = bytes-append xs ys (λ i. h (suc i)) g k

pub bytes-cons : (x : ℕ) (xs : List ℕ) → x < 256 → AreBytes xs → AreBytes (x ∷ xs)
bytes-cons x xs h g zero = h
bytes-cons x xs h g (suc k) = g k

pub bytes_zeros : (n : ℕ) → AreBytes (replicate n 0)
bytes_zeros zero k = omega arith
bytes_zeros (suc n) zero = omega arith
bytes_zeros (suc n) (suc k) = bytes_zeros n k

pub bytes_of_32 : (c : ℕ) → c < 2 ^ 32 → AreBytes (to_be_bytes w32 c)
bytes_of_32 c h zero = omega arith
bytes_of_32 c h (suc zero) = omega arith
bytes_of_32 c h (suc (suc zero)) = omega arith
bytes_of_32 c h (suc (suc (suc zero))) = omega arith
bytes_of_32 c h (suc (suc (suc (suc k)))) = omega arith

pub bytes_of_16 : (n : ℕ) → n < 2 ^ 16 → AreBytes (to_be_bytes w16 n)
bytes_of_16 n h zero = omega arith
bytes_of_16 n h (suc zero) = omega arith
bytes_of_16 n h (suc (suc k)) = omega arith
