-- Bytes that differ, gathered.
use Rattle.std.proofs.Common.{◌≡◌, ◌<◌, ◌≤◌, ◌+◌, ℕ, suc, List, [], ◌∷◌, ◌++◌, length, take, get_or, eqb, refl, sym, ap, subst, ◌∙◌, arith, add-one}
use Rattle.std.specs.Int.Bits.{bit_or, bit_xor, xor_self, xor_add_and, or_zero_l}
use Rattle.std.specs.Str.{bytes_eq}
use Rattle.std.proofs.Math.Seq.{take-suc}
use Rattle.std.proofs.lemmas.Bool.{eqb-true, eq-eqb}
use Rattle.std.proofs.lemmas.List.{take_all}
use Rattle.std.proofs.lemmas.Bool.Decides.{same_from_decides}
use Rattle.std.proofs.lemmas.Nat.{and_le_l, and_le_r, le_or_l, le_or_r}
use Rattle.std.proofs.lemmas.Slice.Eq.{bytes_eq-Decides}

xor_same : (a b : ℕ) → bit_xor a b ≡ 0 → a ≡ b
xor_same a b e = omega (arith, xor_add_and a b, and_le_l a b, and_le_r a b)

-- the gathered differences of the first bytes are none exactly where these are the same
pub record Gathers (d : ℕ) (left right : List ℕ) (n : ℕ) : Type 0 where
  pub same : d ≡ 0 → take n left ≡ take n right
  pub none : take n left ≡ take n right → d ≡ 0

last_of : (xs ys : List ℕ) (a b : ℕ) → xs ++ a ∷ [] ≡ ys ++ b ∷ [] → (xs ≡ ys) × (a ≡ b)
last_of [] [] a b e = (refl, cc)
last_of [] (y ∷ []) a b e = absurd cc
last_of [] (y ∷ z ∷ ys) a b e = absurd cc
last_of (x ∷ []) [] a b e = absurd cc
last_of (x ∷ z ∷ xs) [] a b e = absurd cc
last_of (x ∷ xs) (y ∷ ys) a b e =
    let tails : xs ++ a ∷ [] ≡ ys ++ b ∷ [] = cc in
    let heads : x ≡ y = cc in
    let rest = last_of xs ys a b tails in
    let first = rest.0 in
    (cc, rest.1)

gathers_suc : (d : ℕ) (left right : List ℕ) (n : ℕ) → n < length left → n < length right → Gathers d left right n
    → Gathers (bit_or d (bit_xor (get_or left n 0) (get_or right n 0))) left right (suc n)
gathers_suc d left right n l r g =
    let a = get_or left n 0 in
    let b = get_or right n 0 in
    let x = bit_xor a b in
    let el : take (suc n) left ≡ take n left ++ (a ∷ []) = take-suc left n 0 l in
    let er : take (suc n) right ≡ take n right ++ (b ∷ []) = take-suc right n 0 r in
    record {
      same = λ e.
          let d_none : d ≡ 0 = omega (arith, le_or_l d x) in
          let x_none : x ≡ 0 = omega (arith, le_or_r d x) in
          let front = g.same d_none in
          let one = xor_same a b x_none in
          el ∙ ap (λ (t : List ℕ). t ++ (a ∷ [])) front ∙ ap (λ (k : ℕ). take n right ++ (k ∷ [])) one ∙ sym er;
      none = λ e.
          let parts = last_of (take n left) (take n right) a b (sym el ∙ e ∙ er) in
          let d_none = g.none parts.0 in
          let x_none : x ≡ 0 = ap (λ (k : ℕ). bit_xor a k) (sym parts.1) ∙ xor_self a in
          ap (λ (k : ℕ). bit_or k x) d_none ∙ or_zero_l x ∙ x_none;
    }

pub gathers_next : (d : ℕ) (left right : List ℕ) (n m : ℕ) → n < length left → n < length right → m ≡ n + 1 → Gathers d left right n
    → Gathers (bit_or d (bit_xor (get_or left n 0) (get_or right n 0))) left right m
gathers_next d left right n m l r e g = subst (λ (k : ℕ). Gathers (bit_or d (bit_xor (get_or left n 0) (get_or right n 0))) left right k) (sym (e ∙ add-one n)) (gathers_suc d left right n l r g)

pub gathers_all : (d : ℕ) (left right : List ℕ) (n : ℕ) → length left ≤ n → length right ≤ n → Gathers d left right n → eqb d 0 ≡ bytes_eq left right
gathers_all d left right n l r g =
    let el : take n left ≡ left = take_all n left l in
    let er : take n right ≡ right = take_all n right r in
    same_from_decides (eqb d 0) (bytes_eq left right)
    ((λ e. sym el ∙ g.same (eqb-true d 0 e) ∙ er), (λ e. eq-eqb d 0 (g.none (el ∙ e ∙ sym er))))
    (bytes_eq-Decides left right)
