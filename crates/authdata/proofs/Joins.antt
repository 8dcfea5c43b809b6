-- Bytes as the parts that they were cut into.
use Rattle.std.proofs.Common.{◌≡◌, ℕ, ◌+◌, ◌-◌, ◌≤◌, List, ◌∷◌, ◌++◌, length, take, drop, sym, ap, subst, ◌∙◌, append_assoc, arith}
use Rattle.std.specs.Int.{w16, w32, from_be_bytes, to_be_bytes}
use Rattle.std.proofs.lemmas.List.{take-append-drop, drop-drop, length-take, length-drop, take_all}
use Rattle.std.proofs.lemmas.Nat.{be_bytes_2, be_bytes_4}
use Rattle.ccbor.proofs.Numbers.{IsBytes, IsBytes-drop, IsBytes-take}
use Rattle.authdata.specs.Refusals.{id_len_in}

-- from k on: m bytes, and the rest
cut : (k m : ℕ) (bs : List ℕ) → drop k bs ≡ take m (drop k bs) ++ drop (k + m) bs
cut k m bs = sym (take-append-drop m (drop k bs)) ∙ ap (λ (l : List ℕ). take m (drop k bs) ++ l) (drop-drop m k bs)

pub after_37 : (bs r1 r2 r3 : List ℕ) (f : ℕ) → r1 ≡ drop 32 bs → r1 ≡ f ∷ r2 → r3 ≡ drop 4 r2 → r3 ≡ drop 37 bs
after_37 bs r1 r2 r3 f e1 e2 e3 = e3 ∙ ap (drop 5) (sym e2 ∙ e1) ∙ drop-drop 5 32 bs

rest_bytes : (bs r1 r2 : List ℕ) (f : ℕ) → IsBytes bs → r1 ≡ drop 32 bs → r1 ≡ f ∷ r2 → IsBytes r2
rest_bytes bs r1 r2 f fits e1 e2 = let e : drop 33 bs ≡ r2 = sym (drop-drop 1 32 bs) ∙ ap (drop 1) (sym e1 ∙ e2) in
    subst (λ (l : List ℕ). IsBytes l) e (IsBytes-drop 33 bs fits)

pub fixed_parts : (bs hash r1 r2 four r3 : List ℕ) (f n : ℕ) → IsBytes bs → length r3 + 4 ≡ length r2 → hash ≡ take 32 bs → r1 ≡ drop 32 bs → r1 ≡ f ∷ r2
    → four ≡ take 4 r2 → r3 ≡ drop 4 r2
    → n ≡ from_be_bytes w32 four → bs ≡ hash ++ (f ∷ (to_be_bytes w32 n ++ r3))
fixed_parts bs hash r1 r2 four r3 f n fits len e1 e2 e3 e4 e5 e6 =
    let four_long : length four ≡ 4 = ap length e4 ∙ omega (arith, length-take 4 r2) in
    let four_fits : IsBytes four = subst (λ (l : List ℕ). IsBytes l) (sym e4) (IsBytes-take 4 r2 (rest_bytes bs r1 r2 f fits e2 e3)) in
    let back : to_be_bytes w32 n ≡ four = be_bytes_4 four n four_long four_fits e6 in
    let two : r2 ≡ four ++ r3 = sym (take-append-drop 4 r2) ∙ ap (λ (l : List ℕ). l ++ drop 4 r2) (sym e4) ∙ ap (λ (l : List ℕ). four ++ l) (sym e5) in
    let one : bs ≡ hash ++ r1 = sym (take-append-drop 32 bs) ∙ ap (λ (l : List ℕ). l ++ drop 32 bs) (sym e1) ∙ ap (λ (l : List ℕ). hash ++ l) (sym e2) in
    one ∙ ap (λ (l : List ℕ). hash ++ l) (e3 ∙ ap (λ (l : List ℕ). f ∷ l) (two ∙ ap (λ (l : List ℕ). l ++ r3) (sym back)))

joined : (a b c d r w x y z : List ℕ) → w ≡ a ++ x → x ≡ b ++ y → y ≡ c ++ z → z ≡ d ++ r → w ≡ (a ++ (b ++ (c ++ d))) ++ r
joined a b c d r w x y z p q s t = p ∙ ap (λ (l : List ℕ). a ++ l) (q ∙ ap (λ (l : List ℕ). b ++ l) (s ∙ ap (λ (l : List ℕ). c ++ l) t)) ∙ simp append_assoc

pub credential_parts : (bs aaguid id key rest : List ℕ) (n : ℕ) → IsBytes bs → 55 + n ≤ length bs → n ≡ id_len_in bs → aaguid ≡ take 16 (drop 37 bs)
    → id ≡ take n (drop 55 bs)
    → drop (55 + n) bs ≡ key ++ rest → drop 37 bs ≡ (aaguid ++ (to_be_bytes w16 (length id) ++ (id ++ key))) ++ rest
credential_parts bs aaguid id key rest n fits le is e1 e2 e3 =
    let len : length id ≡ n = ap length e2 ∙ omega (arith, length-take n (drop 55 bs), length-drop 55 bs) in
    let two : length (take 2 (drop 53 bs)) ≡ 2 = omega (arith, length-take 2 (drop 53 bs), length-drop 53 bs) in
    let back : to_be_bytes w16 (length id) ≡ take 2 (drop 53 bs) =
    be_bytes_2 (take 2 (drop 53 bs)) (length id) two (IsBytes-take 2 (drop 53 bs) (IsBytes-drop 53 bs fits)) (len ∙ is) in
    joined aaguid (to_be_bytes w16 (length id)) id key rest (drop 37 bs) (drop 53 bs) (drop 55 bs) (drop (55 + n) bs)
    (cut 37 16 bs ∙ ap (λ (l : List ℕ). l ++ drop 53 bs) (sym e1))
    (cut 53 2 bs ∙ ap (λ (l : List ℕ). l ++ drop 55 bs) (sym back))
    (cut 55 n bs ∙ ap (λ (l : List ℕ). l ++ drop (55 + n) bs) (sym e2))
    e3

pub to_the_end : (k : ℕ) (bs : List ℕ) → take (length bs - k) (drop k bs) ≡ drop k bs
to_the_end k bs = take_all (length bs - k) (drop k bs) (omega (arith, length-drop k bs))
