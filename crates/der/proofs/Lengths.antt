-- A length that is read is in its fewest octets, and a length that was written is read again.
use Rattle.std.proofs.Common.{◌≡◌, ℕ, suc, ◌+◌, ◌*◌, ◌/◌, ◌%◌, ◌^◌, ◌<◌, ◌≤◌, false, cond, ltb, eqb, List, [], ◌∷◌, ◌++◌}
use Rattle.std.proofs.Common.{length, take, drop, Ok, Err, refl, sym, ap, subst, ◌∙◌, append_assoc, arith, inl, inr}
use Rattle.std.proofs.lemmas.Bool.{cases_lt, ltb-true, ltb-false, le-ltb, lt-ltb, eqb-true, eqb-false, ne_eqb}
use Rattle.std.proofs.lemmas.List.{take_at, drop_at, take-append-drop, length-append, length-take}
use Rattle.der.specs.declared.error.Error.TheVariants as errors
use Rattle.der.specs.Encoding.{octets, length_octets}
use Rattle.der.specs.Reading.{Read, ◌>>=◌, octet_at, octets_1_at, octets_2_at, octets_3_at, octets_4_at, long_at, length_at, content_at}
use Rattle.der.proofs.Steps.{IsBytes, IsBytes-drop, IsBytes-rest, bind_ok, ok_is, chosen, guard_ok, Takes, Takes-then, octet_takes}

-- ---- what was read

-- a number of so many octets, within bounds, was at the front
pub record TakesNumber (count low high : ℕ) (bs : List ℕ) (n : ℕ) (rest : List ℕ) : Type 0 where
  pub takes : Takes bs (octets count n) rest
  pub least : low ≤ n
  pub limit : n < high

octets_1_takes : (bs : List ℕ) (x : ℕ × List ℕ) → IsBytes bs → octets_1_at bs ≡ Ok x → TakesNumber 1 0x80 (2 ^ 8) bs x.0 x.1
unfolding octets_1_at
octets_1_takes bs x fits e =
    let a = bind_ok (octet_at bs) (λ n. cond (ltb n.0 0x80) (Err errors.NotShortest) (Ok n)) x e in
    let g = guard_ok (ltb a.0.0 0x80) errors.NotShortest (Ok a.0) x a.2 in
    let t = octet_takes bs a.0 fits a.1 in
    let low : a.0.0 % 256 ≡ a.0.0 = omega (arith, t.1) in
    let same : Takes bs (octets 1 a.0.0) a.0.1 = rw low (t.0) in
    subst (λ (y : ℕ × List ℕ). TakesNumber 1 0x80 (2 ^ 8) bs y.0 y.1) (ok_is a.0 x g.1)
    (record { takes = same; least = ltb-false _ _ g.0; limit = omega (arith, t.1) })

-- one octet more
wider_takes : (count low high : ℕ) (bs : List ℕ) (m : ℕ) (r : List ℕ) (x : ℕ × List ℕ) → TakesNumber count low high bs m r
    → (octet_at r >>= λ l. Ok (256 * m + l.0, l.1)) ≡ Ok x → TakesNumber (suc count) (256 * low) (256 * high) bs x.0 x.1
wider_takes count low high bs m r x h e =
    let a = bind_ok (octet_at r) (λ l. Ok (256 * m + l.0, l.1)) x e in
    let t = octet_takes r a.0 h.takes.rest_fits a.1 in
    let least = h.least in
    let limit = h.limit in
    let small = t.1 in
    let front : (256 * m + a.0.0) / 256 ≡ m = omega (arith, small) in
    let last : (256 * m + a.0.0) % 256 ≡ a.0.0 = omega (arith, small) in
    let both = Takes-then bs (octets count m) r (a.0.0 ∷ []) a.0.1 h.takes t.0 in
    let made : Takes bs (octets (suc count) (256 * m + a.0.0)) a.0.1 = rw (front, last) both in
    subst (λ (y : ℕ × List ℕ). TakesNumber (suc count) (256 * low) (256 * high) bs y.0 y.1) (ok_is (256 * m + a.0.0, a.0.1) x a.2)
    (record { takes = made; least = omega (arith, least); limit = omega (arith, limit, small) })

pub octets_2_takes : (bs : List ℕ) (x : ℕ × List ℕ) → IsBytes bs → octets_2_at bs ≡ Ok x → TakesNumber 2 (2 ^ 8) (2 ^ 16) bs x.0 x.1
unfolding octets_2_at
octets_2_takes bs x fits e =
    let step : ℕ × List ℕ → Read ℕ = λ h. octet_at h.1 >>= λ l. Ok (256 * h.0 + l.0, l.1) in
    let a = bind_ok (octet_at bs) (λ h. cond (eqb h.0 0) (Err errors.NotShortest) (step h)) x e in
    let g = guard_ok (eqb a.0.0 0) errors.NotShortest (step a.0) x a.2 in
    let t = octet_takes bs a.0 fits a.1 in
    let low : a.0.0 % 256 ≡ a.0.0 = omega (arith, t.1) in
    let some : 1 ≤ a.0.0 = omega (arith, eqb-false a.0.0 0 g.0) in
    let same : Takes bs (octets 1 a.0.0) a.0.1 = rw low (t.0) in
    wider_takes 1 1 (2 ^ 8) bs a.0.0 a.0.1 x (record { takes = same; least = some; limit = omega (arith, t.1) }) g.1

pub octets_3_takes : (bs : List ℕ) (x : ℕ × List ℕ) → IsBytes bs → octets_3_at bs ≡ Ok x → TakesNumber 3 (2 ^ 16) (2 ^ 24) bs x.0 x.1
unfolding octets_3_at
octets_3_takes bs x fits e =
    let a = bind_ok (octets_2_at bs) (λ h. octet_at h.1 >>= λ l. Ok (256 * h.0 + l.0, l.1)) x e in
    wider_takes 2 (2 ^ 8) (2 ^ 16) bs a.0.0 a.0.1 x (octets_2_takes bs a.0 fits a.1) a.2

octets_4_takes : (bs : List ℕ) (x : ℕ × List ℕ) → IsBytes bs → octets_4_at bs ≡ Ok x → TakesNumber 4 (2 ^ 24) (2 ^ 32) bs x.0 x.1
unfolding octets_4_at
octets_4_takes bs x fits e =
    let a = bind_ok (octets_3_at bs) (λ h. octet_at h.1 >>= λ l. Ok (256 * h.0 + l.0, l.1)) x e in
    wider_takes 3 (2 ^ 16) (2 ^ 24) bs a.0.0 a.0.1 x (octets_3_takes bs a.0 fits a.1) a.2

-- ---- what was written

octets_1_again : (n : ℕ) (rest : List ℕ) → 0x80 ≤ n → n < 2 ^ 8 → octets_1_at (octets 1 n ++ rest) ≡ Ok (n, rest)
unfolding octets_1_at
octets_1_again n rest le lt =
    let same : n % 256 ≡ n = omega (arith, lt) in
    rw (same, le-ltb n 0x80 le) refl

octets_2_again : (n : ℕ) (rest : List ℕ) → 2 ^ 8 ≤ n → n < 2 ^ 16 → octets_2_at (octets 2 n ++ rest) ≡ Ok (n, rest)
unfolding octets_2_at
octets_2_again n rest le lt =
    let some : eqb (n / 256 % 256) 0 ≡ false = ne_eqb _ _ (λ is. omega (arith, is, le, lt)) in
    let whole : 256 * (n / 256 % 256) + n % 256 ≡ n = omega (arith, le, lt) in
    rw (some, whole) refl

octets_3_again : (n : ℕ) (rest : List ℕ) → 2 ^ 16 ≤ n → n < 2 ^ 24 → octets_3_at (octets 3 n ++ rest) ≡ Ok (n, rest)
unfolding octets_3_at
octets_3_again n rest le lt =
    let whole : 256 * (n / 256) + n % 256 ≡ n = omega arith in
    let first = octets_2_again (n / 256) (n % 256 ∷ rest) (omega (arith, le)) (omega (arith, lt)) in
    rw (first, whole) refl

octets_4_again : (n : ℕ) (rest : List ℕ) → 2 ^ 24 ≤ n → n < 2 ^ 32 → octets_4_at (octets 4 n ++ rest) ≡ Ok (n, rest)
unfolding octets_4_at
octets_4_again n rest le lt =
    let whole : 256 * (n / 256) + n % 256 ≡ n = omega arith in
    let first = octets_3_again (n / 256) (n % 256 ∷ rest) (omega (arith, le)) (omega (arith, lt)) in
    rw (first, whole) refl

-- ---- the forms of a length

pub length_tiny : (n : ℕ) → n < 0x80 → length_octets n ≡ n ∷ []
unfolding length_octets
length_tiny n lt = rw (lt-ltb n 0x80 lt) refl

pub length_1 : (n : ℕ) → 0x80 ≤ n → n < 2 ^ 8 → length_octets n ≡ 0x81 ∷ octets 1 n
unfolding length_octets
length_1 n le lt = rw (le-ltb n 0x80 le, lt-ltb n (2 ^ 8) lt) refl

pub length_2 : (n : ℕ) → 2 ^ 8 ≤ n → n < 2 ^ 16 → length_octets n ≡ 0x82 ∷ octets 2 n
unfolding length_octets
length_2 n le lt = rw (le-ltb n 0x80 (omega (arith, le)), le-ltb n (2 ^ 8) le, lt-ltb n (2 ^ 16) lt) refl

pub length_3 : (n : ℕ) → 2 ^ 16 ≤ n → n < 2 ^ 24 → length_octets n ≡ 0x83 ∷ octets 3 n
unfolding length_octets
length_3 n le lt = rw (le-ltb n 0x80 (omega (arith, le)), le-ltb n (2 ^ 8) (omega (arith, le)), le-ltb n (2 ^ 16) le, lt-ltb n (2 ^ 24) lt) refl

pub length_4 : (n : ℕ) → 2 ^ 24 ≤ n → length_octets n ≡ 0x84 ∷ octets 4 n
unfolding length_octets
length_4 n le =
    rw (le-ltb n 0x80 (omega (arith, le)), le-ltb n (2 ^ 8) (omega (arith, le)), le-ltb n (2 ^ 16) (omega (arith, le)), le-ltb n (2 ^ 24) le) refl

-- ---- lengths

pub record TakesLength (bs : List ℕ) (n : ℕ) (rest : List ℕ) : Type 0 where
  pub takes : Takes bs (length_octets n) rest
  pub limit : n < 2 ^ 32

behind : (first count : ℕ) (bs : List ℕ) (n : ℕ) (rest : List ℕ) → length_octets n ≡ first ∷ octets count n → Takes bs (octets count n) rest → n < 2 ^ 32
    → TakesLength (first ∷ bs) n rest
behind first count bs n rest is t lt =
    record { takes = record { parts = rw is (ap (λ (l : List ℕ). first ∷ l) t.parts); rest_fits = t.rest_fits }; limit = lt }

long_takes : (first : ℕ) (bs : List ℕ) (x : ℕ × List ℕ) → IsBytes bs → long_at first bs ≡ Ok x → TakesLength (first ∷ bs) x.0 x.1
long_takes first bs x fits e =
    let none : Read ℕ = Err errors.TooLong in
    let from4 : Read ℕ = cond (eqb first 0x84) (octets_4_at bs) none in
    let from3 : Read ℕ = cond (eqb first 0x83) (octets_3_at bs) from4 in
    let from2 : Read ℕ = cond (eqb first 0x82) (octets_2_at bs) from3 in
    let from1 : Read ℕ = cond (eqb first 0x81) (octets_1_at bs) from2 in
    let g = guard_ok (eqb first 0x80) errors.BadLength from1 x e in
    elim (chosen (eqb first 0x81) (octets_1_at bs) from2 (Ok x) g.1) [
      | inl p ↦ let t = octets_1_takes bs x fits p.1 in
          rw (eqb-true first 0x81 p.0) (behind 0x81 1 bs x.0 x.1 (length_1 x.0 t.least t.limit) t.takes (omega (arith, t.limit)))
      | inr q ↦ elim (chosen (eqb first 0x82) (octets_2_at bs) from3 (Ok x) q.1) [
        | inl p ↦ let t = octets_2_takes bs x fits p.1 in
            rw (eqb-true first 0x82 p.0) (behind 0x82 2 bs x.0 x.1 (length_2 x.0 t.least t.limit) t.takes (omega (arith, t.limit)))
        | inr q ↦ elim (chosen (eqb first 0x83) (octets_3_at bs) from4 (Ok x) q.1) [
          | inl p ↦ let t = octets_3_takes bs x fits p.1 in
              rw (eqb-true first 0x83 p.0) (behind 0x83 3 bs x.0 x.1 (length_3 x.0 t.least t.limit) t.takes (omega (arith, t.limit)))
          | inr q ↦ elim (chosen (eqb first 0x84) (octets_4_at bs) none (Ok x) q.1) [
            | inl p ↦ let t = octets_4_takes bs x fits p.1 in
                rw (eqb-true first 0x84 p.0) (behind 0x84 4 bs x.0 x.1 (length_4 x.0 t.least) t.takes (omega (arith, t.limit)))
            | inr p ↦ let bad = p.1 in absurd cc
          ]
        ]
      ]
    ]

pub length_takes : (bs : List ℕ) (x : ℕ × List ℕ) → IsBytes bs → length_at bs ≡ Ok x → TakesLength bs x.0 x.1
unfolding length_at
length_takes [] x fits e = absurd cc
length_takes (b ∷ bs) x fits e =
    elim (chosen (ltb b 0x80) (Ok (b, bs)) (long_at b bs) (Ok x) e) [
      | inl p ↦
          let lt : b < 0x80 = ltb-true b 0x80 p.0 in
          subst (λ (y : ℕ × List ℕ). TakesLength (b ∷ bs) y.0 y.1) (ok_is (b, bs) x p.1)
          (record { takes = record { parts = rw (length_tiny b lt) refl; rest_fits = IsBytes-rest b bs fits }; limit = omega (arith, lt) })
      | inr p ↦ long_takes b bs x (IsBytes-rest b bs fits) p.1
    ]

pub length_again : (n : ℕ) (rest : List ℕ) → n < 2 ^ 32 → length_at (length_octets n ++ rest) ≡ Ok (n, rest)
unfolding length_at
length_again n rest lt =
    elim (cases_lt n 0x80) [
      | inl a ↦ rw (length_tiny n a, lt-ltb n 0x80 a) refl
      | inr a ↦ elim (cases_lt n (2 ^ 8)) [
        | inl b ↦ rw (length_1 n a b) (octets_1_again n rest a b)
        | inr b ↦ elim (cases_lt n (2 ^ 16)) [
          | inl c ↦ rw (length_2 n b c) (octets_2_again n rest b c)
          | inr c ↦ elim (cases_lt n (2 ^ 24)) [
            | inl d ↦ rw (length_3 n c d) (octets_3_again n rest c d)
            | inr d ↦ rw (length_4 n d) (octets_4_again n rest d lt)
          ]
        ]
      ]
    ]

-- ---- contents

pub record TakesContent (bs content rest : List ℕ) : Type 0 where
  pub takes : Takes bs (length_octets (length content) ++ content) rest
  pub limit : length content < 2 ^ 32

pub content_takes : (bs : List ℕ) (x : List ℕ × List ℕ) → IsBytes bs → content_at bs ≡ Ok x → TakesContent bs x.0 x.1
unfolding content_at
content_takes bs x fits e =
    let a = bind_ok (length_at bs) (λ n. cond (ltb (length n.1) n.0) (Err errors.Cut) (Ok (take n.0 n.1, drop n.0 n.1))) x e in
    let found : List ℕ × List ℕ = (take a.0.0 a.0.1, drop a.0.0 a.0.1) in
    let g = guard_ok (ltb (length a.0.1) a.0.0) errors.Cut (Ok found) x a.2 in
    let t = length_takes bs a.0 fits a.1 in
    let long : a.0.0 ≤ length a.0.1 = ltb-false _ _ g.0 in
    let len : length (take a.0.0 a.0.1) ≡ a.0.0 = omega (arith, long, length-take a.0.0 a.0.1) in
    let rest_of : Takes a.0.1 (take a.0.0 a.0.1) (drop a.0.0 a.0.1) =
    record { parts = sym (take-append-drop a.0.0 a.0.1); rest_fits = IsBytes-drop a.0.0 a.0.1 t.takes.rest_fits } in
    let both = Takes-then bs (length_octets a.0.0) a.0.1 (take a.0.0 a.0.1) (drop a.0.0 a.0.1) t.takes rest_of in
    let limit = t.limit in
    let made : Takes bs (length_octets (length (take a.0.0 a.0.1)) ++ take a.0.0 a.0.1) (drop a.0.0 a.0.1) =
    subst (λ (k : ℕ). Takes bs (length_octets k ++ take a.0.0 a.0.1) (drop a.0.0 a.0.1)) (sym len) both in
    subst (λ (y : List ℕ × List ℕ). TakesContent bs y.0 y.1) (ok_is found x g.1) (record { takes = made; limit = omega (arith, len, limit) })

pub content_again : (c rest : List ℕ) → length c < 2 ^ 32 → content_at ((length_octets (length c) ++ c) ++ rest) ≡ Ok (c, rest)
unfolding content_at
content_again c rest lt =
    let regrouped : (length_octets (length c) ++ c) ++ rest ≡ length_octets (length c) ++ (c ++ rest) = append_assoc (length_octets (length c)) c rest in
    let long : ltb (length (c ++ rest)) (length c) ≡ false = le-ltb _ _ (omega (arith, length-append c rest)) in
    ap content_at regrouped ∙ rw (length_again (length c) (c ++ rest) lt, long, take_at c rest (length c) refl, drop_at c rest (length c) refl) refl
