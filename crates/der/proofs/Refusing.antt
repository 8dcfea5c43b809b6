-- Why reading fails.
use Rattle.std.proofs.Common.{◌≡◌, ◌≢◌, ℕ, suc, ◌+◌, ◌-◌, ◌*◌, ◌/◌, ◌%◌, ◌^◌, ◌<◌, ◌≤◌, cond, ltb, eqb, List, [], ◌∷◌, ◌++◌, IsTrue}
use Rattle.std.proofs.Common.{Option, Some, None, length, take, drop, Result, Ok, Err, refl, sym, ap, subst, ◌∙◌, append_assoc, arith, inl, inr, ◌⊎◌}
use Rattle.std.specs.Prelude.{replicate}
use Rattle.std.proofs.lemmas.Bool.{ltb-true, ltb-false, eqb-true, eqb-false}
use Rattle.std.proofs.lemmas.List.{length-append, append-nil, length-replicate}
use Rattle.der.specs.declared.error.Error.{Error}
use Rattle.der.specs.declared.error.Error.TheVariants as errors
use Rattle.der.specs.declared.tag.Tag.{Tag}
use Rattle.der.specs.Encoding.{identifier, octets, length_octets, begins_with}
use Rattle.der.specs.Refusals.{IsCut, IsIndefinite, IsLong, IsNotShortest, NoContent, NoElement, NoneTagged, Refused, RefusedAs, BeginsWith}
use Rattle.der.specs.Reading.{Read, ◌>>=◌, octet_at, octets_1_at, octets_2_at, octets_3_at, octets_4_at, long_at, length_at, content_at, element_at, tagged_at, optional_at, whole_at, tag_of}
use Rattle.der.proofs.Steps.{IsBytes, IsBytes-rest, bind_err, err_is, chosen}
use Rattle.der.proofs.Elements.{tagged_takes}
use Rattle.der.proofs.Lengths.{TakesNumber, octets_2_takes, octets_3_takes, TakesLength, length_takes, length_1, length_2, length_3, length_4}

abbrev zeros : ℕ → List ℕ
zeros n = replicate n 0

length_zeros : (n : ℕ) → length (zeros n) ≡ n
length_zeros n = length-replicate n 0

-- ---- numbers

-- with more octets after them, the bytes are those of a number
record IsCutNumber (count low high : ℕ) (bs : List ℕ) : Type 0 where
  pub number : ℕ
  pub more : List ℕ
  pub some : 0 < length more
  pub least : low ≤ number
  pub limit : number < high
  pub whole : bs ++ more ≡ octets count number

-- the first octet has the property
record Starts (P : ℕ → Type 0) (bs : List ℕ) : Type 0 where
  pub first : ℕ
  pub rest : List ℕ
  pub parts : bs ≡ first ∷ rest
  pub has : P first

abbrev NoNumber : ℕ → ℕ → ℕ → (ℕ → Type 0) → Error → List ℕ → Type 0
NoNumber count low high P e bs = ((e ≡ errors.Cut) × IsCutNumber count low high bs) ⊎ ((e ≡ errors.NotShortest) × Starts P bs)

octets_1_fails : (bs : List ℕ) (e : Error) → octets_1_at bs ≡ Err e → NoNumber 1 0x80 (2 ^ 8) (λ d. d < 0x80) e bs
unfolding octets_1_at
octets_1_fails [] e h = inl (sym (err_is {A = ℕ × List ℕ} errors.Cut e h), record { number = 0x80; more = 0x80 ∷ []; some = omega arith; least = omega arith; limit = omega arith; whole = refl })
octets_1_fails (b ∷ bs) e h =
    let none : Read ℕ = Err errors.NotShortest in
    elim (chosen (ltb b 0x80) none (Ok (b, bs)) (Err e) h) [
      | inl p ↦ inr (sym (err_is {A = ℕ × List ℕ} errors.NotShortest e p.1), record { first = b; rest = bs; parts = refl; has = ltb-true b 0x80 p.0 })
      | inr p ↦ let bad = p.1 in absurd cc
    ]

octets_2_fails : (bs : List ℕ) (e : Error) → IsBytes bs → octets_2_at bs ≡ Err e → NoNumber 2 (2 ^ 8) (2 ^ 16) (λ d. d ≡ 0) e bs
unfolding octets_2_at
octets_2_fails [] e fits h = inl (sym (err_is {A = ℕ × List ℕ} errors.Cut e h), record { number = 256; more = 1 ∷ 0 ∷ []; some = omega arith; least = omega arith; limit = omega arith; whole = refl })
octets_2_fails (b ∷ []) e fits h =
    let none : Read ℕ = Err errors.NotShortest in
    let cut : Read ℕ = Err errors.Cut in
    elim (chosen (eqb b 0) none cut (Err e) h) [
      | inl p ↦ inr (sym (err_is {A = ℕ × List ℕ} errors.NotShortest e p.1), record { first = b; rest = []; parts = refl; has = eqb-true b 0 p.0 })
      | inr p ↦
          let small : b < 256 = fits 0 in
          let some : 1 ≤ b = omega (arith, eqb-false b 0 p.0) in
          let front : 256 * b / 256 % 256 ≡ b = omega (arith, small) in
          let last : 256 * b % 256 ≡ 0 = omega arith in
          let whole : b ∷ 0 ∷ [] ≡ octets 2 (256 * b) = rw (front, last) refl in
          inl (
            sym (err_is {A = ℕ × List ℕ} errors.Cut e p.1),
            record {
              number = 256 * b;
              more = 0 ∷ [];
              some = omega arith;
              least = omega (arith, some);
              limit = omega (arith, small);
              whole = whole;
            },
          )
    ]
octets_2_fails (b ∷ c ∷ bs) e fits h =
    let none : Read ℕ = Err errors.NotShortest in
    elim (chosen (eqb b 0) none (Ok (256 * b + c, bs)) (Err e) h) [
      | inl p ↦ inr (sym (err_is {A = ℕ × List ℕ} errors.NotShortest e p.1), record { first = b; rest = c ∷ bs; parts = refl; has = eqb-true b 0 p.0 })
      | inr p ↦ let bad = p.1 in absurd cc
    ]

-- one octet more

octets_more : (count n : ℕ) → octets (suc count) (256 * n) ≡ octets count n ++ 0 ∷ []
octets_more count n =
    let front : 256 * n / 256 ≡ n = omega arith in
    let last : 256 * n % 256 ≡ 0 = omega arith in
    rw (front, last) refl

cut_earlier : (count low high : ℕ) (bs : List ℕ) → IsCutNumber count low high bs → IsCutNumber (suc count) (256 * low) (256 * high) bs
cut_earlier count low high bs h =
    let least = h.least in
    let limit = h.limit in
    record {
      number = 256 * h.number;
      more = h.more ++ 0 ∷ [];
      some = omega (arith, length-append h.more (0 ∷ []));
      least = omega (arith, least);
      limit = omega (arith, limit);
      whole = sym (append_assoc bs h.more (0 ∷ [])) ∙ ap (λ (l : List ℕ). l ++ 0 ∷ []) h.whole ∙ sym (octets_more count h.number);
    }

cut_last : (count low high n : ℕ) (bs : List ℕ) → TakesNumber count low high bs n [] → IsCutNumber (suc count) (256 * low) (256 * high) bs
cut_last count low high n bs h =
    let least = h.least in
    let limit = h.limit in
    let all : bs ≡ octets count n = h.takes.parts ∙ append-nil (octets count n) in
    record {
      number = 256 * n;
      more = 0 ∷ [];
      some = omega arith;
      least = omega (arith, least);
      limit = omega (arith, limit);
      whole = ap (λ (l : List ℕ). l ++ 0 ∷ []) all ∙ sym (octets_more count n);
    }

-- the number with the next octet after it
abbrev joined : ℕ → ℕ × List ℕ → Read ℕ
joined m l = Ok (256 * m + l.0, l.1)

module _ (count low high : ℕ) (bs : List ℕ) (P : ℕ → Type 0) where
  wider_ends : (n : ℕ) (r : List ℕ) (e : Error) → TakesNumber count low high bs n r → (octet_at r >>= joined n) ≡ Err e
      → NoNumber (suc count) (256 * low) (256 * high) P e bs
  wider_ends n [] e t h = inl (sym (err_is {A = ℕ × List ℕ} errors.Cut e h), cut_last count low high n bs t)
  wider_ends n (b ∷ r) e t h = absurd cc

  wider_fails : (r : Read ℕ) (e : Error) → ((x : ℕ × List ℕ) → r ≡ Ok x → TakesNumber count low high bs x.0 x.1)
      → ((d : Error) → r ≡ Err d → NoNumber count low high P d bs)
      → (r >>= λ h. octet_at h.1 >>= joined h.0) ≡ Err e → NoNumber (suc count) (256 * low) (256 * high) P e bs
  wider_fails (Ok x) e takes fails h = wider_ends x.0 x.1 e (takes x refl) h
  wider_fails (Err d) e takes fails h =
      let same : d ≡ e = err_is {A = ℕ × List ℕ} d e h in
      elim (fails d refl) [
        | inl p ↦ inl (sym same ∙ p.0, cut_earlier count low high bs p.1)
        | inr p ↦ inr (sym same ∙ p.0, p.1)
      ]

octets_3_fails : (bs : List ℕ) (e : Error) → IsBytes bs → octets_3_at bs ≡ Err e → NoNumber 3 (2 ^ 16) (2 ^ 24) (λ d. d ≡ 0) e bs
unfolding octets_3_at
octets_3_fails bs e fits h =
    wider_fails 2 (2 ^ 8) (2 ^ 16) bs (λ d. d ≡ 0) (octets_2_at bs) e (λ x is. octets_2_takes bs x fits is) (λ d is. octets_2_fails bs d fits is) h

octets_4_fails : (bs : List ℕ) (e : Error) → IsBytes bs → octets_4_at bs ≡ Err e → NoNumber 4 (2 ^ 24) (2 ^ 32) (λ d. d ≡ 0) e bs
unfolding octets_4_at
octets_4_fails bs e fits h =
    wider_fails 3 (2 ^ 16) (2 ^ 24) bs (λ d. d ≡ 0) (octets_3_at bs) e (λ x is. octets_3_takes bs x fits is) (λ d is. octets_3_fails bs d fits is) h

-- ---- lengths

cut_behind : (first count low high : ℕ) (bs : List ℕ) (h : IsCutNumber count low high bs) → length_octets h.number ≡ first ∷ octets count h.number
    → h.number < 2 ^ 32 → IsCut (first ∷ bs)
cut_behind first count low high bs h is lt =
    let len : length (zeros h.number) ≡ h.number = length_zeros h.number in
    let some = h.some in
    let front : (first ∷ bs) ++ (h.more ++ zeros h.number) ≡ length_octets h.number ++ zeros h.number =
    ap (λ (l : List ℕ). first ∷ l) (sym (append_assoc bs h.more (zeros h.number)) ∙ ap (λ (l : List ℕ). l ++ zeros h.number) h.whole)
    ∙ ap (λ (l : List ℕ). l ++ zeros h.number) (sym is) in
    record {
      content = zeros h.number;
      more = h.more ++ zeros h.number;
      some = omega (arith, some, length-append h.more (zeros h.number));
      size = omega (arith, len, lt);
      whole = front ∙ ap (λ (k : ℕ). length_octets k ++ zeros h.number) (sym len);
    }

no_length : (first count low high : ℕ) (bs : List ℕ) (e : Error) (P : ℕ → Type 0) → NoNumber count low high P e bs
    → ((n : ℕ) → low ≤ n → n < high → length_octets n ≡ first ∷ octets count n) → high ≤ 2 ^ 32
    → ((d : ℕ) → P d → ((first ≡ 0x81) × (d < 0x80)) ⊎ ((0x81 < first) × (first ≤ 0x84) × (d ≡ 0))) → NoContent e (first ∷ bs)
no_length first count low high bs e P (inl p) is within bad =
    let h = p.1 in
    let limit = h.limit in
    subst (λ (d : Error). NoContent d (first ∷ bs)) (sym p.0) (cut_behind first count low high bs h (is h.number h.least h.limit) (omega (arith, limit, within)))
no_length first count low high bs e P (inr p) is within bad =
    let h = p.1 in
    let longer : IsNotShortest (first ∷ bs) =
    record { first = first; second = h.first; rest = h.rest; parts = ap (λ (l : List ℕ). first ∷ l) h.parts; longer = bad h.first h.has } in
    subst (λ (d : Error). NoContent d (first ∷ bs)) (sym p.0) longer

long_fails : (first : ℕ) (bs : List ℕ) (e : Error) → 0x80 ≤ first → IsBytes bs → long_at first bs ≡ Err e → NoContent e (first ∷ bs)
long_fails first bs e le fits h =
    let indefinite : Read ℕ = Err errors.BadLength in
    let long : Read ℕ = Err errors.TooLong in
    let from4 : Read ℕ = cond (eqb first 0x84) (octets_4_at bs) long in
    let from3 : Read ℕ = cond (eqb first 0x83) (octets_3_at bs) from4 in
    let from2 : Read ℕ = cond (eqb first 0x82) (octets_2_at bs) from3 in
    let from1 : Read ℕ = cond (eqb first 0x81) (octets_1_at bs) from2 in
    elim (chosen (eqb first 0x80) indefinite from1 (Err e) h) [
      | inl p ↦
          let is : IsIndefinite (first ∷ bs) = record { rest = bs; parts = ap (λ (k : ℕ). k ∷ bs) (eqb-true first 0x80 p.0) } in
          subst (λ (d : Error). NoContent d (first ∷ bs)) (err_is {A = ℕ × List ℕ} errors.BadLength e p.1) is
      | inr q0 ↦ elim (chosen (eqb first 0x81) (octets_1_at bs) from2 (Err e) q0.1) [
        | inl p ↦ let is : first ≡ 0x81 = eqb-true first 0x81 p.0 in
            no_length first 1 0x80 (2 ^ 8) bs e (λ d. d < 0x80) (octets_1_fails bs e p.1) (λ n a b. rw is (length_1 n a b)) (omega arith) (λ d lt. inl (is, lt))
        | inr q1 ↦ elim (chosen (eqb first 0x82) (octets_2_at bs) from3 (Err e) q1.1) [
          | inl p ↦ let is : first ≡ 0x82 = eqb-true first 0x82 p.0 in
              no_length first 2 (2 ^ 8) (2 ^ 16) bs e (λ d. d ≡ 0) (octets_2_fails bs e fits p.1) (λ n a b. rw is (length_2 n a b)) (omega arith)
              (λ d z. inr (omega (arith, is), omega (arith, is), z))
          | inr q2 ↦ elim (chosen (eqb first 0x83) (octets_3_at bs) from4 (Err e) q2.1) [
            | inl p ↦ let is : first ≡ 0x83 = eqb-true first 0x83 p.0 in
                no_length first 3 (2 ^ 16) (2 ^ 24) bs e (λ d. d ≡ 0) (octets_3_fails bs e fits p.1) (λ n a b. rw is (length_3 n a b)) (omega arith)
                (λ d z. inr (omega (arith, is), omega (arith, is), z))
            | inr q3 ↦ elim (chosen (eqb first 0x84) (octets_4_at bs) long (Err e) q3.1) [
              | inl p ↦ let is : first ≡ 0x84 = eqb-true first 0x84 p.0 in
                  no_length first 4 (2 ^ 24) (2 ^ 32) bs e (λ d. d ≡ 0) (octets_4_fails bs e fits p.1) (λ n a b. rw is (length_4 n a)) (omega arith)
                  (λ d z. inr (omega (arith, is), omega (arith, is), z))
              | inr p ↦
                  let n0 : first ≢ 0x80 = eqb-false first 0x80 q0.0 in
                  let n1 : first ≢ 0x81 = eqb-false first 0x81 q1.0 in
                  let n2 : first ≢ 0x82 = eqb-false first 0x82 q2.0 in
                  let n3 : first ≢ 0x83 = eqb-false first 0x83 q3.0 in
                  let n4 : first ≢ 0x84 = eqb-false first 0x84 p.0 in
                  let is : IsLong (first ∷ bs) = record { first = first; rest = bs; parts = refl; above = omega (arith, le, n0, n1, n2, n3, n4) } in
                  subst (λ (d : Error). NoContent d (first ∷ bs)) (err_is {A = ℕ × List ℕ} errors.TooLong e p.1) is
            ]
          ]
        ]
      ]
    ]

nothing_cut : IsCut []
unfolding length_octets
nothing_cut = record { content = []; more = 0 ∷ []; some = omega arith; size = omega arith; whole = refl }

length_fails : (bs : List ℕ) (e : Error) → IsBytes bs → length_at bs ≡ Err e → NoContent e bs
unfolding length_at
length_fails [] e fits h = subst (λ (d : Error). NoContent d []) (err_is {A = ℕ × List ℕ} errors.Cut e h) nothing_cut
length_fails (b ∷ bs) e fits h =
    elim (chosen (ltb b 0x80) (Ok (b, bs)) (long_at b bs) (Err e) h) [
      | inl p ↦ let bad = p.1 in absurd cc
      | inr p ↦ long_fails b bs e (ltb-false b 0x80 p.0) (IsBytes-rest b bs fits) p.1
    ]

-- ---- contents and elements

-- the content ends early
short_cut : (bs : List ℕ) (n : ℕ) (r : List ℕ) → TakesLength bs n r → length r < n → IsCut bs
short_cut bs n r t lt =
    let missing : length (zeros (n - length r)) ≡ n - length r = length_zeros (n - length r) in
    let len : length (r ++ zeros (n - length r)) ≡ n = omega (arith, lt, missing, length-append r (zeros (n - length r))) in
    let limit = t.limit in
    let front : bs ++ zeros (n - length r) ≡ length_octets n ++ (r ++ zeros (n - length r)) =
    ap (λ (l : List ℕ). l ++ zeros (n - length r)) t.takes.parts ∙ append_assoc (length_octets n) r (zeros (n - length r)) in
    record {
      content = r ++ zeros (n - length r);
      more = zeros (n - length r);
      some = omega (arith, lt, missing);
      size = omega (arith, len, limit);
      whole = front ∙ ap (λ (k : ℕ). length_octets k ++ (r ++ zeros (n - length r))) (sym len);
    }

pub content_fails : (bs : List ℕ) (e : Error) → IsBytes bs → content_at bs ≡ Err e → NoContent e bs
unfolding content_at
content_fails bs e fits h =
    let cut : Read (List ℕ) = Err errors.Cut in
    elim (bind_err (length_at bs) (λ n. cond (ltb (length n.1) n.0) (Err errors.Cut) (Ok (take n.0 n.1, drop n.0 n.1))) e h) [
      | inl p ↦ length_fails bs e fits p
      | inr q ↦ elim (chosen (ltb (length q.0.1) q.0.0) cut (Ok (take q.0.0 q.0.1, drop q.0.0 q.0.1)) (Err e) q.2) [
        | inl p ↦
            subst (λ (d : Error). NoContent d bs) (err_is {A = List ℕ × List ℕ} errors.Cut e p.1)
            (short_cut bs q.0.0 q.0.1 (length_takes bs q.0 fits q.1) (ltb-true _ _ p.0))
        | inr p ↦ let bad = p.1 in absurd cc
      ]
    ]

refused_from : (e : Error) (b : ℕ) (bs : List ℕ) → b % 32 ≢ 31 → NoContent e bs → NoElement e b bs
refused_from errors.LongTag b bs n h = absurd h
refused_from _ b bs n h = (n, h)

tagged_from : (t : Tag) (e : Error) (b : ℕ) (bs : List ℕ) → b ≡ identifier t → NoContent e bs → NoneTagged t e b bs
tagged_from t errors.OtherTag b bs is h = absurd h
tagged_from t _ b bs is h = (is, h)

pub element_fails : (bs : List ℕ) (e : Error) → IsBytes bs → element_at bs ≡ Err e → Refused e bs
unfolding element_at
element_fails [] e fits h = sym (err_is {A = (Tag × List ℕ) × List ℕ} errors.Cut e h)
element_fails (b ∷ bs) e fits h =
    let step : List ℕ × List ℕ → Read (Tag × List ℕ) = λ c. Ok ((tag_of b, c.0), c.1) in
    let long : Read (Tag × List ℕ) = Err errors.LongTag in
    elim (chosen (eqb (b % 32) 31) long (content_at bs >>= step) (Err e) h) [
      | inl p ↦
          subst (λ (d : Error). NoElement d b bs) (err_is {A = (Tag × List ℕ) × List ℕ} errors.LongTag e p.1) (eqb-true (b % 32) 31 p.0)
      | inr q ↦ elim (bind_err (content_at bs) step e q.1) [
        | inl p ↦ refused_from e b bs (eqb-false (b % 32) 31 q.0) (content_fails bs e (IsBytes-rest b bs fits) p)
        | inr p ↦ let bad = p.2 in absurd cc
      ]
    ]

pub tagged_fails : (t : Tag) (bs : List ℕ) (e : Error) → IsBytes bs → tagged_at t bs ≡ Err e → RefusedAs t e bs
unfolding tagged_at
tagged_fails t [] e fits h = sym (err_is {A = List ℕ × List ℕ} errors.Cut e h)
tagged_fails t (b ∷ bs) e fits h =
    let other : Read (List ℕ) = Err errors.OtherTag in
    elim (chosen (eqb b (identifier t)) (content_at bs) other (Err e) h) [
      | inl p ↦ tagged_from t e b bs (eqb-true b (identifier t) p.0) (content_fails bs e (IsBytes-rest b bs fits) p.1)
      | inr p ↦ subst (λ (d : Error). NoneTagged t d b bs) (err_is {A = List ℕ × List ℕ} errors.OtherTag e p.1) (eqb-false b (identifier t) p.0)
    ]

pub record OptionalFails (t : Tag) (e : Error) (bs : List ℕ) : Type 0 where
  pub why : RefusedAs t e bs
  pub begins : IsTrue (begins_with t bs)

pub optional_fails : (t : Tag) (bs : List ℕ) (e : Error) → IsBytes bs → optional_at t bs ≡ Err e → OptionalFails t e bs
unfolding optional_at
optional_fails t [] e fits h = absurd cc
optional_fails t (b ∷ bs) e fits h =
    let step : List ℕ × List ℕ → Read (Option (List ℕ)) = λ c. Ok (Some c.0, c.1) in
    elim (chosen (eqb b (identifier t)) (tagged_at t (b ∷ bs) >>= step) (Ok (None, b ∷ bs)) (Err e) h) [
      | inl q ↦ elim (bind_err (tagged_at t (b ∷ bs)) step e q.1) [
        | inl p ↦ record { why = tagged_fails t (b ∷ bs) e fits p; begins = q.0 }
        | inr p ↦ let bad = p.2 in absurd cc
      ]
      | inr p ↦ let bad = p.1 in absurd cc
    ]

-- a whole element: bytes follow it, or none is there
pub whole_fails : (t : Tag) (bs : List ℕ) (e : Error) → t.number < 31 → IsBytes bs → whole_at t bs ≡ Err e
    → ((e ≡ errors.Trailing) × BeginsWith t bs) ⊎ RefusedAs t e bs
unfolding whole_at
whole_fails t bs e lt fits h =
    let trailing : Result (List ℕ) Error = Err errors.Trailing in
    elim (bind_err (tagged_at t bs) (λ c. cond (eqb (length c.1) 0) (Ok c.0) (Err errors.Trailing)) e h) [
      | inl p ↦ inr (tagged_fails t bs e fits p)
      | inr q ↦ elim (chosen (eqb (length q.0.1) 0) (Ok q.0.0) trailing (Err e) q.2) [
        | inl p ↦ let bad = p.1 in absurd cc
        | inr p ↦
            let some : length q.0.1 ≢ 0 = eqb-false (length q.0.1) 0 p.0 in
            let found = tagged_takes t bs q.0 lt fits q.1 in
            inl (
              sym (err_is {A = List ℕ} errors.Trailing e p.1),
              record {
                content = q.0.0;
                rest = q.0.1;
                some = omega (arith, some);
                fits = found.fits;
                parts = found.takes.parts;
              },
            )
      ]
    ]

-- what is refused as an element of a tag is not trailing
pub not_trailing : (t : Tag) (bs : List ℕ) → RefusedAs t errors.Trailing bs → ⊥
not_trailing t [] h = absurd cc
not_trailing t (b ∷ bs) h = absurd h.1
