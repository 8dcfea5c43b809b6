-- An element that is read is encoded so, and what is encoded so is read.
use Rattle.std.proofs.Common.{◌≡◌, ℕ, zero, suc, ◌+◌, ◌*◌, ◌/◌, ◌%◌, ◌^◌, ◌<◌, Bool, true, false, cond, eqb, List, [], ◌∷◌, ◌++◌}
use Rattle.std.proofs.Common.{length, Option, Some, None, Ok, Err, refl, sym, ap, subst, ◌∙◌, arith, inl, inr}
use Rattle.std.proofs.lemmas.Bool.{cases_lt, eqb-true, eqb-false, eq-eqb, ne_eqb}
use Rattle.std.proofs.lemmas.List.{append-nil, nil_from_length}
use Rattle.der.specs.declared.error.Error.{Error}
use Rattle.der.specs.declared.error.Error.TheVariants as errors
use Rattle.der.specs.declared.tag.Class.{Class}
use Rattle.der.specs.declared.tag.Class.TheVariants as classes
use Rattle.der.specs.declared.tag.Tag.{Tag}
use Rattle.der.specs.Encoding.{class_number, identifier, element, IsElement, begins_with}
use Rattle.der.specs.Reading.{Read, ◌>>=◌, content_at, class_of, tag_of, element_at, tagged_at, optional_at, whole_at}
use Rattle.der.proofs.Steps.{IsBytes, IsBytes-rest, bind_ok, ok_is, chosen, guard_ok, wanted_ok, Takes}
use Rattle.der.proofs.Lengths.{TakesContent, content_takes, content_again}

-- ---- tags

-- the class and the two numbers of an identifier octet
pub class_again : (c : Class) → class_of (class_number c) ≡ c
class_again classes.Universal = refl
class_again classes.Application = refl
class_again classes.ContextSpecific = refl
class_again classes.Private = refl

pub class_below : (c : Class) → class_number c < 4
class_below classes.Universal = omega arith
class_below classes.Application = omega arith
class_below classes.ContextSpecific = omega arith
class_below classes.Private = omega arith

pub number_again : (n : ℕ) → n < 4 → class_number (class_of n) ≡ n
number_again zero lt = refl
number_again (suc zero) lt = refl
number_again (suc (suc zero)) lt = refl
number_again (suc (suc (suc zero))) lt = refl
number_again (suc (suc (suc (suc n)))) lt = absurd (omega (arith, lt))

abbrev tag_from : Class → Bool → ℕ → Tag
tag_from c b n = record { class = c; constructed = b; number = n }

made_again : (c : Class) (b : Bool) (n : ℕ) → n < 31 → tag_of (64 * class_number c + cond b 32 0 + n) ≡ tag_from c b n
made_again c true n lt =
    let k = class_below c in
    let high : (64 * class_number c + 32 + n) / 64 ≡ class_number c = omega (arith, k, lt) in
    let middle : (64 * class_number c + 32 + n) / 32 % 2 ≡ 1 = omega (arith, k, lt) in
    let low : (64 * class_number c + 32 + n) % 32 ≡ n = omega (arith, lt) in
    rw (high, middle, low, class_again c) refl
made_again c false n lt =
    let k = class_below c in
    let high : (64 * class_number c + 0 + n) / 64 ≡ class_number c = omega (arith, k, lt) in
    let middle : (64 * class_number c + 0 + n) / 32 % 2 ≡ 0 = omega (arith, k, lt) in
    let low : (64 * class_number c + 0 + n) % 32 ≡ n = omega (arith, lt) in
    rw (high, middle, low, class_again c) refl

pub tag_again : (t : Tag) → t.number < 31 → tag_of (identifier t) ≡ t
tag_again t lt = made_again t.class t.constructed t.number lt

low_number : (c : Class) (b : Bool) (n : ℕ) → n < 31 → (64 * class_number c + cond b 32 0 + n) % 32 ≡ n
low_number c true n lt = omega (arith, lt)
low_number c false n lt = omega (arith, lt)

middle_bit : (b : ℕ) → cond (eqb (b / 32 % 2) 1) 32 0 ≡ 32 * (b / 32 % 2)
middle_bit b =
    elim (cases_lt (b / 32 % 2) 1) [
      | inl lt ↦ let none : b / 32 % 2 ≡ 0 = omega (arith, lt) in rw none refl
      | inr le ↦ let one : b / 32 % 2 ≡ 1 = omega (arith, le) in rw one refl
    ]

pub identifier_again : (b : ℕ) → b < 256 → identifier (tag_of b) ≡ b
identifier_again b lt =
    let high : class_number (class_of (b / 64)) ≡ b / 64 = number_again (b / 64) (omega (arith, lt)) in
    rw (high, middle_bit b) (omega (arith, lt))

-- ---- what is read

pub record TakesElement (t : Tag) (bs content rest : List ℕ) : Type 0 where
  pub takes : Takes bs (element t content) rest
  pub fits : IsElement t content

behind : (t : Tag) (b : ℕ) (bs content rest : List ℕ) → b ≡ identifier t → t.number < 31 → TakesContent bs content rest → TakesElement t (b ∷ bs) content rest
unfolding element
behind t b bs content rest is lt h =
    record {
      takes = record { parts = ap (λ (k : ℕ). k ∷ bs) is ∙ ap (λ (l : List ℕ). identifier t ∷ l) h.takes.parts; rest_fits = h.takes.rest_fits };
      fits = record { number = lt; size = h.limit };
    }

pub tagged_takes : (t : Tag) (bs : List ℕ) (x : List ℕ × List ℕ) → t.number < 31 → IsBytes bs → tagged_at t bs ≡ Ok x → TakesElement t bs x.0 x.1
unfolding tagged_at
tagged_takes t [] x lt fits e = absurd cc
tagged_takes t (b ∷ bs) x lt fits e =
    let g = wanted_ok (eqb b (identifier t)) errors.OtherTag (content_at bs) x e in
    behind t b bs x.0 x.1 (eqb-true b (identifier t) g.0) lt (content_takes bs x (IsBytes-rest b bs fits) g.1)

pub element_takes : (bs : List ℕ) (x : (Tag × List ℕ) × List ℕ) → IsBytes bs → element_at bs ≡ Ok x → TakesElement x.0.0 bs x.0.1 x.1
unfolding element_at
element_takes [] x fits e = absurd cc
element_takes (b ∷ bs) x fits e =
    let step : List ℕ × List ℕ → Read (Tag × List ℕ) = λ c. Ok ((tag_of b, c.0), c.1) in
    let g = guard_ok (eqb (b % 32) 31) errors.LongTag (content_at bs >>= step) x e in
    let a = bind_ok (content_at bs) step x g.1 in
    let t = content_takes bs a.0 (IsBytes-rest b bs fits) a.1 in
    let low : b % 32 < 31 = omega (arith, eqb-false (b % 32) 31 g.0) in
    let found : (Tag × List ℕ) × List ℕ = ((tag_of b, a.0.0), a.0.1) in
    subst (λ (y : (Tag × List ℕ) × List ℕ). TakesElement y.0.0 (b ∷ bs) y.0.1 y.1) (ok_is found x a.2)
    (behind (tag_of b) b bs a.0.0 a.0.1 (sym (identifier_again b (fits 0))) low t)

-- an element that may be absent
abbrev pub TakesOptional : Tag → List ℕ → Option (List ℕ) → List ℕ → Type 0
TakesOptional t bs None rest = (rest ≡ bs) × (begins_with t bs ≡ false)
TakesOptional t bs (Some content) rest = TakesElement t bs content rest

pub optional_takes : (t : Tag) (bs : List ℕ) (x : Option (List ℕ) × List ℕ) → t.number < 31 → IsBytes bs → optional_at t bs ≡ Ok x
    → TakesOptional t bs x.0 x.1
unfolding optional_at
optional_takes t [] x lt fits e =
    subst (λ (y : Option (List ℕ) × List ℕ). TakesOptional t [] y.0 y.1) (ok_is (None, []) x e) (refl, refl)
optional_takes t (b ∷ bs) x lt fits e =
    let step : List ℕ × List ℕ → Read (Option (List ℕ)) = λ c. Ok (Some c.0, c.1) in
    elim (chosen (eqb b (identifier t)) (tagged_at t (b ∷ bs) >>= step) (Ok (None, b ∷ bs)) (Ok x) e) [
      | inl p ↦
          let a = bind_ok (tagged_at t (b ∷ bs)) step x p.1 in
          subst (λ (y : Option (List ℕ) × List ℕ). TakesOptional t (b ∷ bs) y.0 y.1) (ok_is (Some a.0.0, a.0.1) x a.2)
          (tagged_takes t (b ∷ bs) a.0 lt fits a.1)
      | inr p ↦ subst (λ (y : Option (List ℕ) × List ℕ). TakesOptional t (b ∷ bs) y.0 y.1) (ok_is (None, b ∷ bs) x p.1) (refl, p.0)
    ]

pub record TakesWhole (t : Tag) (bs content : List ℕ) : Type 0 where
  pub parts : bs ≡ element t content
  pub fits : IsElement t content

pub whole_takes : (t : Tag) (bs content : List ℕ) → t.number < 31 → IsBytes bs → whole_at t bs ≡ Ok content → TakesWhole t bs content
unfolding whole_at
whole_takes t bs content lt fits e =
    let a = bind_ok (tagged_at t bs) (λ c. cond (eqb (length c.1) 0) (Ok c.0) (Err errors.Trailing)) content e in
    let g = wanted_ok (eqb (length a.0.1) 0) errors.Trailing (Ok a.0.0) content a.2 in
    let h = tagged_takes t bs a.0 lt fits a.1 in
    let nothing : a.0.1 ≡ [] = nil_from_length a.0.1 (eqb-true _ _ g.0) in
    let parts : bs ≡ element t a.0.0 = h.takes.parts ∙ ap (λ (r : List ℕ). element t a.0.0 ++ r) nothing ∙ append-nil (element t a.0.0) in
    subst (λ (c : List ℕ). TakesWhole t bs c) (ok_is a.0.0 content g.1) (record { parts = parts; fits = h.fits })

-- ---- what is encoded

pub tagged_again : (t : Tag) (content rest : List ℕ) → length content < 2 ^ 32 → tagged_at t (element t content ++ rest) ≡ Ok (content, rest)
unfolding element tagged_at
tagged_again t content rest lt = rw (eq-eqb (identifier t) (identifier t) refl, content_again content rest lt) refl

pub element_again : (t : Tag) (content rest : List ℕ) → IsElement t content → element_at (element t content ++ rest) ≡ Ok ((t, content), rest)
unfolding element element_at
element_again t content rest h =
    let low : identifier t % 32 ≡ t.number = low_number t.class t.constructed t.number h.number in
    let other : eqb (identifier t % 32) 31 ≡ false = ne_eqb _ _ (λ is. omega (arith, is, low, h.number)) in
    rw (other, content_again content rest h.size, tag_again t h.number) refl

pub optional_again : (t : Tag) (content rest : List ℕ) → length content < 2 ^ 32 → optional_at t (element t content ++ rest) ≡ Ok (Some content, rest)
unfolding element optional_at
optional_again t content rest lt =
    let read : tagged_at t (element t content ++ rest) ≡ Ok (content, rest) = tagged_again t content rest lt in
    rw (eq-eqb (identifier t) (identifier t) refl, read) refl

-- where no element of the tag begins, none is taken
pub optional_absent : (t : Tag) (bs : List ℕ) → begins_with t bs ≡ false → optional_at t bs ≡ Ok (None, bs)
unfolding optional_at
optional_absent t [] e = refl
optional_absent t (b ∷ bs) e = rw e refl

pub whole_again : (t : Tag) (content : List ℕ) → length content < 2 ^ 32 → whole_at t (element t content) ≡ Ok content
unfolding whole_at
whole_again t content lt =
    let read : tagged_at t (element t content) ≡ Ok (content, []) = ap (tagged_at t) (sym (append-nil (element t content))) ∙ tagged_again t content [] lt in
    rw read refl

-- ---- the clauses

pub no_element : (t : Tag) (bs : List ℕ) (e : Error) → tagged_at t bs ≡ Err e → (content rest : List ℕ) → IsElement t content → bs ≡ element t content ++ rest → ⊥
no_element t bs e h content rest fits is = let again = sym h ∙ ap (tagged_at t) is ∙ tagged_again t content rest fits.size in absurd cc

pub no_element_at_all : (bs : List ℕ) (e : Error) → element_at bs ≡ Err e → (t : Tag) (content rest : List ℕ) → IsElement t content → bs ≡ element t content ++ rest → ⊥
no_element_at_all bs e h t content rest fits is = let again = sym h ∙ ap element_at is ∙ element_again t content rest fits in absurd cc

pub not_whole : (t : Tag) (bs : List ℕ) (e : Error) → whole_at t bs ≡ Err e → (content : List ℕ) → IsElement t content → bs ≡ element t content → ⊥
not_whole t bs e h content fits is = let again = sym h ∙ ap (whole_at t) is ∙ whole_again t content fits.size in absurd cc

pub no_optional : (t : Tag) (bs : List ℕ) (e : Error) → optional_at t bs ≡ Err e → (content rest : List ℕ) → IsElement t content → bs ≡ element t content ++ rest → ⊥
no_optional t bs e h content rest fits is = let again = sym h ∙ ap (optional_at t) is ∙ optional_again t content rest fits.size in absurd cc
