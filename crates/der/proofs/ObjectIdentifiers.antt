-- A content that is read as an object identifier is one or more subidentifiers, and such a content is read.
use Rattle.std.proofs.Common.{◌≡◌, ◌≢◌, ℕ, ◌-◌, ◌<◌, ◌≤◌, Bool, true, false, cond, ltb, eqb, ◌&&◌, List, [], ◌∷◌, ◌++◌, ◌+◌, add-one, drop-cons}
use Rattle.std.proofs.Common.{Result, Ok, Err, Bor, length, get_or, drop, refl, sym, ap, ◌∙◌, arith, inl, inr}
use Rattle.std.specs.Prelude.{IfOk, IsErr}
use Rattle.std.specs.List.{AllByRecursion}
use Rattle.std.proofs.lemmas.Bool.{cases_lt, ltb-true, le-ltb, lt-ltb, eqb-false, ne_eqb}
use Rattle.std.proofs.lemmas.List.{drop_all}
use Rattle.der.specs.declared.error.Error.{Error}
use Rattle.der.specs.declared.error.Error.TheVariants as errors
use Rattle.der.specs.Encoding.{subidentifier, subidentifiers, IsSubidentifier, IsObjectIdentifier}
use Rattle.der.specs.Reading.{Gives, ◌>>=◌, subidentifiers_in, object_identifier_in}
use Rattle.der.proofs.Steps.{IsBytes, IsBytes-rest, bind_ok, ok_is, guard_ok}

-- ---- what is read

abbrev AllSmall : List ℕ → Type 0
AllSmall = AllByRecursion (λ d. d < 128)

-- subidentifiers, as one begins
record Whole (bs : List ℕ) : Type 0 where
  pub others : List (List ℕ)
  pub are : AllByRecursion IsSubidentifier others
  pub parts : bs ≡ subidentifiers others

-- the rest of a subidentifier, which is not empty, and others
record Within (bs : List ℕ) : Type 0 where
  pub first : ℕ
  pub digits : List ℕ
  pub below : AllSmall (first ∷ digits)
  pub others : List (List ℕ)
  pub are : AllByRecursion IsSubidentifier others
  pub parts : bs ≡ subidentifier (first ∷ digits) ++ subidentifiers others

abbrev Parsed : Bool → List ℕ → Type 0
Parsed true bs = Whole bs
Parsed false bs = Within bs

-- an octet that ends a subidentifier
ends : (begins : Bool) (b : ℕ) (bs : List ℕ) → b < 128 → Whole bs → Parsed begins (b ∷ bs)
ends true b bs lt h =
    record {
      others = (b ∷ []) ∷ h.others;
      are = (record { below = (lt, tt); shortest = refl }, h.are);
      parts = ap (λ (l : List ℕ). b ∷ l) h.parts;
    }
ends false b bs lt h =
    record { first = b; digits = []; below = (lt, tt); others = h.others; are = h.are; parts = ap (λ (l : List ℕ). b ∷ l) h.parts }

-- an octet within one
goes_on : (begins : Bool) (b : ℕ) (bs : List ℕ) → 128 ≤ b → b < 256 → (begins ≡ true → b ≢ 128) → Within bs → Parsed begins (b ∷ bs)
goes_on true b bs le lt other h =
    let n : b ≢ 128 = other refl in
    let whole : 128 + (b - 128) ≡ b = omega (arith, le) in
    record {
      others = ((b - 128) ∷ h.first ∷ h.digits) ∷ h.others;
      are = (record { below = (omega (arith, lt), h.below); shortest = lt-ltb 0 (b - 128) (omega (arith, le, n)) }, h.are);
      parts = ap (λ (k : ℕ). k ∷ bs) (sym whole) ∙ ap (λ (l : List ℕ). (128 + (b - 128)) ∷ l) h.parts;
    }
goes_on false b bs le lt other h =
    let whole : 128 + (b - 128) ≡ b = omega (arith, le) in
    record {
      first = b - 128;
      digits = h.first ∷ h.digits;
      below = (omega (arith, lt), h.below);
      others = h.others;
      are = h.are;
      parts = ap (λ (k : ℕ). k ∷ bs) (sym whole) ∙ ap (λ (l : List ℕ). (128 + (b - 128)) ∷ l) h.parts;
    }

not_first : (begins : Bool) (b : ℕ) → (begins && eqb b 128) ≡ false → begins ≡ true → b ≢ 128
not_first true b e is = eqb-false b 128 e
not_first false b e is = absurd cc

subidentifiers_take : (begins : Bool) (bs : List ℕ) (x : Bool) → IsBytes bs → subidentifiers_in begins bs ≡ Ok x → Parsed begins bs
unfolding subidentifiers_in
subidentifiers_take true [] x fits e = record { others = []; are = tt; parts = refl }
subidentifiers_take false [] x fits e = absurd cc
subidentifiers_take begins (b ∷ bs) x fits e =
    let g = guard_ok (begins && eqb b 0x80) errors.NotShortest (subidentifiers_in (ltb b 0x80) bs) x e in
    elim (cases_lt b 0x80) [
      | inl lt ↦
          let next : subidentifiers_in true bs ≡ Ok x = ap (λ (t : Bool). subidentifiers_in t bs) (sym (lt-ltb b 0x80 lt)) ∙ g.1 in
          ends begins b bs lt (subidentifiers_take true bs x (IsBytes-rest b bs fits) next)
      | inr le ↦
          let next : subidentifiers_in false bs ≡ Ok x = ap (λ (t : Bool). subidentifiers_in t bs) (sym (le-ltb b 0x80 le)) ∙ g.1 in
          goes_on begins b bs le (fits 0) (not_first begins b g.0) (subidentifiers_take false bs x (IsBytes-rest b bs fits) next)
    ]

identifier_from : (bs : List ℕ) (ids : List (List ℕ)) → AllByRecursion IsSubidentifier ids → bs ≡ subidentifiers ids → length bs ≢ 0 → IsObjectIdentifier bs
identifier_from bs [] are parts some = absurd (some (ap length parts))
identifier_from bs (ds ∷ ids) are parts some = record { first = ds; others = ids; are = are; octets = parts }

-- ---- what is encoded

rest_again : (d : ℕ) (ds rest : List ℕ) → AllSmall (d ∷ ds) → subidentifiers_in false (subidentifier (d ∷ ds) ++ rest) ≡ subidentifiers_in true rest
unfolding subidentifiers_in
rest_again d [] rest h = rw (lt-ltb d 0x80 h.0) refl
rest_again d (e ∷ ds) rest h =
    let high : ltb (128 + d) 0x80 ≡ false = le-ltb _ _ (omega arith) in
    rw high (rest_again e ds rest h.1)

one_again : (ds rest : List ℕ) → IsSubidentifier ds → subidentifiers_in true (subidentifier ds ++ rest) ≡ subidentifiers_in true rest
unfolding subidentifiers_in
one_again [] rest h = let bad = h.shortest in absurd cc
one_again (d ∷ []) rest h =
    let lt : d < 128 = h.below.0 in
    let n : eqb d 0x80 ≡ false = ne_eqb _ _ (λ is. omega (arith, is, lt)) in
    rw (n, lt-ltb d 0x80 lt) refl
one_again (d ∷ e ∷ ds) rest h =
    let some : 0 < d = ltb-true 0 d h.shortest in
    let n : eqb (128 + d) 0x80 ≡ false = ne_eqb _ _ (λ is. omega (arith, is, some)) in
    let high : ltb (128 + d) 0x80 ≡ false = le-ltb _ _ (omega arith) in
    rw (n, high) (rest_again e ds rest h.below.1)

all_again : (ids : List (List ℕ)) → AllByRecursion IsSubidentifier ids → subidentifiers_in true (subidentifiers ids) ≡ Ok true
unfolding subidentifiers_in
all_again [] h = refl
all_again (ds ∷ ids) h = one_again ds (subidentifiers ids) h.0 ∙ all_again ids h.1

some_octet : (ds rest : List ℕ) → IsSubidentifier ds → length (subidentifier ds ++ rest) ≢ 0
some_octet [] rest h = let bad = h.shortest in absurd cc
some_octet (d ∷ []) rest h = λ is. omega (arith, is)
some_octet (d ∷ e ∷ ds) rest h = λ is. omega (arith, is)

pub identifier_takes : (bs x : List ℕ) → IsBytes bs → object_identifier_in bs ≡ Ok x → IsObjectIdentifier bs
unfolding object_identifier_in
identifier_takes bs x fits e =
    let done : Result (List ℕ) Error = Ok bs in
    let g = guard_ok (eqb (length bs) 0) errors.Empty (subidentifiers_in true bs >>= λ b. done) x e in
    let a = bind_ok (subidentifiers_in true bs) (λ b. done) x g.1 in
    let h = subidentifiers_take true bs a.0 fits a.1 in
    identifier_from bs h.others h.are h.parts (eqb-false (length bs) 0 g.0)

pub identifier_again : (bs : List ℕ) → IsObjectIdentifier bs → object_identifier_in bs ≡ Ok bs
unfolding object_identifier_in
identifier_again bs h =
    let some : length bs ≢ 0 = λ is. some_octet h.first (subidentifiers h.others) h.are.0 (ap length (sym h.octets) ∙ is) in
    let n : eqb (length bs) 0 ≡ false = ne_eqb _ _ some in
    let read : subidentifiers_in true bs ≡ Ok true = ap (subidentifiers_in true) h.octets ∙ all_again (h.first ∷ h.others) h.are in
    rw (n, read) refl

-- ---- the loop

step_is : (begins : Bool) (bs : List ℕ) (i : ℕ) → i < length bs → subidentifiers_in begins (drop i bs)
    ≡ cond (begins && eqb (get_or bs i 0) 0x80) (Err errors.NotShortest) (subidentifiers_in (ltb (get_or bs i 0) 0x80) (drop (i + 1) bs))
unfolding subidentifiers_in
step_is begins bs i lt = rw (add-one, drop-cons bs i 0 lt) refl

pub stops : (begins : Bool) (bs : List ℕ) (i : ℕ) (total : Result Bool Error) → i < length bs → (begins && eqb (get_or bs i 0) 0x80) ≡ true
    → subidentifiers_in begins (drop i bs) ≡ total → total ≡ Err errors.NotShortest
stops begins bs i total lt padding h =
    let step : subidentifiers_in begins (drop i bs) ≡ Err errors.NotShortest = step_is begins bs i lt ∙ rw padding refl in
    sym h ∙ step

pub continues : (begins : Bool) (bs : List ℕ) (i : ℕ) (total : Result Bool Error) → i < length bs → (begins && eqb (get_or bs i 0) 0x80) ≡ false
    → subidentifiers_in begins (drop i bs) ≡ total → subidentifiers_in (ltb (get_or bs i 0) 0x80) (drop (i + 1) bs) ≡ total
continues begins bs i total lt padding h =
    let step : subidentifiers_in begins (drop i bs) ≡ subidentifiers_in (ltb (get_or bs i 0) 0x80) (drop (i + 1) bs) = step_is begins bs i lt ∙ rw padding refl in
    sym step ∙ h

pub ended : (begins : Bool) (bs : List ℕ) (i : ℕ) (total : Result Bool Error) → length bs ≤ i → begins ≡ true
    → subidentifiers_in begins (drop i bs) ≡ total → total ≡ Ok true
unfolding subidentifiers_in
ended begins bs i total le is h =
    let last : subidentifiers_in begins (drop i bs) ≡ Ok true = rw (drop_all i bs le, is) refl in
    sym h ∙ last

pub ended_within : (begins : Bool) (bs : List ℕ) (i : ℕ) (total : Result Bool Error) → length bs ≤ i → begins ≡ false
    → subidentifiers_in begins (drop i bs) ≡ total → total ≡ Err errors.Cut
unfolding subidentifiers_in
ended_within begins bs i total le is h =
    let last : subidentifiers_in begins (drop i bs) ≡ Err errors.Cut = rw (drop_all i bs le, is) refl in
    sym h ∙ last

-- ---- the clauses

module _ (bs : List ℕ) where
  pub identifier_found : (r : Result (Bor (List ℕ)) Error) → IsBytes bs → Gives (λ x. x.now) r (object_identifier_in bs)
      → IfOk r (λ x. (x.now ≡ bs) × IsObjectIdentifier bs)
  identifier_found (Ok x) fits h =
      let is = identifier_takes bs x.now fits h in
      (ok_is x.now bs (sym h ∙ identifier_again bs is), is)
  identifier_found (Err e) fits h = tt

  pub identifier_none : (r : Result (Bor (List ℕ)) Error) → Gives (λ x. x.now) r (object_identifier_in bs) → IsErr r → IsObjectIdentifier bs → ⊥
  identifier_none (Ok x) h err = absurd cc
  identifier_none (Err e) h err = λ is. let again = sym h ∙ identifier_again bs is in absurd cc
