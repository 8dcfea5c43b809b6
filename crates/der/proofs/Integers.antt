-- A content that is read as an integer is its two's complement in the fewest octets, and such a content is read.
use Rattle.std.proofs.Common.{◌≡◌, ℕ, zero, suc, ◌-◌, ◌<◌, ◌≤◌, Bool, true, false, cond, ltb, eqb, ◌&&◌, List, [], ◌∷◌, map}
use Rattle.std.proofs.Common.{Result, Ok, Err, refl, sym, ap, subst, ◌∙◌, arith, inl, inr}
use Rattle.std.specs.Prelude.{IfOk, IsErr}
use Rattle.std.specs.List.{AllByRecursion}
use Rattle.std.proofs.lemmas.Bool.{cases_lt, ltb-true, ltb-false, le-ltb, lt-ltb, eqb-false, ne_eqb, and_cases}
use Rattle.der.specs.declared.error.Error.{Error}
use Rattle.der.specs.declared.error.Error.TheVariants as errors
use Rattle.der.specs.declared.contents.Integer.{Integer}
use Rattle.der.specs.Encoding.{unsigned_octets, integer_octets, IsDigits, IsInteger}
use Rattle.der.specs.Reading.{Gives, integer_in}
use Rattle.der.proofs.Steps.{IsBytes, IsBytes-rest, ok_is, guard_ok}

abbrev AllBelow : List ℕ → Type 0
AllBelow = AllByRecursion (λ d. d < 256)

abbrev turn : ℕ → ℕ
turn d = 255 - d

bytes_below : (xs : List ℕ) → IsBytes xs → AllBelow xs
bytes_below [] fits = tt
bytes_below (x ∷ xs) fits = (fits 0, bytes_below xs (IsBytes-rest x xs fits))

turned_below : (xs : List ℕ) → AllBelow (map turn xs)
turned_below [] = tt
turned_below (x ∷ xs) = (omega arith, turned_below xs)

turned_twice : (xs : List ℕ) → AllBelow xs → map turn (map turn xs) ≡ xs
turned_twice [] h = refl
turned_twice (x ∷ xs) h =
    let e : 255 - (255 - x) ≡ x = omega (arith, h.0) in
    ap (λ (k : ℕ). k ∷ map turn (map turn xs)) e ∙ ap (λ (l : List ℕ). x ∷ l) (turned_twice xs h.1)

-- ---- what is read

record IsUnsigned (xs : List ℕ) : Type 0 where
  pub digits : List ℕ
  pub are : IsDigits digits
  pub octets : xs ≡ unsigned_octets digits

unsigned_one : (b : ℕ) → b < 0x80 → IsUnsigned (b ∷ [])
unsigned_one zero lt = record { digits = []; are = record { below = tt; first = refl }; octets = refl }
unsigned_one (suc b) lt =
    let same : suc b ∷ [] ≡ unsigned_octets (suc b ∷ []) = rw (lt-ltb (suc b) 0x80 lt) refl in
    record { digits = suc b ∷ []; are = record { below = (omega (arith, lt), tt); first = lt-ltb 0 (suc b) (omega arith) }; octets = same }

unsigned_more : (b c : ℕ) (bs : List ℕ) → b < 0x80 → (b ≡ 0 → 0x80 ≤ c) → AllBelow (c ∷ bs) → IsUnsigned (b ∷ c ∷ bs)
unsigned_more zero c bs lt long below =
    let le : 0x80 ≤ c = long refl in
    let same : 0 ∷ c ∷ bs ≡ unsigned_octets (c ∷ bs) = rw (le-ltb c 0x80 le) refl in
    record { digits = c ∷ bs; are = record { below = below; first = lt-ltb 0 c (omega (arith, le)) }; octets = same }
unsigned_more (suc b) c bs lt long below =
    let same : suc b ∷ c ∷ bs ≡ unsigned_octets (suc b ∷ c ∷ bs) = rw (lt-ltb (suc b) 0x80 lt) refl in
    record { digits = suc b ∷ c ∷ bs; are = record { below = (omega (arith, lt), below); first = lt-ltb 0 (suc b) (omega arith) }; octets = same }

plain : (xs : List ℕ) → IsUnsigned xs → IsInteger false xs
plain xs h = record { digits = h.digits; are = h.are; octets = h.octets }

turned : (xs : List ℕ) → AllBelow xs → IsUnsigned (map turn xs) → IsInteger true xs
turned xs below h = record { digits = h.digits; are = h.are; octets = sym (turned_twice xs below) ∙ ap (map turn) h.octets }

-- no octet is left out that one more would need
zero_then : (b c : ℕ) → (eqb b 0 && ltb c 0x80) ≡ false → b ≡ 0 → 0x80 ≤ c
zero_then b c e z =
    elim (and_cases (eqb b 0) (ltb c 0x80) e) [
      | inl p ↦ absurd (eqb-false b 0 p z)
      | inr p ↦ ltb-false c 0x80 p
    ]

ones_then : (b c : ℕ) → (eqb b 0xff && ltb 0x7f c) ≡ false → b ≡ 0xff → c ≤ 0x7f
ones_then b c e z =
    elim (and_cases (eqb b 0xff) (ltb 0x7f c) e) [
      | inl p ↦ absurd (eqb-false b 0xff p z)
      | inr p ↦ ltb-false 0x7f c p
    ]

pub integer_takes : (xs : List ℕ) (negative : Bool) → IsBytes xs → integer_in xs ≡ Ok negative → IsInteger negative xs
unfolding integer_in
integer_takes [] negative fits e = absurd cc
integer_takes (b ∷ []) negative fits e =
    let sign : ltb 0x7f b ≡ negative = ok_is _ _ e in
    elim (cases_lt b 0x80) [
      | inl lt ↦
          let no : ltb 0x7f b ≡ false = le-ltb 0x7f b (omega (arith, lt)) in
          subst (λ (n : Bool). IsInteger n (b ∷ [])) (sym no ∙ sign) (plain (b ∷ []) (unsigned_one b lt))
      | inr le ↦
          let yes' : ltb 0x7f b ≡ true = lt-ltb 0x7f b (omega (arith, le)) in
          subst (λ (n : Bool). IsInteger n (b ∷ [])) (sym yes' ∙ sign)
          (turned (b ∷ []) (bytes_below (b ∷ []) fits) (unsigned_one (255 - b) (omega (arith, le))))
    ]
integer_takes (b ∷ c ∷ bs) negative fits e =
    let last : Result Bool Error = Ok (ltb 0x7f b) in
    let g = guard_ok (eqb b 0 && ltb c 0x80) errors.NotShortest (cond (eqb b 0xff && ltb 0x7f c) (Err errors.NotShortest) last) negative e in
    let k = guard_ok (eqb b 0xff && ltb 0x7f c) errors.NotShortest last negative g.1 in
    let sign : ltb 0x7f b ≡ negative = ok_is _ _ k.1 in
    let small : b < 256 = fits 0 in
    let below : AllBelow (b ∷ c ∷ bs) = bytes_below (b ∷ c ∷ bs) fits in
    elim (cases_lt b 0x80) [
      | inl lt ↦
          let no : ltb 0x7f b ≡ false = le-ltb 0x7f b (omega (arith, lt)) in
          subst (λ (n : Bool). IsInteger n (b ∷ c ∷ bs)) (sym no ∙ sign)
          (plain (b ∷ c ∷ bs) (unsigned_more b c bs lt (zero_then b c g.0) below.1))
      | inr le ↦
          let yes' : ltb 0x7f b ≡ true = lt-ltb 0x7f b (omega (arith, le)) in
          let long : 255 - b ≡ 0 → 0x80 ≤ 255 - c = λ z.
          let is : b ≡ 0xff = omega (arith, z, small) in
          omega (arith, ones_then b c k.0 is) in
          subst (λ (n : Bool). IsInteger n (b ∷ c ∷ bs)) (sym yes' ∙ sign)
          (turned (b ∷ c ∷ bs) below (unsigned_more (255 - b) (255 - c) (map turn bs) (omega (arith, le)) long (turned_below (c ∷ bs))))
    ]

-- ---- what is encoded

again_low : (d : ℕ) (ds : List ℕ) → 0 < d → d < 0x80 → integer_in (d ∷ ds) ≡ Ok false
unfolding integer_in
again_low d [] some lt = rw (le-ltb 0x7f d (omega (arith, lt))) refl
again_low d (e ∷ ds) some lt =
    let n0 : eqb d 0 ≡ false = ne_eqb _ _ (λ is. omega (arith, is, some)) in
    let n1 : eqb d 0xff ≡ false = ne_eqb _ _ (λ is. omega (arith, is, lt)) in
    rw (n0, n1, le-ltb 0x7f d (omega (arith, lt))) refl

again_high : (d : ℕ) (ds : List ℕ) → 0 < d → d < 0x80 → integer_in ((255 - d) ∷ ds) ≡ Ok true
unfolding integer_in
again_high d [] some lt = rw (lt-ltb 0x7f (255 - d) (omega (arith, lt))) refl
again_high d (e ∷ ds) some lt =
    let n0 : eqb (255 - d) 0 ≡ false = ne_eqb _ _ (λ is. omega (arith, is, lt)) in
    let n1 : eqb (255 - d) 0xff ≡ false = ne_eqb _ _ (λ is. omega (arith, is, some)) in
    rw (n0, n1, lt-ltb 0x7f (255 - d) (omega (arith, lt))) refl

again_after_zero : (d : ℕ) (ds : List ℕ) → 0x80 ≤ d → integer_in (0 ∷ d ∷ ds) ≡ Ok false
unfolding integer_in
again_after_zero d ds le = rw (le-ltb d 0x80 le) refl

again_after_ones : (d : ℕ) (ds : List ℕ) → 0x80 ≤ d → integer_in (255 ∷ (255 - d) ∷ ds) ≡ Ok true
unfolding integer_in
again_after_ones d ds le = rw (le-ltb 0x7f (255 - d) (omega (arith, le))) refl

pub integer_again : (negative : Bool) (ds : List ℕ) → IsDigits ds → integer_in (integer_octets negative ds) ≡ Ok negative
unfolding integer_in
integer_again false [] h = refl
integer_again true [] h = refl
integer_again false (d ∷ ds) h =
    let some : 0 < d = ltb-true 0 d h.first in
    elim (cases_lt d 0x80) [
      | inl lt ↦ let is : unsigned_octets (d ∷ ds) ≡ d ∷ ds = rw (lt-ltb d 0x80 lt) refl in
          ap integer_in is ∙ again_low d ds some lt
      | inr le ↦ let is : unsigned_octets (d ∷ ds) ≡ 0 ∷ d ∷ ds = rw (le-ltb d 0x80 le) refl in
          ap integer_in is ∙ again_after_zero d ds le
    ]
integer_again true (d ∷ ds) h =
    let some : 0 < d = ltb-true 0 d h.first in
    elim (cases_lt d 0x80) [
      | inl lt ↦ let is : unsigned_octets (d ∷ ds) ≡ d ∷ ds = rw (lt-ltb d 0x80 lt) refl in
          ap (λ (l : List ℕ). integer_in (map turn l)) is ∙ again_high d (map turn ds) some lt
      | inr le ↦ let is : unsigned_octets (d ∷ ds) ≡ 0 ∷ d ∷ ds = rw (le-ltb d 0x80 le) refl in
          ap (λ (l : List ℕ). integer_in (map turn l)) is ∙ again_after_ones d (map turn ds) le
    ]

-- ---- the clauses

module _ (xs : List ℕ) where
  pub integer_found : (r : Result Integer Error) → IsBytes xs → Gives (λ n. n.negative) r (integer_in xs) → IfOk r (λ n. IsInteger n.negative xs)
  integer_found (Ok n) fits h = integer_takes xs n.negative fits h
  integer_found (Err e) fits h = tt

  pub integer_none : (r : Result Integer Error) → Gives (λ n. n.negative) r (integer_in xs) → IsErr r → (negative : Bool) → IsInteger negative xs → ⊥
  integer_none (Ok n) h err = absurd cc
  integer_none (Err e) h err = λ negative is. let again = sym h ∙ ap integer_in is.octets ∙ integer_again negative is.digits is.are in absurd cc
