-- A key that is read is encoded so, and what is encoded so is read.
use Rattle.std.proofs.Common.{◌≡◌, ◌≢◌, ℕ, ◌*◌, ◌<◌, ◌≤◌, Bool, true, false, cond, ltb, eqb, List, [], ◌∷◌, ◌++◌, length, take, drop, Option, Some, None, Result, Ok, Err}
use Rattle.std.proofs.Common.{refl, sym, ap, subst, ◌∙◌, arith, inl, inr, length-drop}
use Rattle.std.specs.Prelude.{IfSome, option_map}
use Rattle.std.specs.List.{AllByRecursion}
use Rattle.std.specs.Str.{bytes_eq}
use Rattle.std.proofs.lemmas.Bool.{cases_lt, ltb-false, le-ltb, lt-ltb, ltb-true, eqb-true, eqb-false, eq-eqb, ne_eqb}
use Rattle.std.proofs.lemmas.Option.{same_Some}
use Rattle.std.proofs.lemmas.List.{take_at, drop_at, take-append-drop, length-append, length-take}
use Rattle.std.proofs.lemmas.Slice.Eq.{bytes_eq-Decides}
use Rattle.der.specs.declared.error.Error.{Error as Fault}
use Rattle.der.specs.declared.error.Error.TheVariants as faults
use Rattle.der.specs.declared.tag.Tag.{Tag}
use Rattle.der.specs.Encoding.{element, length_octets, unsigned_octets, IsDigits}
use Rattle.der.specs.Reading.{unsigned_in, whole_at}
use Rattle.der.proofs.Steps.{IsBytes, IsBytes-rest, guard_ok}
use Rattle.der.proofs.Elements.{whole_takes}
use Rattle.certificates.specs.declared.error.Error.{Error}
use Rattle.certificates.specs.Tags.{INTEGER, BIT_STRING, SEQUENCE}
use Rattle.certificates.specs.Keys.{KeyForm, p256, p384, ed25519, rsa}
use Rattle.certificates.specs.Keys.{algorithm_octets, key_octets, info_octets, IsInfo, Fits, IsKey}
use Rattle.certificates.specs.KeyReading.{info_at, p256_algorithm, p384_algorithm, ed25519_algorithm, rsa_algorithm, point_in, rsa_at, from_rsa, known_key, key_in}
use Rattle.certificates.specs.Steps.{lifted, field_at, whole_field_at}
use Rattle.certificates.proofs.Chain.{bind_ok, ok_is, chosen, lifted_ok, Below, below_front, below_back, below_content, field_below, field_takes, whole_field_takes, field_again, whole_field_again}

-- ---- numbers that are not negative

abbrev found : {A : Type 0} → A → Result A Fault
found x = Ok x

found_is : {A : Type 0} (x y : A) → found x ≡ found y → x ≡ y
found_is x y e = cc

bytes_below : (xs : List ℕ) → IsBytes xs → AllByRecursion (λ d. d < 256) xs
bytes_below [] fits = tt
bytes_below (x ∷ xs) fits = (fits 0, bytes_below xs (IsBytes-rest x xs fits))

pub record TakesDigits (xs ds : List ℕ) : Type 0 where
  pub are : IsDigits ds
  pub octets : xs ≡ unsigned_octets ds

pub unsigned_takes : (xs ds : List ℕ) → IsBytes xs → unsigned_in xs ≡ Ok ds → TakesDigits xs ds
unfolding unsigned_in
unsigned_takes [] ds fits e = absurd cc
unsigned_takes (b ∷ []) ds fits e =
    let g = guard_ok (ltb 0x7f b) faults.Negative (cond (eqb b 0) (found []) (found (b ∷ []))) ds e in
    let small : b ≤ 0x7f = ltb-false 0x7f b g.0 in
    elim (chosen (eqb b 0) (found []) (found (b ∷ [])) (found ds) g.1) [
      | inl p ↦
          let zero : b ∷ [] ≡ 0 ∷ [] = ap (λ (k : ℕ). k ∷ []) (eqb-true b 0 p.0) in
          subst (TakesDigits (b ∷ [])) (found_is [] ds p.1) (record { are = record { below = tt; first = refl }; octets = zero })
      | inr p ↦
          let n : b ≢ 0 = eqb-false b 0 p.0 in
          let same : b ∷ [] ≡ unsigned_octets (b ∷ []) = rw (lt-ltb b 0x80 (omega (arith, small))) refl in
          subst (TakesDigits (b ∷ [])) (found_is (b ∷ []) ds p.1)
          (record { are = record { below = (omega (arith, small), tt); first = lt-ltb 0 b (omega (arith, n)) }; octets = same })
    ]
unsigned_takes (b ∷ c ∷ bs) ds fits e =
    let short : Result (List ℕ) Fault = cond (ltb c 0x80) (Err faults.NotShortest) (found (c ∷ bs)) in
    let g = guard_ok (ltb 0x7f b) faults.Negative (cond (eqb b 0) short (found (b ∷ c ∷ bs))) ds e in
    let small : b ≤ 0x7f = ltb-false 0x7f b g.0 in
    let below = bytes_below (b ∷ c ∷ bs) fits in
    elim (chosen (eqb b 0) short (found (b ∷ c ∷ bs)) (found ds) g.1) [
      | inl p ↦
          let k = guard_ok (ltb c 0x80) faults.NotShortest (found (c ∷ bs)) ds p.1 in
          let long : 0x80 ≤ c = ltb-false c 0x80 k.0 in
          let same : 0 ∷ c ∷ bs ≡ unsigned_octets (c ∷ bs) = rw (le-ltb c 0x80 long) refl in
          let octets : b ∷ c ∷ bs ≡ unsigned_octets (c ∷ bs) = ap (λ (k : ℕ). k ∷ c ∷ bs) (eqb-true b 0 p.0) ∙ same in
          subst (TakesDigits (b ∷ c ∷ bs)) (found_is (c ∷ bs) ds k.1)
          (record { are = record { below = below.1; first = lt-ltb 0 c (omega (arith, long)) }; octets = octets })
      | inr p ↦
          let n : b ≢ 0 = eqb-false b 0 p.0 in
          let same : b ∷ c ∷ bs ≡ unsigned_octets (b ∷ c ∷ bs) = rw (lt-ltb b 0x80 (omega (arith, small))) refl in
          subst (TakesDigits (b ∷ c ∷ bs)) (found_is (b ∷ c ∷ bs) ds p.1)
          (record { are = record { below = below; first = lt-ltb 0 b (omega (arith, n)) }; octets = same })
    ]

low_again : (d : ℕ) (ds : List ℕ) → 0 < d → d < 0x80 → unsigned_in (d ∷ ds) ≡ Ok (d ∷ ds)
unfolding unsigned_in
low_again d [] some lt = rw (le-ltb 0x7f d (omega (arith, lt)), ne_eqb d 0 (λ is. omega (arith, is, some))) refl
low_again d (e ∷ ds) some lt = rw (le-ltb 0x7f d (omega (arith, lt)), ne_eqb d 0 (λ is. omega (arith, is, some))) refl

high_again : (d : ℕ) (ds : List ℕ) → 0x80 ≤ d → unsigned_in (0 ∷ d ∷ ds) ≡ Ok (d ∷ ds)
unfolding unsigned_in
high_again d ds le = rw (le-ltb d 0x80 le) refl

pub unsigned_again : (ds : List ℕ) → IsDigits ds → unsigned_in (unsigned_octets ds) ≡ Ok ds
unfolding unsigned_in
unsigned_again [] h = refl
unsigned_again (d ∷ ds) h =
    elim (cases_lt d 0x80) [
      | inl lt ↦ let is : unsigned_octets (d ∷ ds) ≡ d ∷ ds = rw (lt-ltb d 0x80 lt) refl in
          ap unsigned_in is ∙ low_again d ds (ltb-true 0 d h.first) lt
      | inr le ↦ let is : unsigned_octets (d ∷ ds) ≡ 0 ∷ d ∷ ds = rw (le-ltb d 0x80 le) refl in
          ap unsigned_in is ∙ high_again d ds le
    ]

-- ---- the algorithm and the bit string

pub whole_below : (t : Tag) (bs content : List ℕ) → t.number < 31 → IsBytes bs → whole_field_at t bs ≡ Ok content → Below content
whole_below t bs content lt fits e = (whole_takes t bs content lt fits (lifted_ok (whole_at t bs) content e)).fits.size

pub record TakesInfo (info algorithm bits : List ℕ) : Type 0 where
  pub is : IsInfo algorithm bits info
  pub bits_fit : IsBytes bits

pub info_takes : (info : List ℕ) (x : List ℕ × List ℕ) → IsBytes info → info_at info ≡ Ok x → TakesInfo info x.0 x.1
unfolding info_at
info_takes info x fits e =
    let a = bind_ok (field_at SEQUENCE info) _ x e in
    let b = bind_ok (whole_field_at BIT_STRING a.0.1) _ x a.2 in
    let h = field_takes SEQUENCE info a.0 (omega arith) fits a.1 in
    let k = whole_field_takes BIT_STRING a.0.1 b.0 (omega arith) h.rest_fits b.1 in
    let made : List ℕ × List ℕ = (a.0.0, b.0) in
    let parts : info ≡ info_octets a.0.0 b.0 = h.parts ∙ ap (λ (r : List ℕ). element SEQUENCE a.0.0 ++ r) k.parts in
    let first : Below a.0.0 = field_below SEQUENCE info a.0 (omega arith) fits a.1 in
    let second : Below b.0 = whole_below BIT_STRING a.0.1 b.0 (omega arith) h.rest_fits b.1 in
    subst (λ (y : List ℕ × List ℕ). TakesInfo info y.0 y.1) (ok_is made x b.2)
    (record { is = record { parts = parts; algorithm_size = first; bits_size = second }; bits_fit = k.content_fits })

pub info_again : (info algorithm bits : List ℕ) → IsInfo algorithm bits info → info_at info ≡ Ok (algorithm, bits)
unfolding info_at
info_again info algorithm bits h =
    let read : info_at (info_octets algorithm bits) ≡ Ok (algorithm, bits) =
    rw (field_again SEQUENCE algorithm (element BIT_STRING bits) h.algorithm_size, whole_field_again BIT_STRING bits h.bits_size) refl in
    ap info_at h.parts ∙ read

-- ---- algorithms

p256_is : (x y : List ℕ) → algorithm_octets (p256 x y) ≡ p256_algorithm
unfolding element length_octets
p256_is x y = refl

p384_is : (x y : List ℕ) → algorithm_octets (p384 x y) ≡ p384_algorithm
unfolding element length_octets
p384_is x y = refl

ed25519_is : (k : List ℕ) → algorithm_octets (ed25519 k) ≡ ed25519_algorithm
unfolding element length_octets
ed25519_is k = refl

rsa_is : (n e : List ℕ) → algorithm_octets (rsa n e) ≡ rsa_algorithm
unfolding element length_octets
rsa_is n e = refl

-- ---- points

wanted_some : {A : Type 0} (b : Bool) (o : Option A) (y : A) → cond b o None ≡ Some y → (b ≡ true) × (o ≡ Some y)
wanted_some true o y e = (refl, e)
wanted_some false o y e = absurd cc

record TakesPoint (size : ℕ) (bs x y : List ℕ) : Type 0 where
  pub parts : bs ≡ 4 ∷ (x ++ y)
  pub first : length x ≡ size
  pub second : length y ≡ size

point_takes : (size : ℕ) (bs : List ℕ) (x : List ℕ × List ℕ) → point_in size bs ≡ Some x → TakesPoint size bs x.0 x.1
unfolding point_in
point_takes size [] x e = absurd cc
point_takes size (form ∷ rest) x e =
    let made : List ℕ × List ℕ = (take size rest, drop size rest) in
    let g = wanted_some (eqb form 4) (cond (eqb (length rest) (2 * size)) (Some made) None) x e in
    let k = wanted_some (eqb (length rest) (2 * size)) (Some made) x g.1 in
    let len : length rest ≡ 2 * size = eqb-true (length rest) (2 * size) k.0 in
    let first : length (take size rest) ≡ size = omega (arith, len, length-take size rest) in
    let second : length (drop size rest) ≡ size = omega (arith, len, length-drop size rest) in
    let parts : form ∷ rest ≡ 4 ∷ (take size rest ++ drop size rest) =
    ap (λ (k : ℕ). k ∷ rest) (eqb-true form 4 g.0) ∙ ap (λ (l : List ℕ). 4 ∷ l) (sym (take-append-drop size rest)) in
    subst (λ (y : List ℕ × List ℕ). TakesPoint size (form ∷ rest) y.0 y.1) (same_Some made x k.1) (record { parts = parts; first = first; second = second })

point_again : (size : ℕ) (x y : List ℕ) → length x ≡ size → length y ≡ size → point_in size (4 ∷ (x ++ y)) ≡ Some (x, y)
unfolding point_in
point_again size x y p q =
    let len : length (x ++ y) ≡ 2 * size = omega (arith, p, q, length-append x y) in
    rw (eq-eqb (length (x ++ y)) (2 * size) len, take_at x y size p, drop_at x y size p) refl

-- ---- keys of RSA

record TakesRsa (bs n e : List ℕ) : Type 0 where
  pub parts : bs ≡ key_octets (rsa n e)
  pub modulus : IsDigits n
  pub exponent : IsDigits e

rsa_takes : (bs : List ℕ) (x : List ℕ × List ℕ) → IsBytes bs → rsa_at bs ≡ Ok x → TakesRsa bs x.0 x.1
unfolding rsa_at
rsa_takes bs x fits e =
    let a = bind_ok (whole_field_at SEQUENCE bs) _ x e in
    let b = bind_ok (field_at INTEGER a.0) _ x a.2 in
    let c = bind_ok (whole_field_at INTEGER b.0.1) _ x b.2 in
    let n = bind_ok (lifted (unsigned_in b.0.0)) _ x c.2 in
    let m = bind_ok (lifted (unsigned_in c.0)) _ x n.2 in
    let h = whole_field_takes SEQUENCE bs a.0 (omega arith) fits a.1 in
    let k = field_takes INTEGER a.0 b.0 (omega arith) h.content_fits b.1 in
    let l = whole_field_takes INTEGER b.0.1 c.0 (omega arith) k.rest_fits c.1 in
    let p = unsigned_takes b.0.0 n.0 k.content_fits (lifted_ok (unsigned_in b.0.0) n.0 n.1) in
    let q = unsigned_takes c.0 m.0 l.content_fits (lifted_ok (unsigned_in c.0) m.0 m.1) in
    let made : List ℕ × List ℕ = (n.0, m.0) in
    let last : b.0.1 ≡ element INTEGER (unsigned_octets m.0) = l.parts ∙ ap (element INTEGER) q.octets in
    let content : a.0 ≡ element INTEGER (unsigned_octets n.0) ++ element INTEGER (unsigned_octets m.0) =
    k.parts ∙ ap (λ (s : List ℕ). element INTEGER s ++ b.0.1) p.octets ∙ ap (λ (r : List ℕ). element INTEGER (unsigned_octets n.0) ++ r) last in
    subst (λ (y : List ℕ × List ℕ). TakesRsa bs y.0 y.1) (ok_is made x m.2)
    (record { parts = h.parts ∙ ap (element SEQUENCE) content; modulus = p.are; exponent = q.are })

rsa_again : (n e : List ℕ) → IsDigits n → IsDigits e → Below (key_octets (rsa n e)) → rsa_at (key_octets (rsa n e)) ≡ Ok (n, e)
unfolding rsa_at
rsa_again n e p q lt =
    let inner : Below (element INTEGER (unsigned_octets n) ++ element INTEGER (unsigned_octets e)) = below_content SEQUENCE _ lt in
    let first : Below (element INTEGER (unsigned_octets n)) = below_front (element INTEGER (unsigned_octets n)) (element INTEGER (unsigned_octets e)) inner in
    let second : Below (element INTEGER (unsigned_octets e)) = below_back (element INTEGER (unsigned_octets n)) (element INTEGER (unsigned_octets e)) inner in
    rw (
      whole_field_again SEQUENCE (element INTEGER (unsigned_octets n) ++ element INTEGER (unsigned_octets e)) inner,
      field_again INTEGER (unsigned_octets n) (element INTEGER (unsigned_octets e)) (below_content INTEGER (unsigned_octets n) first),
      whole_field_again INTEGER (unsigned_octets e) (below_content INTEGER (unsigned_octets e) second),
      unsigned_again n p,
      unsigned_again e q,
    ) refl

-- ---- keys

record KnownAs (algorithm octets : List ℕ) (f : KeyForm) : Type 0 where
  pub algorithm_is : algorithm ≡ algorithm_octets f
  pub octets_are : octets ≡ key_octets f
  pub fits : Fits f

map_some : {A B : Type 0} (g : A → B) (o : Option A) (y : B) → option_map g o ≡ Some y → (x : A) × (o ≡ Some x) × (g x ≡ y)
map_some g (Some x) y e = (x, refl, same_Some (g x) y e)
map_some g None y e = absurd cc

from_rsa_some : (r : Result (List ℕ × List ℕ) Error) (f : KeyForm) → from_rsa r ≡ Some f → (x : List ℕ × List ℕ) × (r ≡ Ok x) × (rsa x.0 x.1 ≡ f)
from_rsa_some (Ok x) f e = (x, refl, same_Some (rsa x.0 x.1) f e)
from_rsa_some (Err d) f e = absurd cc

known_takes : (algorithm octets : List ℕ) (f : KeyForm) → IsBytes octets → known_key algorithm octets ≡ Some f → KnownAs algorithm octets f
unfolding known_key
known_takes algorithm octets f fits e =
    let none : Option KeyForm = None in
    let at4 : Option KeyForm = cond (bytes_eq algorithm rsa_algorithm) (from_rsa (rsa_at octets)) none in
    let ed : Option KeyForm = cond (eqb (length octets) 32) (Some (ed25519 octets)) none in
    let at3 : Option KeyForm = cond (bytes_eq algorithm ed25519_algorithm) ed at4 in
    let two : Option KeyForm = option_map (λ x. p384 x.0 x.1) (point_in 48 octets) in
    let at2 : Option KeyForm = cond (bytes_eq algorithm p384_algorithm) two at3 in
    let one : Option KeyForm = option_map (λ x. p256 x.0 x.1) (point_in 32 octets) in
    elim (chosen (bytes_eq algorithm p256_algorithm) one at2 (Some f) e) [
      | inl p ↦
          let a = map_some (λ (x : List ℕ × List ℕ). p256 x.0 x.1) (point_in 32 octets) f p.1 in
          let t = point_takes 32 octets a.0 a.1 in
          let is = (bytes_eq-Decides algorithm p256_algorithm).0 p.0 ∙ sym (p256_is a.0.0 a.0.1) in
          subst (KnownAs algorithm octets) a.2 (record { algorithm_is = is; octets_are = t.parts; fits = (t.first, t.second) })
      | inr q1 ↦ elim (chosen (bytes_eq algorithm p384_algorithm) two at3 (Some f) q1.1) [
        | inl p ↦
            let a = map_some (λ (x : List ℕ × List ℕ). p384 x.0 x.1) (point_in 48 octets) f p.1 in
            let t = point_takes 48 octets a.0 a.1 in
            let is = (bytes_eq-Decides algorithm p384_algorithm).0 p.0 ∙ sym (p384_is a.0.0 a.0.1) in
            subst (KnownAs algorithm octets) a.2 (record { algorithm_is = is; octets_are = t.parts; fits = (t.first, t.second) })
        | inr q2 ↦ elim (chosen (bytes_eq algorithm ed25519_algorithm) ed at4 (Some f) q2.1) [
          | inl p ↦
              let g = wanted_some (eqb (length octets) 32) (Some (ed25519 octets)) f p.1 in
              let is = (bytes_eq-Decides algorithm ed25519_algorithm).0 p.0 ∙ sym (ed25519_is octets) in
              subst (KnownAs algorithm octets) (same_Some (ed25519 octets) f g.1)
              (record { algorithm_is = is; octets_are = refl; fits = eqb-true (length octets) 32 g.0 })
          | inr q3 ↦
              let p = wanted_some (bytes_eq algorithm rsa_algorithm) (from_rsa (rsa_at octets)) f q3.1 in
              let a = from_rsa_some (rsa_at octets) f p.1 in
              let t = rsa_takes octets a.0 fits a.1 in
              let is = (bytes_eq-Decides algorithm rsa_algorithm).0 p.0 ∙ sym (rsa_is a.0.0 a.0.1) in
              subst (KnownAs algorithm octets) a.2 (record { algorithm_is = is; octets_are = t.parts; fits = (t.modulus, t.exponent) })
        ]
      ]
    ]

known_again : (f : KeyForm) → Fits f → Below (key_octets f) → known_key (algorithm_octets f) (key_octets f) ≡ Some f
unfolding known_key
known_again (p256 x y) h lt =
    let read : known_key p256_algorithm (4 ∷ (x ++ y)) ≡ Some (p256 x y) = rw (point_again 32 x y h.0 h.1) refl in
    ap (λ (a : List ℕ). known_key a (4 ∷ (x ++ y))) (p256_is x y) ∙ read
known_again (p384 x y) h lt =
    let read : known_key p384_algorithm (4 ∷ (x ++ y)) ≡ Some (p384 x y) = rw (point_again 48 x y h.0 h.1) refl in
    ap (λ (a : List ℕ). known_key a (4 ∷ (x ++ y))) (p384_is x y) ∙ read
known_again (ed25519 k) h lt =
    let read : known_key ed25519_algorithm k ≡ Some (ed25519 k) = rw (eq-eqb (length k) 32 h) refl in
    ap (λ (a : List ℕ). known_key a k) (ed25519_is k) ∙ read
known_again (rsa n e) h lt =
    let read : known_key rsa_algorithm (key_octets (rsa n e)) ≡ Some (rsa n e) = rw (rsa_again n e h.0 h.1 lt) refl in
    ap (λ (a : List ℕ). known_key a (key_octets (rsa n e))) (rsa_is n e) ∙ read

key_takes : (algorithm bits : List ℕ) (f : KeyForm) → IsBytes bits → key_in algorithm bits ≡ Some f → (octets : List ℕ) × (bits ≡ 0 ∷ octets) × KnownAs algorithm octets f
unfolding key_in
key_takes algorithm [] f fits e = absurd cc
key_takes algorithm (unused ∷ octets) f fits e =
    let g = wanted_some (eqb unused 0) (known_key algorithm octets) f e in
    (octets, ap (λ (k : ℕ). k ∷ octets) (eqb-true unused 0 g.0), known_takes algorithm octets f (IsBytes-rest unused octets fits) g.1)

pub key_again : (f : KeyForm) → Fits f → Below (0 ∷ key_octets f) → key_in (algorithm_octets f) (0 ∷ key_octets f) ≡ Some f
unfolding key_in
key_again f h lt = known_again f h (omega (arith, lt))

-- ---- the clauses

module _ (info a b : List ℕ) where
  pub key_found : (o : Option KeyForm) → IsBytes info → info_at info ≡ Ok (a, b) → o ≡ key_in a b → IfSome o (λ f. IsKey f info)
  key_found None fits at is = tt
  key_found (Some f) fits at is =
      let i = info_takes info (a, b) fits at in
      let k = key_takes a b f i.bits_fit (sym is) in
      let bits : b ≡ 0 ∷ key_octets f = k.1 ∙ ap (λ (l : List ℕ). 0 ∷ l) k.2.octets_are in
      record {
        fits = k.2.fits;
        is = subst (λ (l : List ℕ). IsInfo (algorithm_octets f) l info) bits (subst (λ (l : List ℕ). IsInfo l b info) k.2.algorithm_is i.is);
      }

  pub key_other : (o : Option KeyForm) → info_at info ≡ Ok (a, b) → o ≡ key_in a b → o ≡ None → (f : KeyForm) → IsKey f info → ⊥
  key_other o at is none f h =
      let x : List ℕ × List ℕ = (a, b) in
      let y : List ℕ × List ℕ = (algorithm_octets f, 0 ∷ key_octets f) in
      let same : x ≡ y = ok_is x y (sym at ∙ info_again info (algorithm_octets f) (0 ∷ key_octets f) h.is) in
      let read : key_in a b ≡ Some f = ap (λ (p : List ℕ × List ℕ). key_in p.0 p.1) same ∙ key_again f h.fits h.is.bits_size in
      let bad : None ≡ Some f = sym none ∙ is ∙ read in
      absurd cc

  pub info_found : IsBytes info → info_at info ≡ Ok (a, b) → (algorithm : List ℕ) × (bits : List ℕ) × IsInfo algorithm bits info
  info_found fits at = (a, b, (info_takes info (a, b) fits at).is)

pub no_info : (info : List ℕ) (d : Error) → info_at info ≡ Err d → (algorithm bits : List ℕ) → IsInfo algorithm bits info → ⊥
no_info info d at algorithm bits h = let again = sym at ∙ info_again info algorithm bits h in absurd cc
