-- What an extension says: read, it is encoded so, and what is encoded so is read.
use Rattle.std.proofs.Common.{◌≡◌, ℕ, ◌+◌, ◌<◌, Bool, true, false, eqb, List, ◌++◌, length, Option, Some, None, Result, Ok, Err, Bor}
use Rattle.std.proofs.Common.{refl, sym, ap, subst, ◌∙◌, arith, inl, inr}
use Rattle.std.specs.Prelude.{IfOk, IfSome, IsErr, option_map}
use Rattle.std.proofs.lemmas.Bool.{eqb-true, eq-eqb, ne_eqb}
use Rattle.std.proofs.lemmas.List.{nil_from_length}
use Rattle.der.specs.declared.tag.Tag.{Tag}
use Rattle.der.specs.Encoding.{element, begins_with, unsigned_octets, IsDigits}
use Rattle.der.specs.Reading.{unsigned_in}
use Rattle.der.proofs.Steps.{IsBytes}
use Rattle.der.proofs.Lengths.{length_tiny}
use Rattle.certificates.specs.declared.error.Error.{Error}
use Rattle.certificates.specs.declared.error.Error.TheVariants as errors
use Rattle.certificates.specs.declared.meaning.BasicConstraints.{BasicConstraints}
use Rattle.certificates.specs.Tags.{context, BOOLEAN, INTEGER, OCTET_STRING, SEQUENCE}
use Rattle.certificates.specs.Extensions.{critical_octets}
use Rattle.certificates.specs.Meanings.{path_octets, IsAaguid, IsNonce, IsConstraints}
use Rattle.certificates.specs.ExtensionReading.{critical_at}
use Rattle.certificates.specs.MeaningReading.{sized, aaguid_in, nonce_in, path_in, constraints_in}
use Rattle.certificates.specs.Steps.{Gives, ◌>>=◌, lifted, whole_field_at}
use Rattle.certificates.proofs.Chain.{bind_ok, ok_is, chosen, wanted_ok, lifted_ok, Below, below_back, below_content, whole_field_takes, whole_field_again}
use Rattle.certificates.proofs.Listing.{some_octet, critical_takes, critical_again}
use Rattle.certificates.proofs.Known.{unsigned_takes, unsigned_again, whole_below}

element_small : (t : Tag) (content : List ℕ) → length content < 0x80 → length (element t content) ≡ length content + 2
unfolding element
element_small t content lt = rw (length_tiny (length content) lt) (omega arith)

-- ---- the AAGUID

aaguid_takes : (value aaguid : List ℕ) → IsBytes value → aaguid_in value ≡ Ok aaguid → IsAaguid aaguid value
unfolding aaguid_in
aaguid_takes value aaguid fits e =
    let a = bind_ok (whole_field_at OCTET_STRING value) (λ o. sized 16 o) aaguid e in
    let g = wanted_ok (eqb (length a.0) 16) errors.Size (Ok a.0) aaguid a.2 in
    let h = whole_field_takes OCTET_STRING value a.0 (omega arith) fits a.1 in
    subst (λ (x : List ℕ). IsAaguid x value) (ok_is a.0 aaguid g.1) (record { size = eqb-true (length a.0) 16 g.0; parts = h.parts })

pub aaguid_again : (value aaguid : List ℕ) → IsAaguid aaguid value → aaguid_in value ≡ Ok aaguid
unfolding aaguid_in
aaguid_again value aaguid h =
    let size = h.size in
    let lt : Below aaguid = omega (arith, size) in
    let read : aaguid_in (element OCTET_STRING aaguid) ≡ Ok aaguid = rw (whole_field_again OCTET_STRING aaguid lt, eq-eqb (length aaguid) 16 size) refl in
    ap aaguid_in h.parts ∙ read

-- ---- the nonce

nonce_takes : (value nonce : List ℕ) → IsBytes value → nonce_in value ≡ Ok nonce → IsNonce nonce value
unfolding nonce_in
nonce_takes value nonce fits e =
    let a = bind_ok (whole_field_at SEQUENCE value) _ nonce e in
    let b = bind_ok (whole_field_at (context true 1) a.0) _ nonce a.2 in
    let c = bind_ok (whole_field_at OCTET_STRING b.0) _ nonce b.2 in
    let g = wanted_ok (eqb (length c.0) 32) errors.Size (Ok c.0) nonce c.2 in
    let h = whole_field_takes SEQUENCE value a.0 (omega arith) fits a.1 in
    let k = whole_field_takes (context true 1) a.0 b.0 (omega arith) h.content_fits b.1 in
    let l = whole_field_takes OCTET_STRING b.0 c.0 (omega arith) k.content_fits c.1 in
    let parts : value ≡ element SEQUENCE (element (context true 1) (element OCTET_STRING c.0)) =
    h.parts ∙ ap (element SEQUENCE) (k.parts ∙ ap (element (context true 1)) l.parts) in
    subst (λ (x : List ℕ). IsNonce x value) (ok_is c.0 nonce g.1) (record { size = eqb-true (length c.0) 32 g.0; parts = parts })

pub nonce_again : (value nonce : List ℕ) → IsNonce nonce value → nonce_in value ≡ Ok nonce
unfolding nonce_in
nonce_again value nonce h =
    let size = h.size in
    let lt : length nonce < 0x80 = omega (arith, size) in
    let one = element_small OCTET_STRING nonce lt in
    let lt1 : length (element OCTET_STRING nonce) < 0x80 = omega (arith, size, one) in
    let two = element_small (context true 1) (element OCTET_STRING nonce) lt1 in
    let b0 : Below nonce = omega (arith, size) in
    let b1 : Below (element OCTET_STRING nonce) = omega (arith, lt1) in
    let b2 : Below (element (context true 1) (element OCTET_STRING nonce)) = omega (arith, size, one, two) in
    let read : nonce_in (element SEQUENCE (element (context true 1) (element OCTET_STRING nonce))) ≡ Ok nonce =
    rw (
      whole_field_again SEQUENCE (element (context true 1) (element OCTET_STRING nonce)) b2,
      whole_field_again (context true 1) (element OCTET_STRING nonce) b1,
      whole_field_again OCTET_STRING nonce b0,
      eq-eqb (length nonce) 32 size,
    ) refl in
    ap nonce_in h.parts ∙ read

-- ---- basic constraints

record TakesPath (bs : List ℕ) (o : Option (List ℕ)) : Type 0 where
  pub parts : bs ≡ path_octets o
  pub digits : IfSome o IsDigits

path_takes : (bs : List ℕ) (o : Option (List ℕ)) → IsBytes bs → path_in bs ≡ Ok o → TakesPath bs o
unfolding path_in
path_takes bs o fits e =
    let none : Result (Option (List ℕ)) Error = Ok None in
    let some : Result (Option (List ℕ)) Error = whole_field_at INTEGER bs >>= λ number. lifted (unsigned_in number) >>= λ digits. Ok (Some digits) in
    elim (chosen (eqb (length bs) 0) none some (Ok o) e) [
      | inl p ↦
          subst (TakesPath bs) (ok_is None o p.1) (record { parts = nil_from_length bs (eqb-true (length bs) 0 p.0); digits = tt })
      | inr p ↦
          let a = bind_ok (whole_field_at INTEGER bs) (λ number. lifted (unsigned_in number) >>= λ digits. Ok (Some digits)) o p.1 in
          let d = bind_ok (lifted (unsigned_in a.0)) (λ digits. Ok (Some digits)) o a.2 in
          let h = whole_field_takes INTEGER bs a.0 (omega arith) fits a.1 in
          let t = unsigned_takes a.0 d.0 h.content_fits (lifted_ok (unsigned_in a.0) d.0 d.1) in
          subst (TakesPath bs) (ok_is (Some d.0) o d.2) (record { parts = h.parts ∙ ap (element INTEGER) t.octets; digits = t.are })
    ]

path_again : (o : Option (List ℕ)) → IfSome o IsDigits → Below (path_octets o) → path_in (path_octets o) ≡ Ok o
unfolding path_in
path_again None h lt = refl
path_again (Some digits) h lt =
    let octets = some_octet INTEGER (unsigned_octets digits) in
    let some : eqb (length (element INTEGER (unsigned_octets digits))) 0 ≡ false = ne_eqb _ _ (λ is. omega (arith, is, octets)) in
    rw (some, whole_field_again INTEGER (unsigned_octets digits) (below_content INTEGER (unsigned_octets digits) lt), unsigned_again digits h) refl

path_begins : (o : Option (List ℕ)) → begins_with BOOLEAN (path_octets o) ≡ false
unfolding element
path_begins None = refl
path_begins (Some digits) = refl

constraints_takes : (value : List ℕ) (x : Bool × Option (List ℕ)) → IsBytes value → constraints_in value ≡ Ok x → IsConstraints x.0 x.1 value
unfolding constraints_in
constraints_takes value x fits e =
    let a = bind_ok (whole_field_at SEQUENCE value) _ x e in
    let b = bind_ok (critical_at a.0) _ x a.2 in
    let c = bind_ok (path_in b.0.1) _ x b.2 in
    let h = whole_field_takes SEQUENCE value a.0 (omega arith) fits a.1 in
    let k = critical_takes a.0 b.0 h.content_fits b.1 in
    let l = path_takes b.0.1 c.0 k.rest_fits c.1 in
    let made : Bool × Option (List ℕ) = (b.0.0, c.0) in
    let content : a.0 ≡ critical_octets b.0.0 ++ path_octets c.0 = k.parts ∙ ap (λ (r : List ℕ). critical_octets b.0.0 ++ r) l.parts in
    let size : Below a.0 = whole_below SEQUENCE value a.0 (omega arith) fits a.1 in
    subst (λ (y : Bool × Option (List ℕ)). IsConstraints y.0 y.1 value) (ok_is made x c.2)
    (record { digits = l.digits; size = subst Below content size; parts = h.parts ∙ ap (element SEQUENCE) content })

pub constraints_again : (value : List ℕ) (authority : Bool) (path : Option (List ℕ)) → IsConstraints authority path value
    → constraints_in value ≡ Ok (authority, path)
unfolding constraints_in
constraints_again value authority path h =
    let last : Below (path_octets path) = below_back (critical_octets authority) (path_octets path) h.size in
    let read : constraints_in (element SEQUENCE (critical_octets authority ++ path_octets path)) ≡ Ok (authority, path) =
    rw (
      whole_field_again SEQUENCE (critical_octets authority ++ path_octets path) h.size,
      critical_again authority (path_octets path) (path_begins path),
      path_again path h.digits last,
    ) refl in
    ap constraints_in h.parts ∙ read

-- ---- the clauses

module _ (value : List ℕ) where
  pub aaguid_found : (r : Result (Bor (List ℕ)) Error) → IsBytes value → Gives (λ c. c.now) r (aaguid_in value) → IfOk r (λ a. IsAaguid a.now value)
  aaguid_found (Ok a) fits h = aaguid_takes value a.now fits h
  aaguid_found (Err e) fits h = tt

  pub aaguid_none : (r : Result (Bor (List ℕ)) Error) → Gives (λ c. c.now) r (aaguid_in value) → IsErr r → (a : List ℕ) → IsAaguid a value → ⊥
  aaguid_none (Ok a) h err = absurd cc
  aaguid_none (Err e) h err = λ a is. let again = sym h ∙ aaguid_again value a is in absurd cc

  pub nonce_found : (r : Result (Bor (List ℕ)) Error) → IsBytes value → Gives (λ c. c.now) r (nonce_in value) → IfOk r (λ a. IsNonce a.now value)
  nonce_found (Ok a) fits h = nonce_takes value a.now fits h
  nonce_found (Err e) fits h = tt

  pub nonce_none : (r : Result (Bor (List ℕ)) Error) → Gives (λ c. c.now) r (nonce_in value) → IsErr r → (a : List ℕ) → IsNonce a value → ⊥
  nonce_none (Ok a) h err = absurd cc
  nonce_none (Err e) h err = λ a is. let again = sym h ∙ nonce_again value a is in absurd cc

  pub constraints_found : (r : Result BasicConstraints Error) → IsBytes value
      → Gives (λ c. (c.authority, option_map (λ d. d.now) c.path_length)) r (constraints_in value)
      → IfOk r (λ c. IsConstraints c.authority (option_map (λ d. d.now) c.path_length) value)
  constraints_found (Ok c) fits h = constraints_takes value (c.authority, option_map (λ d. d.now) c.path_length) fits h
  constraints_found (Err e) fits h = tt

  pub constraints_none : (r : Result BasicConstraints Error) → Gives (λ c. (c.authority, option_map (λ d. d.now) c.path_length)) r (constraints_in value)
      → IsErr r → (authority : Bool) (path : Option (List ℕ)) → IsConstraints authority path value → ⊥
  constraints_none (Ok c) h err = absurd cc
  constraints_none (Err e) h err = λ authority path is. let again = sym h ∙ constraints_again value authority path is in absurd cc
