-- The purposes of an extended key usage, read one after the other.
use Rattle.std.proofs.Common.{◌≡◌, ℕ, ◌<◌, ◌≤◌, Bool, true, false, ◌||◌, List, [], ◌∷◌, ◌++◌, length, Result, Ok, Err}
use Rattle.std.proofs.Common.{refl, sym, ap, subst, ◌∙◌, arith}
use Rattle.std.specs.Prelude.{IfOk, IsErr}
use Rattle.std.specs.Str.{bytes_eq}
use Rattle.der.specs.Encoding.{element}
use Rattle.der.specs.Reading.{object_identifier_in}
use Rattle.der.proofs.Steps.{IsBytes}
use Rattle.certificates.specs.declared.error.Error.{Error}
use Rattle.certificates.specs.Tags.{OBJECT_IDENTIFIER, SEQUENCE}
use Rattle.certificates.specs.Items.{joined}
use Rattle.certificates.specs.Usage.{IsPurpose, ArePurposes, IsUsage, is_among}
use Rattle.certificates.specs.ExtensionReading.{identifier_field_at}
use Rattle.certificates.specs.Steps.{lifted, field_at, whole_field_at}
use Rattle.certificates.proofs.Chain.{bind_ok, ok_is, Below, field_below, whole_field_takes, whole_field_again}
use Rattle.certificates.proofs.Listing.{some_octet, identifier_field_takes, identifier_field_again}
use Rattle.certificates.proofs.Items.{ReadsItems, Walked, walked_none, walked_more, walked_shorter, walked_all, walked_stops}
use Rattle.certificates.proofs.Known.{whole_below}

abbrev pub octets_of : List ℕ → List ℕ
octets_of purpose = element OBJECT_IDENTIFIER purpose

identifier_below : (bs : List ℕ) (x : List ℕ × List ℕ) → IsBytes bs → identifier_field_at bs ≡ Ok x → Below x.0
unfolding identifier_field_at
identifier_below bs x fits e =
    let a = bind_ok (field_at OBJECT_IDENTIFIER bs) _ x e in
    let b = bind_ok (lifted (object_identifier_in a.0.0)) _ x a.2 in
    subst (λ (y : List ℕ × List ℕ). Below y.0) (ok_is a.0 x b.2) (field_below OBJECT_IDENTIFIER bs a.0 (omega arith) fits a.1)

pub exact : ReadsItems octets_of IsPurpose identifier_field_at
exact = record {
  takes = λ bs x fits e.
      let t = identifier_field_takes bs x fits e in
      record { parts = t.parts; is = record { identifier = t.is; size = identifier_below bs x fits e }; rest_fits = t.rest_fits };
  again = λ p rest is. identifier_field_again p rest is.size is.identifier;
  some = λ p. some_octet OBJECT_IDENTIFIER p;
}

or_false : (b : Bool) → (b || false) ≡ b
or_false true = refl
or_false false = refl

or_regroup : (a b c : Bool) → (a || (b || c)) ≡ ((a || b) || c)
or_regroup true b c = refl
or_regroup false b c = refl

among_more : (purpose : List ℕ) (front : List (List ℕ)) (p : List ℕ) → is_among purpose (front ++ p ∷ []) ≡ (is_among purpose front || bytes_eq p purpose)
among_more purpose [] p = or_false (bytes_eq p purpose)
among_more purpose (f ∷ front) p =
    ap (λ (b : Bool). bytes_eq f purpose || b) (among_more purpose front p) ∙ or_regroup (bytes_eq f purpose) (is_among purpose front) (bytes_eq p purpose)

-- ---- the loop

pub record AmongSoFar (content rest purpose : List ℕ) (found : Bool) : Type 0 where
  pub front : List (List ℕ)
  pub walked : Walked octets_of IsPurpose front content rest
  pub is : found ≡ is_among purpose front

pub among_begins : (content purpose : List ℕ) → IsBytes content → AmongSoFar content content purpose false
among_begins content purpose fits = record { front = []; walked = walked_none octets_of IsPurpose identifier_field_at exact content fits; is = refl }

pub among_goes_on : (content rest purpose : List ℕ) (found : Bool) (p after : List ℕ) (next : Bool) → AmongSoFar content rest purpose found
    → identifier_field_at rest ≡ Ok (p, after) → next ≡ (found || bytes_eq p purpose) → AmongSoFar content after purpose next
among_goes_on content rest purpose found p after next h at is =
    record {
      front = h.front ++ p ∷ [];
      walked = walked_more octets_of IsPurpose identifier_field_at exact h.front content rest p after h.walked at;
      is = is ∙ ap (λ (b : Bool). b || bytes_eq p purpose) h.is ∙ sym (among_more purpose h.front p);
    }

pub among_shorter : (content rest purpose : List ℕ) (found : Bool) (p after : List ℕ) → AmongSoFar content rest purpose found
    → identifier_field_at rest ≡ Ok (p, after) → length after < length rest
among_shorter content rest purpose found p after h at =
    walked_shorter octets_of IsPurpose identifier_field_at exact h.front content rest p after h.walked at

pub among_stops : (content rest purpose : List ℕ) (found : Bool) (d : Error) → AmongSoFar content rest purpose found → 0 < length rest
    → identifier_field_at rest ≡ Err d → (ps : List (List ℕ)) → ArePurposes ps content → ⊥
among_stops content rest purpose found d h some at ps a =
    walked_stops octets_of IsPurpose identifier_field_at exact h.front content rest d h.walked (λ is. omega (arith, is, some)) at ps a.are a.parts

pub among_ends : (content rest purpose : List ℕ) (found : Bool) → AmongSoFar content rest purpose found → length rest ≤ 0
    → (ps : List (List ℕ)) × ArePurposes ps content × (found ≡ is_among purpose ps)
among_ends content rest purpose found h none =
    let parts = walked_all octets_of IsPurpose identifier_field_at exact h.front content rest h.walked (omega (arith, none)) in
    (h.front, record { parts = parts; are = h.walked.are }, h.is)

-- ---- the clauses

module _ (value purpose : List ℕ) where
  pub usage_found : (content : List ℕ) (r : Result Bool Error) → IsBytes value → whole_field_at SEQUENCE value ≡ Ok content
      → IfOk r (λ b. (ps : List (List ℕ)) × ArePurposes ps content × (b ≡ is_among purpose ps))
      → IfOk r (λ b. (ps : List (List ℕ)) × IsUsage ps value × (b ≡ is_among purpose ps))
  usage_found content (Ok b) fits at h =
      let k = whole_field_takes SEQUENCE value content (omega arith) fits at in
      let a = h.1 in
      let size : Below content = whole_below SEQUENCE value content (omega arith) fits at in
      (h.0, record { are = a.are; size = subst Below a.parts size; parts = k.parts ∙ ap (element SEQUENCE) a.parts }, h.2)
  usage_found content (Err e) fits at h = tt

  pub usage_none : (content : List ℕ) (r : Result Bool Error) → whole_field_at SEQUENCE value ≡ Ok content
      → (IsErr r → (ps : List (List ℕ)) → ArePurposes ps content → ⊥) → IsErr r → (ps : List (List ℕ)) → IsUsage ps value → ⊥
  usage_none content r at none err ps u =
      let whole : List ℕ = joined octets_of ps in
      let same : content ≡ joined octets_of ps = ok_is content whole (sym at ∙ ap (whole_field_at SEQUENCE) u.parts ∙ whole_field_again SEQUENCE whole u.size) in
      none err ps (record { parts = same; are = u.are })

  pub no_usage : (d : Error) → whole_field_at SEQUENCE value ≡ Err d → (ps : List (List ℕ)) → IsUsage ps value → ⊥
  no_usage d at ps u =
      let again = sym at ∙ ap (whole_field_at SEQUENCE) u.parts ∙ whole_field_again SEQUENCE (joined octets_of ps) u.size in absurd cc
