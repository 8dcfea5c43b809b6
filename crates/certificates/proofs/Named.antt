-- Names, whose parts and attributes are read one after the other.
use Rattle.std.proofs.Common.{◌≡◌, ℕ, ◌<◌, ◌≤◌, Bool, true, false, cond, eqb, List, [], ◌∷◌, ◌++◌, length, map, Option, Some, None, Ok, Err}
use Rattle.std.proofs.Common.{refl, sym, ap, subst, ◌∙◌, arith}
use Rattle.std.specs.List.{AllByRecursion}
use Rattle.std.specs.Str.{bytes_eq}
use Rattle.std.proofs.lemmas.Bool.{eqb-true}
use Rattle.std.proofs.lemmas.List.{append-nil, nil_from_length}
use Rattle.der.specs.declared.error.Error.TheVariants as faults
use Rattle.der.specs.declared.tag.Tag.{Tag}
use Rattle.der.specs.Encoding.{element, IsElement}
use Rattle.der.specs.Reading.{element_at}
use Rattle.der.proofs.Steps.{IsBytes}
use Rattle.der.proofs.Elements.{element_takes, element_again}
use Rattle.certificates.specs.declared.error.Error.{Error}
use Rattle.certificates.specs.declared.error.Error.TheVariants as errors
use Rattle.certificates.specs.Tags.{OBJECT_IDENTIFIER, SEQUENCE, SET}
use Rattle.certificates.specs.Items.{joined}
use Rattle.certificates.specs.Names.{AttributeForm, attribute_content, attribute_octets, IsAttribute, AreAttributes, IsPart, IsName, first_of, attribute_in, attribute_of}
use Rattle.certificates.specs.ExtensionReading.{identifier_field_at}
use Rattle.certificates.specs.NameReading.{any_at, attribute_from, attribute_at, kept_attribute}
use Rattle.certificates.specs.Steps.{lifted, field_at}
use Rattle.certificates.proofs.Chain.{bind_ok, ok_is, wanted_ok, lifted_ok, Below, below_front, below_content, field_below, field_takes, field_again}
use Rattle.certificates.proofs.Listing.{some_octet, identifier_field_takes, identifier_field_again}
use Rattle.certificates.proofs.Items.{ReadsItems, Walked, walked_none, walked_more, walked_shorter, walked_all, walked_stops, walked_next}

-- ---- one attribute

record TakesAny (bs : List ℕ) (t : Tag) (content : List ℕ) : Type 0 where
  pub parts : bs ≡ element t content
  pub is : IsElement t content

any_takes : (bs : List ℕ) (x : Tag × List ℕ) → IsBytes bs → any_at bs ≡ Ok x → TakesAny bs x.0 x.1
unfolding any_at
any_takes bs x fits e =
    let a = bind_ok (lifted (element_at bs)) _ x e in
    let g = wanted_ok (eqb (length a.0.1) 0) (errors.Encoding faults.Trailing) (Ok a.0.0) x a.2 in
    let t = element_takes bs a.0 fits (lifted_ok (element_at bs) a.0 a.1) in
    let nothing : a.0.1 ≡ [] = nil_from_length a.0.1 (eqb-true _ _ g.0) in
    let parts : bs ≡ element a.0.0.0 a.0.0.1 =
    t.takes.parts ∙ ap (λ (r : List ℕ). element a.0.0.0 a.0.0.1 ++ r) nothing ∙ append-nil (element a.0.0.0 a.0.0.1) in
    subst (λ (y : Tag × List ℕ). TakesAny bs y.0 y.1) (ok_is a.0.0 x g.1) (record { parts = parts; is = t.fits })

any_again : (t : Tag) (content : List ℕ) → IsElement t content → any_at (element t content) ≡ Ok (t, content)
unfolding any_at
any_again t content h =
    let read : element_at (element t content) ≡ Ok ((t, content), []) =
    ap element_at (sym (append-nil (element t content))) ∙ element_again t content [] h in
    rw read refl

record TakesContent (bs : List ℕ) (a : AttributeForm) : Type 0 where
  pub parts : bs ≡ attribute_content a
  pub identifier : IsAttribute a

attribute_from_takes : (bs : List ℕ) (x : AttributeForm) → IsBytes bs → Below bs → attribute_from bs ≡ Ok x → TakesContent bs x
unfolding attribute_from
attribute_from_takes bs x fits lt e =
    let a = bind_ok (identifier_field_at bs) _ x e in
    let b = bind_ok (any_at a.0.1) _ x a.2 in
    let h = identifier_field_takes bs a.0 fits a.1 in
    let k = any_takes a.0.1 b.0 h.rest_fits b.1 in
    let made : AttributeForm = record { identifier = a.0.0; tag = b.0.0; value = b.0.1 } in
    let parts : bs ≡ attribute_content made = h.parts ∙ ap (λ (r : List ℕ). element OBJECT_IDENTIFIER a.0.0 ++ r) k.parts in
    subst (TakesContent bs) (ok_is made x b.2)
    (record { parts = parts; identifier = record { identifier = h.is; value = k.is; size = subst Below parts lt } })

attribute_from_again : (a : AttributeForm) → IsAttribute a → attribute_from (attribute_content a) ≡ Ok a
unfolding attribute_from
attribute_from_again a h =
    let lt : Below (element OBJECT_IDENTIFIER a.identifier) = below_front (element OBJECT_IDENTIFIER a.identifier) (element a.tag a.value) h.size in
    rw (
      identifier_field_again a.identifier (element a.tag a.value) (below_content OBJECT_IDENTIFIER a.identifier lt) h.identifier,
      any_again a.tag a.value h.value,
    ) refl

record TakesAttribute (bs : List ℕ) (a : AttributeForm) (rest : List ℕ) : Type 0 where
  pub parts : bs ≡ attribute_octets a ++ rest
  pub is : IsAttribute a
  pub rest_fits : IsBytes rest

attribute_takes : (bs : List ℕ) (x : AttributeForm × List ℕ) → IsBytes bs → attribute_at bs ≡ Ok x → TakesAttribute bs x.0 x.1
unfolding attribute_at
attribute_takes bs x fits e =
    let a = bind_ok (field_at SEQUENCE bs) _ x e in
    let b = bind_ok (attribute_from a.0.0) _ x a.2 in
    let h = field_takes SEQUENCE bs a.0 (omega arith) fits a.1 in
    let size : Below a.0.0 = field_below SEQUENCE bs a.0 (omega arith) fits a.1 in
    let k = attribute_from_takes a.0.0 b.0 h.content_fits size b.1 in
    let made : AttributeForm × List ℕ = (b.0, a.0.1) in
    let parts : bs ≡ attribute_octets b.0 ++ a.0.1 = h.parts ∙ ap (λ (l : List ℕ). element SEQUENCE l ++ a.0.1) k.parts in
    subst (λ (y : AttributeForm × List ℕ). TakesAttribute bs y.0 y.1) (ok_is made x b.2) (record { parts = parts; is = k.identifier; rest_fits = h.rest_fits })

attribute_again : (a : AttributeForm) (rest : List ℕ) → IsAttribute a → attribute_at (attribute_octets a ++ rest) ≡ Ok (a, rest)
unfolding attribute_at
attribute_again a rest h = rw (field_again SEQUENCE (attribute_content a) rest h.size, attribute_from_again a h) refl

abbrev pub octets_of : AttributeForm → List ℕ
octets_of a = attribute_octets a

pub exact : ReadsItems octets_of IsAttribute attribute_at
exact = record {
  takes = λ bs x fits e. let t = attribute_takes bs x fits e in record { parts = t.parts; is = t.is; rest_fits = t.rest_fits };
  again = λ a rest is. attribute_again a rest is;
  some = λ a. some_octet SEQUENCE (attribute_content a);
}

-- ---- the attributes of a part

attribute_more : (identifier : List ℕ) (front : List AttributeForm) (a : AttributeForm)
    → attribute_in identifier (front ++ a ∷ []) ≡ kept_attribute identifier (attribute_in identifier front) a
attribute_more identifier [] a = refl
attribute_more identifier (f ∷ front) a = of (bytes_eq f.identifier identifier) (attribute_more identifier front a) where
  of : (b : Bool) → attribute_in identifier (front ++ a ∷ []) ≡ kept_attribute identifier (attribute_in identifier front) a
      → cond b (Some f) (attribute_in identifier (front ++ a ∷ [])) ≡ kept_attribute identifier (cond b (Some f) (attribute_in identifier front)) a
  of true h = refl
  of false h = h

pub record PartSoFar (content rest identifier : List ℕ) (o : Option AttributeForm) : Type 0 where
  pub front : List AttributeForm
  pub walked : Walked octets_of IsAttribute front content rest
  pub is : o ≡ attribute_in identifier front

pub part_begins : (content identifier : List ℕ) → IsBytes content → PartSoFar content content identifier None
part_begins content identifier fits = record { front = []; walked = walked_none octets_of IsAttribute attribute_at exact content fits; is = refl }

pub part_goes_on : (content rest identifier : List ℕ) (o : Option AttributeForm) (a : AttributeForm) (after : List ℕ) (p : Option AttributeForm)
    → PartSoFar content rest identifier o → attribute_at rest ≡ Ok (a, after) → p ≡ kept_attribute identifier o a → PartSoFar content after identifier p
part_goes_on content rest identifier o a after p h at is =
    record {
      front = h.front ++ a ∷ [];
      walked = walked_more octets_of IsAttribute attribute_at exact h.front content rest a after h.walked at;
      is = is ∙ ap (λ (x : Option AttributeForm). kept_attribute identifier x a) h.is ∙ sym (attribute_more identifier h.front a);
    }

pub part_shorter : (content rest identifier : List ℕ) (o : Option AttributeForm) (a : AttributeForm) (after : List ℕ) → PartSoFar content rest identifier o
    → attribute_at rest ≡ Ok (a, after) → length after < length rest
part_shorter content rest identifier o a after h at =
    walked_shorter octets_of IsAttribute attribute_at exact h.front content rest a after h.walked at

pub part_stops : (content rest identifier : List ℕ) (o : Option AttributeForm) (d : Error) → PartSoFar content rest identifier o → 0 < length rest
    → attribute_at rest ≡ Err d → (xs : List AttributeForm) → AreAttributes xs content → ⊥
part_stops content rest identifier o d h some at xs are =
    walked_stops octets_of IsAttribute attribute_at exact h.front content rest d h.walked (λ is. omega (arith, is, some)) at xs are.are are.parts

pub part_ends : (content rest identifier : List ℕ) (o : Option AttributeForm) → PartSoFar content rest identifier o → length rest ≤ 0
    → (xs : List AttributeForm) × AreAttributes xs content × (o ≡ attribute_in identifier xs)
part_ends content rest identifier o h none =
    let parts = walked_all octets_of IsAttribute attribute_at exact h.front content rest h.walked (omega (arith, none)) in
    (h.front, record { parts = parts; are = h.walked.are }, h.is)

-- ---- the parts of a name

abbrev pub set_of : List ℕ → List ℕ
set_of content = element SET content

pub exact_sets : ReadsItems set_of Below (field_at SET)
exact_sets = record {
  takes = λ bs x fits e.
      let t = field_takes SET bs x (omega arith) fits e in
      record { parts = t.parts; is = field_below SET bs x (omega arith) fits e; rest_fits = t.rest_fits };
  again = λ c rest lt. field_again SET c rest lt;
  some = λ c. some_octet SET c;
}

abbrev pub content_of : List AttributeForm → List ℕ
content_of xs = joined attribute_octets xs

sets_more : (parts : List (List AttributeForm)) (xs : List AttributeForm) → map content_of (parts ++ xs ∷ []) ≡ map content_of parts ++ content_of xs ∷ []
sets_more [] xs = refl
sets_more (p ∷ parts) xs = ap (λ (l : List (List ℕ)). content_of p ∷ l) (sets_more parts xs)

parts_more : (parts : List (List AttributeForm)) (xs : List AttributeForm) → AllByRecursion IsPart parts → IsPart xs → AllByRecursion IsPart (parts ++ xs ∷ [])
parts_more [] xs h is = (is, tt)
parts_more (p ∷ parts) xs h is = (h.0, parts_more parts xs h.1 is)

pub parts_below : (parts : List (List AttributeForm)) → AllByRecursion IsPart parts → AllByRecursion Below (map content_of parts)
parts_below [] h = tt
parts_below (p ∷ parts) h = (h.0.size, parts_below parts h.1)

first_none : (x : Option AttributeForm) → first_of x None ≡ x
first_none (Some a) = refl
first_none None = refl

first_regroup : (x y z : Option AttributeForm) → first_of x (first_of y z) ≡ first_of (first_of x y) z
first_regroup (Some a) y z = refl
first_regroup None y z = refl

name_more : (identifier : List ℕ) (parts : List (List AttributeForm)) (xs : List AttributeForm)
    → attribute_of identifier (parts ++ xs ∷ []) ≡ first_of (attribute_of identifier parts) (attribute_in identifier xs)
name_more identifier [] xs = first_none (attribute_in identifier xs)
name_more identifier (p ∷ parts) xs =
    ap (first_of (attribute_in identifier p)) (name_more identifier parts xs)
    ∙ first_regroup (attribute_in identifier p) (attribute_of identifier parts) (attribute_in identifier xs)

pub record NameSoFar (content rest identifier : List ℕ) (o : Option AttributeForm) : Type 0 where
  pub parts : List (List AttributeForm)
  pub walked : Walked set_of Below (map content_of parts) content rest
  pub are : AllByRecursion IsPart parts
  pub is : o ≡ attribute_of identifier parts

pub name_begins : (content identifier : List ℕ) → IsBytes content → NameSoFar content content identifier None
name_begins content identifier fits =
    record { parts = []; walked = walked_none set_of Below (field_at SET) exact_sets content fits; are = tt; is = refl }

-- what was found in a part
abbrev pub Here : List ℕ → List ℕ → Option AttributeForm → Type 0
Here identifier c p = (xs : List AttributeForm) × AreAttributes xs c × (p ≡ attribute_in identifier xs)

pub name_goes_on : (content rest identifier : List ℕ) (o : Option AttributeForm) (c after : List ℕ) (p q : Option AttributeForm)
    → NameSoFar content rest identifier o → field_at SET rest ≡ Ok (c, after) → Here identifier c p → q ≡ first_of o p → NameSoFar content after identifier q
name_goes_on content rest identifier o c after p q h at here is =
    let xs : List AttributeForm = here.0 in
    let a = here.1 in
    let more = walked_more set_of Below (field_at SET) exact_sets (map content_of h.parts) content rest c after h.walked at in
    let sets : map content_of (h.parts ++ here.0 ∷ []) ≡ map content_of h.parts ++ c ∷ [] =
    sets_more h.parts here.0 ∙ ap (λ (l : List ℕ). map content_of h.parts ++ l ∷ []) (sym a.parts) in
    let size : Below c = field_below SET rest (c, after) (omega arith) h.walked.rest_fits at in
    record {
      parts = h.parts ++ here.0 ∷ [];
      walked = subst (λ (xs : List (List ℕ)). Walked set_of Below xs content after) (sym sets) more;
      are = parts_more h.parts here.0 h.are (record { are = a.are; size = subst Below a.parts size });
      is = is ∙ ap (λ (x : Option AttributeForm). first_of x p) h.is ∙ ap (first_of (attribute_of identifier h.parts)) here.2
          ∙ sym (name_more identifier h.parts here.0);
    }

pub name_shorter : (content rest identifier : List ℕ) (o : Option AttributeForm) (c after : List ℕ) → NameSoFar content rest identifier o
    → field_at SET rest ≡ Ok (c, after) → length after < length rest
name_shorter content rest identifier o c after h at =
    walked_shorter set_of Below (field_at SET) exact_sets (map content_of h.parts) content rest c after h.walked at

pub name_stops : (content rest identifier : List ℕ) (o : Option AttributeForm) (d : Error) → NameSoFar content rest identifier o → 0 < length rest
    → field_at SET rest ≡ Err d → (ps : List (List AttributeForm)) → IsName ps content → ⊥
name_stops content rest identifier o d h some at ps n =
    walked_stops set_of Below (field_at SET) exact_sets (map content_of h.parts) content rest d h.walked (λ is. omega (arith, is, some)) at
    (map content_of ps) (parts_below ps n.are) n.octets

has_part : (front : List (List ℕ)) (ps : List (List AttributeForm)) (c : List ℕ) (more : List (List ℕ)) → AllByRecursion IsPart ps
    → map content_of ps ≡ front ++ (c ∷ more) → (xs : List AttributeForm) × AreAttributes xs c
has_part [] [] c more h e = absurd cc
has_part [] (p ∷ ps) c more h e =
    let first : content_of p ≡ c = cc in
    (p, record { parts = sym first; are = h.0.are })
has_part (f ∷ front) [] c more h e = absurd cc
has_part (f ∷ front) (p ∷ ps) c more h e =
    let tail : map content_of ps ≡ front ++ (c ∷ more) = cc in
    has_part front ps c more h.1 tail

pub part_is_none : (content rest identifier : List ℕ) (o : Option AttributeForm) (c after : List ℕ) → NameSoFar content rest identifier o
    → field_at SET rest ≡ Ok (c, after) → ((xs : List AttributeForm) → AreAttributes xs c → ⊥) → (ps : List (List AttributeForm)) → IsName ps content → ⊥
part_is_none content rest identifier o c after h at none ps n =
    let k = walked_next set_of Below (field_at SET) exact_sets (map content_of h.parts) content rest c after h.walked at
    (map content_of ps) (parts_below ps n.are) n.octets in
    let p = has_part (map content_of h.parts) ps c k.0 n.are k.1 in
    none p.0 p.1

pub name_ends : (content rest identifier : List ℕ) (o : Option AttributeForm) → NameSoFar content rest identifier o → length rest ≤ 0
    → (ps : List (List AttributeForm)) × IsName ps content × (o ≡ attribute_of identifier ps)
name_ends content rest identifier o h none =
    let octets = walked_all set_of Below (field_at SET) exact_sets (map content_of h.parts) content rest h.walked (omega (arith, none)) in
    (h.parts, record { octets = octets; are = h.are }, h.is)
