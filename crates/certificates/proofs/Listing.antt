-- Extensions that are read one after the other.
use Rattle.std.proofs.Common.{◌≡◌, ◌≢◌, ℕ, ◌<◌, Bool, true, false, cond, eqb, List, [], ◌∷◌, ◌++◌, length, Option, Some, None, Result, Ok, Err}
use Rattle.std.proofs.Common.{refl, sym, ap, subst, ◌∙◌, append_assoc, arith, inl, inr}
use Rattle.std.specs.List.{AllByRecursion}
use Rattle.std.specs.Str.{bytes_eq}
use Rattle.std.proofs.lemmas.Bool.{eqb-true}
use Rattle.std.proofs.lemmas.List.{append-nil, length-append, nil_from_length}
use Rattle.der.specs.declared.error.Error.{Error as Fault}
use Rattle.der.specs.declared.error.Error.TheVariants as faults
use Rattle.der.specs.declared.tag.Tag.{Tag}
use Rattle.der.specs.Encoding.{element, begins_with, boolean_octets, IsObjectIdentifier}
use Rattle.der.specs.Reading.{boolean_in, object_identifier_in}
use Rattle.der.proofs.Steps.{IsBytes}
use Rattle.der.proofs.ObjectIdentifiers.{identifier_takes, identifier_again}
use Rattle.certificates.specs.declared.error.Error.{Error}
use Rattle.certificates.specs.declared.error.Error.TheVariants as errors
use Rattle.certificates.specs.Tags.{BOOLEAN, OBJECT_IDENTIFIER, OCTET_STRING, SEQUENCE}
use Rattle.certificates.specs.Extensions.{ExtensionForm, critical_octets, extension_content, extensions_content, found_in, IsExtension, AreListed, Distinct, AreExtensions}
use Rattle.certificates.specs.ExtensionReading.{after_flag, critical_at, identifier_field_at, extension_in, extension_at}
use Rattle.certificates.specs.Walks.{kept}
use Rattle.certificates.specs.Steps.{lifted, field_at, optional_field_at, whole_field_at}
use Rattle.certificates.proofs.Chain.{bind_ok, ok_is, chosen, wanted_ok, lifted_ok, Below, below_front, below_back, below_content, field_below, field_takes, whole_field_takes}
use Rattle.certificates.proofs.Chain.{TakesMaybe, optional_field_takes, field_again, whole_field_again, some_again, none_again}

-- ---- one extension

abbrev found : {A : Type 0} → A → Result A Fault
found x = Ok x

found_is : {A : Type 0} (x y : A) → found x ≡ found y → x ≡ y
found_is x y e = cc

boolean_is : (c : List ℕ) (b : Bool) → boolean_in c ≡ Ok b → c ≡ boolean_octets b
unfolding boolean_in
boolean_is [] b e = absurd cc
boolean_is (x ∷ []) b e =
    let none : Result Bool Fault = Err faults.NotBoolean in
    elim (chosen (eqb x 0) (found false) (cond (eqb x 0xff) (found true) none) (Ok b) e) [
      | inl p ↦ subst (λ (t : Bool). x ∷ [] ≡ boolean_octets t) (found_is false b p.1) (ap (λ (k : ℕ). k ∷ []) (eqb-true x 0 p.0))
      | inr q ↦ elim (chosen (eqb x 0xff) (found true) none (Ok b) q.1) [
        | inl p ↦ subst (λ (t : Bool). x ∷ [] ≡ boolean_octets t) (found_is true b p.1) (ap (λ (k : ℕ). k ∷ []) (eqb-true x 0xff p.0))
        | inr p ↦ let bad = p.1 in absurd cc
      ]
    ]
boolean_is (x ∷ y ∷ bs) b e = absurd cc

pub record TakesFlag (bs : List ℕ) (critical : Bool) (rest : List ℕ) : Type 0 where
  pub parts : bs ≡ critical_octets critical ++ rest
  pub rest_fits : IsBytes rest

flag_takes : (bs : List ℕ) (o : Option (List ℕ)) (rest : List ℕ) (x : Bool × List ℕ) → TakesMaybe BOOLEAN bs o rest → after_flag o rest ≡ Ok x
    → TakesFlag bs x.0 x.1
flag_takes bs None rest x h e =
    subst (λ (y : Bool × List ℕ). TakesFlag bs y.0 y.1) (ok_is (false, rest) x e) (record { parts = h.parts; rest_fits = h.rest_fits })
flag_takes bs (Some flag) rest x h e =
    let made : Bool × List ℕ = (true, rest) in
    let a = bind_ok (lifted (boolean_in flag)) (λ critical. cond critical (Ok made) (Err errors.Default)) x e in
    let g = wanted_ok a.0 errors.Default (Ok made) x a.2 in
    let is : flag ≡ boolean_octets true = boolean_is flag a.0 (lifted_ok (boolean_in flag) a.0 a.1) ∙ ap boolean_octets g.0 in
    let parts : bs ≡ critical_octets true ++ rest = h.parts ∙ ap (λ (l : List ℕ). element BOOLEAN l ++ rest) is in
    subst (λ (y : Bool × List ℕ). TakesFlag bs y.0 y.1) (ok_is made x g.1) (record { parts = parts; rest_fits = h.rest_fits })

pub critical_takes : (bs : List ℕ) (x : Bool × List ℕ) → IsBytes bs → critical_at bs ≡ Ok x → TakesFlag bs x.0 x.1
unfolding critical_at
critical_takes bs x fits e =
    let a = bind_ok (optional_field_at BOOLEAN bs) (λ flag. after_flag flag.0 flag.1) x e in
    flag_takes bs a.0.0 a.0.1 x (optional_field_takes BOOLEAN bs a.0 (omega arith) fits a.1) a.2

pub critical_again : (critical : Bool) (rest : List ℕ) → begins_with BOOLEAN rest ≡ false → critical_at (critical_octets critical ++ rest) ≡ Ok (critical, rest)
unfolding critical_at boolean_in
critical_again false rest e = rw (none_again BOOLEAN rest e) refl
critical_again true rest e = rw (some_again BOOLEAN (0xff ∷ []) rest (omega arith)) refl

pub record TakesIdentifier (bs identifier rest : List ℕ) : Type 0 where
  pub parts : bs ≡ element OBJECT_IDENTIFIER identifier ++ rest
  pub is : IsObjectIdentifier identifier
  pub rest_fits : IsBytes rest

pub identifier_field_takes : (bs : List ℕ) (x : List ℕ × List ℕ) → IsBytes bs → identifier_field_at bs ≡ Ok x → TakesIdentifier bs x.0 x.1
unfolding identifier_field_at
identifier_field_takes bs x fits e =
    let a = bind_ok (field_at OBJECT_IDENTIFIER bs) _ x e in
    let b = bind_ok (lifted (object_identifier_in a.0.0)) _ x a.2 in
    let k = field_takes OBJECT_IDENTIFIER bs a.0 (omega arith) fits a.1 in
    let is = identifier_takes a.0.0 b.0 k.content_fits (lifted_ok (object_identifier_in a.0.0) b.0 b.1) in
    subst (λ (y : List ℕ × List ℕ). TakesIdentifier bs y.0 y.1) (ok_is a.0 x b.2) (record { parts = k.parts; is = is; rest_fits = k.rest_fits })

pub identifier_field_again : (identifier rest : List ℕ) → Below identifier → IsObjectIdentifier identifier
    → identifier_field_at (element OBJECT_IDENTIFIER identifier ++ rest) ≡ Ok (identifier, rest)
unfolding identifier_field_at
identifier_field_again identifier rest lt is = rw (field_again OBJECT_IDENTIFIER identifier rest lt, identifier_again identifier is) refl

pub record TakesContent (content : List ℕ) (e : ExtensionForm) : Type 0 where
  pub parts : content ≡ extension_content e
  pub is : IsObjectIdentifier e.identifier

extension_in_takes : (bs : List ℕ) (x : ExtensionForm) → IsBytes bs → extension_in bs ≡ Ok x → TakesContent bs x
unfolding extension_in
extension_in_takes bs x fits e =
    let a = bind_ok (identifier_field_at bs) _ x e in
    let b = bind_ok (critical_at a.0.1) _ x a.2 in
    let c = bind_ok (whole_field_at OCTET_STRING b.0.1) _ x b.2 in
    let h = identifier_field_takes bs a.0 fits a.1 in
    let k = critical_takes a.0.1 b.0 h.rest_fits b.1 in
    let m = whole_field_takes OCTET_STRING b.0.1 c.0 (omega arith) k.rest_fits c.1 in
    let made : ExtensionForm = record { identifier = a.0.0; critical = b.0.0; value = c.0 } in
    let parts : bs ≡ extension_content made =
    h.parts ∙ ap (λ (r : List ℕ). element OBJECT_IDENTIFIER a.0.0 ++ r) (k.parts ∙ ap (λ (r : List ℕ). critical_octets b.0.0 ++ r) m.parts) in
    subst (λ (y : ExtensionForm). TakesContent bs y) (ok_is made x c.2) (record { parts = parts; is = h.is })

value_begins : (value : List ℕ) → begins_with BOOLEAN (element OCTET_STRING value) ≡ false
unfolding element
value_begins value = refl

extension_in_again : (e : ExtensionForm) → IsExtension e → extension_in (extension_content e) ≡ Ok e
unfolding extension_in
extension_in_again e h =
    let after : List ℕ = critical_octets e.critical ++ element OCTET_STRING e.value in
    let l0 : Below (element OBJECT_IDENTIFIER e.identifier) = below_front (element OBJECT_IDENTIFIER e.identifier) after h.size in
    let l1 : Below after = below_back (element OBJECT_IDENTIFIER e.identifier) after h.size in
    let l2 : Below (element OCTET_STRING e.value) = below_back (critical_octets e.critical) (element OCTET_STRING e.value) l1 in
    rw (
      identifier_field_again e.identifier (critical_octets e.critical ++ element OCTET_STRING e.value) (below_content OBJECT_IDENTIFIER e.identifier l0) h.identifier,
      critical_again e.critical (element OCTET_STRING e.value) (value_begins e.value),
      whole_field_again OCTET_STRING e.value (below_content OCTET_STRING e.value l2),
    ) refl

abbrev pub octets_of : ExtensionForm → List ℕ
octets_of e = element SEQUENCE (extension_content e)

pub some_octet : (t : Tag) (content : List ℕ) → 0 < length (element t content)
unfolding element
some_octet t content = omega arith

pub record TakesExtension (bs : List ℕ) (e : ExtensionForm) (rest : List ℕ) : Type 0 where
  pub parts : bs ≡ octets_of e ++ rest
  pub is : IsExtension e
  pub rest_fits : IsBytes rest
  pub shorter : length rest < length bs

pub extension_takes : (bs : List ℕ) (x : ExtensionForm × List ℕ) → IsBytes bs → extension_at bs ≡ Ok x → TakesExtension bs x.0 x.1
unfolding extension_at
extension_takes bs x fits e =
    let a = bind_ok (field_at SEQUENCE bs) _ x e in
    let b = bind_ok (extension_in a.0.0) _ x a.2 in
    let h = field_takes SEQUENCE bs a.0 (omega arith) fits a.1 in
    let size : Below a.0.0 = field_below SEQUENCE bs a.0 (omega arith) fits a.1 in
    let k = extension_in_takes a.0.0 b.0 h.content_fits b.1 in
    let made : ExtensionForm × List ℕ = (b.0, a.0.1) in
    let parts : bs ≡ octets_of b.0 ++ a.0.1 = h.parts ∙ ap (λ (l : List ℕ). element SEQUENCE l ++ a.0.1) k.parts in
    let some = some_octet SEQUENCE (extension_content b.0) in
    let len = ap length parts in
    let shorter : length a.0.1 < length bs = omega (arith, some, len, length-append (octets_of b.0) a.0.1) in
    subst (λ (y : ExtensionForm × List ℕ). TakesExtension bs y.0 y.1) (ok_is made x b.2)
    (record { parts = parts; is = record { identifier = k.is; size = subst Below k.parts size }; rest_fits = h.rest_fits; shorter = shorter })

pub extension_again : (e : ExtensionForm) (rest : List ℕ) → IsExtension e → extension_at (octets_of e ++ rest) ≡ Ok (e, rest)
unfolding extension_at
extension_again e rest h = rw (field_again SEQUENCE (extension_content e) rest h.size, extension_in_again e h) refl

-- ---- lists of extensions

content_more : (front : List ExtensionForm) (e : ExtensionForm) → extensions_content (front ++ e ∷ []) ≡ extensions_content front ++ octets_of e
content_more [] e = append-nil (octets_of e)
content_more (f ∷ front) e =
    ap (λ (l : List ℕ). octets_of f ++ l) (content_more front e) ∙ sym (append_assoc (octets_of f) (extensions_content front) (octets_of e))

are_more : (front : List ExtensionForm) (e : ExtensionForm) → AllByRecursion IsExtension front → IsExtension e → AllByRecursion IsExtension (front ++ e ∷ [])
are_more [] e h is = (is, tt)
are_more (f ∷ front) e h is = (h.0, are_more front e h.1 is)

-- what comes after a front that was read
pub record Left (front es : List ExtensionForm) (rest : List ℕ) : Type 0 where
  pub others : List ExtensionForm
  pub are : AllByRecursion IsExtension others
  pub whole : es ≡ front ++ others
  pub parts : rest ≡ extensions_content others

left : (front es : List ExtensionForm) (rest : List ℕ) → AllByRecursion IsExtension front → AllByRecursion IsExtension es
    → extensions_content front ++ rest ≡ extensions_content es → Left front es rest
left [] es rest h k e = record { others = es; are = k; whole = refl; parts = e }
left (f ∷ front) [] rest h k e =
    let some = some_octet SEQUENCE (extension_content f) in
    let len = ap length e in
    absurd (omega (arith, some, len, length-append (octets_of f ++ extensions_content front) rest, length-append (octets_of f) (extensions_content front)))
left (f ∷ front) (g ∷ es) rest h k e =
    let one = extension_again f (extensions_content front ++ rest) h.0 in
    let two = extension_again g (extensions_content es) k.0 in
    let regrouped : octets_of f ++ (extensions_content front ++ rest) ≡ octets_of g ++ extensions_content es =
    sym (append_assoc (octets_of f) (extensions_content front) rest) ∙ e in
    let a : ExtensionForm × List ℕ = (f, extensions_content front ++ rest) in
    let b : ExtensionForm × List ℕ = (g, extensions_content es) in
    let same : a ≡ b = ok_is a b (sym one ∙ ap extension_at regrouped ∙ two) in
    let first : f ≡ g = ap (λ (p : ExtensionForm × List ℕ). p.0) same in
    let next : extensions_content front ++ rest ≡ extensions_content es = ap (λ (p : ExtensionForm × List ℕ). p.1) same in
    let l = left front es rest h.1 k.1 next in
    record {
      others = l.others;
      are = l.are;
      whole = ap (λ (x : ExtensionForm). x ∷ es) (sym first) ∙ ap (λ (xs : List ExtensionForm). f ∷ xs) l.whole;
      parts = l.parts;
    }

-- ---- walking over them

pub record Walked (front : List ExtensionForm) (content rest : List ℕ) : Type 0 where
  pub parts : content ≡ extensions_content front ++ rest
  pub are : AllByRecursion IsExtension front
  pub rest_fits : IsBytes rest

pub walked_none : (content : List ℕ) → IsBytes content → Walked [] content content
walked_none content fits = record { parts = refl; are = tt; rest_fits = fits }

pub walked_more : (front : List ExtensionForm) (content rest : List ℕ) (e : ExtensionForm) (after : List ℕ) → Walked front content rest
    → extension_at rest ≡ Ok (e, after) → Walked (front ++ e ∷ []) content after
walked_more front content rest e after w h =
    let t = extension_takes rest (e, after) w.rest_fits h in
    record {
      parts = w.parts ∙ ap (λ (r : List ℕ). extensions_content front ++ r) t.parts ∙ sym (append_assoc (extensions_content front) (octets_of e) after)
          ∙ ap (λ (l : List ℕ). l ++ after) (sym (content_more front e));
      are = are_more front e w.are t.is;
      rest_fits = t.rest_fits;
    }

pub walked_all : (front : List ExtensionForm) (content rest : List ℕ) → Walked front content rest → length rest ≡ 0 → AreListed front content
walked_all front content rest w none =
    record {
      parts = w.parts ∙ ap (λ (r : List ℕ). extensions_content front ++ r) (nil_from_length rest none) ∙ append-nil (extensions_content front);
      are = w.are;
    }

-- what any list of the content has after the front
pub walked_left : (front es : List ExtensionForm) (content rest : List ℕ) → Walked front content rest → AreListed es content → Left front es rest
walked_left front es content rest w l = left front es rest w.are l.are (sym w.parts ∙ l.parts)

begins : (rest : List ℕ) (others : List ExtensionForm) (d : Error) → AllByRecursion IsExtension others → rest ≡ extensions_content others → length rest ≢ 0
    → extension_at rest ≡ Err d → ⊥
begins rest [] d are parts some h = some (ap length parts)
begins rest (g ∷ others) d are parts some h =
    let again = sym h ∙ ap extension_at parts ∙ extension_again g (extensions_content others) are.0 in absurd cc

pub walked_stops : (front : List ExtensionForm) (content rest : List ℕ) (d : Error) → Walked front content rest → length rest ≢ 0
    → extension_at rest ≡ Err d → (es : List ExtensionForm) → AreListed es content → ⊥
walked_stops front content rest d w some h es l =
    let k = walked_left front es content rest w l in
    begins rest k.others d k.are k.parts some h

-- ---- the first with an identifier

pub found_more : (identifier : List ℕ) (front : List ExtensionForm) (e : ExtensionForm)
    → found_in identifier (front ++ e ∷ []) ≡ kept identifier (found_in identifier front) e
found_more identifier [] e = refl
found_more identifier (f ∷ front) e = of (bytes_eq f.identifier identifier) (found_more identifier front e) where
  of : (b : Bool) → found_in identifier (front ++ e ∷ []) ≡ kept identifier (found_in identifier front) e
      → cond b (Some f) (found_in identifier (front ++ e ∷ [])) ≡ kept identifier (cond b (Some f) (found_in identifier front)) e
  of true h = refl
  of false h = h

pub same_list : (es fs : List ExtensionForm) (content : List ℕ) → AreListed es content → AreListed fs content → es ≡ fs
same_list es fs content l m =
    let k = left es fs [] l.are m.are (append-nil (extensions_content es) ∙ sym l.parts ∙ m.parts) in
    sym (k.whole ∙ ap (λ (xs : List ExtensionForm). es ++ xs) (nothing k.others k.parts) ∙ nil_last es) where
      nothing : (others : List ExtensionForm) → [] ≡ extensions_content others → others ≡ []
      nothing [] e = refl
      nothing (g ∷ others) e =
          let some = some_octet SEQUENCE (extension_content g) in
          let len = ap length e in
          absurd (omega (arith, some, len, length-append (octets_of g) (extensions_content others)))

      nil_last : (xs : List ExtensionForm) → xs ++ [] ≡ xs
      nil_last xs = append-nil xs

-- ---- none twice

pub distinct_back : (front es : List ExtensionForm) → Distinct (front ++ es) → Distinct es
distinct_back [] es d = d
distinct_back (f ∷ front) es d = distinct_back front es d.1

-- what any list of the content has at the extension that was read
pub record Next (front es : List ExtensionForm) (e : ExtensionForm) (after : List ℕ) : Type 0 where
  pub more : List ExtensionForm
  pub listed : AreListed more after
  pub whole : es ≡ front ++ (e ∷ more)

next_of : (front es : List ExtensionForm) (rest : List ℕ) (e : ExtensionForm) (after : List ℕ) (others : List ExtensionForm) → IsBytes rest
    → extension_at rest ≡ Ok (e, after) → AllByRecursion IsExtension others → es ≡ front ++ others → rest ≡ extensions_content others → Next front es e after
next_of front es rest e after [] fits h are whole parts =
    let t = extension_takes rest (e, after) fits h in
    let shorter = t.shorter in
    let len = ap length parts in
    absurd (omega (arith, shorter, len))
next_of front es rest e after (g ∷ more) fits h are whole parts =
    let a : ExtensionForm × List ℕ = (e, after) in
    let b : ExtensionForm × List ℕ = (g, extensions_content more) in
    let same : a ≡ b = ok_is a b (sym h ∙ ap extension_at parts ∙ extension_again g (extensions_content more) are.0) in
    let first : e ≡ g = ap (λ (p : ExtensionForm × List ℕ). p.0) same in
    record {
      more = more;
      listed = record { parts = ap (λ (p : ExtensionForm × List ℕ). p.1) same; are = are.1 };
      whole = whole ∙ ap (λ (x : ExtensionForm). front ++ (x ∷ more)) (sym first);
    }

pub next_is : (front es : List ExtensionForm) (content rest : List ℕ) (e : ExtensionForm) (after : List ℕ) → Walked front content rest
    → extension_at rest ≡ Ok (e, after) → AreListed es content → Next front es e after
next_is front es content rest e after w h l =
    let k = walked_left front es content rest w l in
    next_of front es rest e after k.others w.rest_fits h k.are k.whole k.parts

-- the front is apart from whatever is left
pub record Apart (front : List ExtensionForm) (rest : List ℕ) : Type 0 where
  pub apart : (es : List ExtensionForm) → AreListed es rest → Distinct es → Distinct (front ++ es)

pub apart_none : (content : List ℕ) → Apart [] content
apart_none content = record { apart = λ es l d. d }

pub apart_more : (front : List ExtensionForm) (content rest : List ℕ) (e : ExtensionForm) (after : List ℕ) (gs : List ExtensionForm)
    → Walked front content rest → extension_at rest ≡ Ok (e, after) → AreListed gs after → found_in e.identifier gs ≡ None → Apart front rest
    → Apart (front ++ e ∷ []) after
apart_more front content rest e after gs w h l none a =
    record {
      apart = λ es m d.
          let t = extension_takes rest (e, after) w.rest_fits h in
          let same : gs ≡ es = same_list gs es after l m in
          let here : found_in e.identifier es ≡ None = subst (λ (xs : List ExtensionForm). found_in e.identifier xs ≡ None) same none in
          let whole : AreListed (e ∷ es) rest =
          record { parts = t.parts ∙ ap (λ (r : List ℕ). octets_of e ++ r) m.parts; are = (t.is, m.are) } in
          subst Distinct (sym (append_assoc front (e ∷ []) es)) (a.apart (e ∷ es) whole (here, d));
    }

pub twice : (front : List ExtensionForm) (content rest : List ℕ) (e : ExtensionForm) (after : List ℕ) (gs : List ExtensionForm) (x : ExtensionForm)
    → Walked front content rest → extension_at rest ≡ Ok (e, after) → AreListed gs after → found_in e.identifier gs ≡ Some x
    → (es : List ExtensionForm) → AreExtensions es content → ⊥
twice front content rest e after gs x w h l some es k =
    let n = next_is front es content rest e after w h k.listed in
    let d = distinct_back front (e ∷ n.more) (subst Distinct n.whole k.distinct) in
    let same : n.more ≡ gs = same_list n.more gs after n.listed l in
    let none : found_in e.identifier gs ≡ None = subst (λ (xs : List ExtensionForm). found_in e.identifier xs ≡ None) same d.0 in
    let bad = sym none ∙ some in absurd cc

pub distinct_all : (front : List ExtensionForm) (content rest : List ℕ) → Walked front content rest → Apart front rest → length rest ≡ 0 → AreExtensions front content
distinct_all front content rest w a none =
    let nothing : AreListed [] rest = record { parts = nil_from_length rest none; are = tt } in
    record { listed = walked_all front content rest w none; distinct = subst Distinct (append-nil front) (a.apart [] nothing tt) }
