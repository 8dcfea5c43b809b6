-- What is signed: read, it is encoded so, and what is encoded so is read.
use Rattle.std.proofs.Common.{◌≡◌, ℕ, Bool, true, false, cond, eqb, ◌||◌, List, [], ◌∷◌, ◌++◌, length, Option, Some, None, Result, Ok, Err}
use Rattle.std.proofs.Common.{refl, sym, ap, subst, ◌∙◌, arith, inl, inr}
use Rattle.std.specs.Prelude.{IfSome, is_some}
use Rattle.std.proofs.lemmas.Bool.{eqb-true}
use Rattle.std.proofs.lemmas.List.{append-nil, nil_from_length}
use Rattle.der.specs.declared.error.Error.TheVariants as faults
use Rattle.der.specs.declared.tag.Tag.{Tag}
use Rattle.der.specs.Encoding.{identifier, element, length_octets, begins_with, IsInteger}
use Rattle.der.proofs.Steps.{IsBytes}
use Rattle.certificates.specs.declared.certificate.Version.{Version}
use Rattle.certificates.specs.declared.certificate.Version.TheVariants as versions
use Rattle.certificates.specs.declared.error.Error.{Error}
use Rattle.certificates.specs.declared.error.Error.TheVariants as errors
use Rattle.certificates.specs.Tags.{context, INTEGER, SEQUENCE, UTC_TIME, GENERALIZED_TIME}
use Rattle.certificates.specs.Form.{TimeForm, ValidityForm, TbsForm, version_octets, time_octets, validity_octets, optional_octets, extensions_octets, tbs_octets}
use Rattle.certificates.specs.Steps.{field_at, optional_field_at, whole_field_at, integer_field_at}
use Rattle.certificates.specs.Reading.{after_utc, time_at, validity_at, version_in, after_version, version_at, head_at, middle_at, within, extensions_at, allows, last_at, tbs_at}
use Rattle.certificates.proofs.Chain.{bind_ok, ok_is, chosen, wanted_ok, Below, below_front, below_back, below_content, field_takes, whole_field_takes}
use Rattle.certificates.proofs.Chain.{TakesMaybe, optional_field_takes, integer_field_takes, field_again, whole_field_again, some_again, none_again, maybe_again, integer_field_again}

-- an element of another tag
pub begins_other : (t u : Tag) (content rest : List ℕ) → eqb (identifier u) (identifier t) ≡ false → begins_with t (element u content ++ rest) ≡ false
unfolding element
begins_other t u content rest e = e

small : (n : ℕ) → Below (element INTEGER (n ∷ []))
unfolding element length_octets
small n = omega arith

-- ---- validity

pub record TakesTime (bs : List ℕ) (t : TimeForm) (rest : List ℕ) : Type 0 where
  pub parts : bs ≡ time_octets t ++ rest
  pub rest_fits : IsBytes rest

utc_takes : (bs : List ℕ) (o : Option (List ℕ)) (rest : List ℕ) (x : TimeForm × List ℕ) → TakesMaybe UTC_TIME bs o rest → after_utc o rest ≡ Ok x
    → TakesTime bs x.0 x.1
utc_takes bs None rest x h e =
    let a = bind_ok (field_at GENERALIZED_TIME rest) _ x e in
    let k = field_takes GENERALIZED_TIME rest a.0 (omega arith) h.rest_fits a.1 in
    let made : TimeForm × List ℕ = (record { generalized = true; octets = a.0.0 }, a.0.1) in
    subst (λ (y : TimeForm × List ℕ). TakesTime bs y.0 y.1) (ok_is made x a.2) (record { parts = h.parts ∙ k.parts; rest_fits = k.rest_fits })
utc_takes bs (Some utc) rest x h e =
    let made : TimeForm × List ℕ = (record { generalized = false; octets = utc }, rest) in
    subst (λ (y : TimeForm × List ℕ). TakesTime bs y.0 y.1) (ok_is made x e) (record { parts = h.parts; rest_fits = h.rest_fits })

time_takes : (bs : List ℕ) (x : TimeForm × List ℕ) → IsBytes bs → time_at bs ≡ Ok x → TakesTime bs x.0 x.1
unfolding time_at
time_takes bs x fits e =
    let a = bind_ok (optional_field_at UTC_TIME bs) (λ utc. after_utc utc.0 utc.1) x e in
    utc_takes bs a.0.0 a.0.1 x (optional_field_takes UTC_TIME bs a.0 (omega arith) fits a.1) a.2

validity_takes : (bs : List ℕ) (v : ValidityForm) → IsBytes bs → validity_at bs ≡ Ok v → bs ≡ validity_octets v
unfolding validity_at
validity_takes bs v fits e =
    let a = bind_ok (time_at bs) _ v e in
    let b = bind_ok (time_at a.0.1) _ v a.2 in
    let made : ValidityForm = record { not_before = a.0.0; not_after = b.0.0 } in
    let g = wanted_ok (eqb (length b.0.1) 0) (errors.Encoding faults.Trailing) (Ok made) v b.2 in
    let h = time_takes bs a.0 fits a.1 in
    let k = time_takes a.0.1 b.0 h.rest_fits b.1 in
    let nothing : b.0.1 ≡ [] = nil_from_length b.0.1 (eqb-true _ _ g.0) in
    let parts : bs ≡ validity_octets made =
    h.parts ∙ ap (λ (r : List ℕ). time_octets a.0.0 ++ r) (k.parts ∙ ap (λ (r : List ℕ). time_octets b.0.0 ++ r) nothing ∙ append-nil (time_octets b.0.0)) in
    subst (λ (y : ValidityForm). bs ≡ validity_octets y) (ok_is made v g.1) parts

time_of : (generalized : Bool) (octets rest : List ℕ) → Below octets
    → time_at (element (cond generalized GENERALIZED_TIME UTC_TIME) octets ++ rest) ≡ Ok (record { generalized = generalized; octets = octets }, rest)
unfolding time_at
time_of true octets rest lt =
    let other : begins_with UTC_TIME (element GENERALIZED_TIME octets ++ rest) ≡ false = begins_other UTC_TIME GENERALIZED_TIME octets rest refl in
    rw (none_again UTC_TIME (element GENERALIZED_TIME octets ++ rest) other, field_again GENERALIZED_TIME octets rest lt) refl
time_of false octets rest lt = rw (some_again UTC_TIME octets rest lt) refl

time_again : (t : TimeForm) (rest : List ℕ) → Below (time_octets t) → time_at (time_octets t ++ rest) ≡ Ok (t, rest)
time_again t rest lt = time_of t.generalized t.octets rest (below_content (cond t.generalized GENERALIZED_TIME UTC_TIME) t.octets lt)

validity_again : (v : ValidityForm) → Below (validity_octets v) → validity_at (validity_octets v) ≡ Ok v
unfolding validity_at
validity_again v lt =
    let first = time_again v.not_before (time_octets v.not_after) (below_front (time_octets v.not_before) (time_octets v.not_after) lt) in
    let last_below : Below (time_octets v.not_after) = below_back (time_octets v.not_before) (time_octets v.not_after) lt in
    let last : time_at (time_octets v.not_after) ≡ Ok (v.not_after, []) =
    ap time_at (sym (append-nil (time_octets v.not_after))) ∙ time_again v.not_after [] last_below in
    rw (first, last) refl

-- ---- the version

version_in_is : (n : List ℕ) (v : Version) → version_in n ≡ Ok v → version_octets v ≡ element (context true 0) (element INTEGER n)
unfolding version_in
version_in_is [] v e = absurd cc
version_in_is (b ∷ []) v e =
    let none : Result Version Error = Err errors.Version in
    let second : Result Version Error = Ok versions.V2 in
    let third : Result Version Error = Ok versions.V3 in
    let of : ℕ → List ℕ = λ k. element (context true 0) (element INTEGER (k ∷ [])) in
    elim (chosen (eqb b 1) second (cond (eqb b 2) third none) (Ok v) e) [
      | inl p ↦ subst (λ (w : Version). version_octets w ≡ of b) (ok_is versions.V2 v p.1) (ap of (sym (eqb-true b 1 p.0)))
      | inr q ↦
          let p = wanted_ok (eqb b 2) errors.Version third v q.1 in
          subst (λ (w : Version). version_octets w ≡ of b) (ok_is versions.V3 v p.1) (ap of (sym (eqb-true b 2 p.0)))
    ]
version_in_is (b ∷ c ∷ bs) v e = absurd cc

record TakesVersion (bs : List ℕ) (v : Version) (rest : List ℕ) : Type 0 where
  pub parts : bs ≡ version_octets v ++ rest
  pub rest_fits : IsBytes rest

explicit_takes : (bs : List ℕ) (o : Option (List ℕ)) (rest : List ℕ) (x : Version × List ℕ) → TakesMaybe (context true 0) bs o rest
    → after_version o rest ≡ Ok x → TakesVersion bs x.0 x.1
explicit_takes bs None rest x h e =
    subst (λ (y : Version × List ℕ). TakesVersion bs y.0 y.1) (ok_is (versions.V1, rest) x e) (record { parts = h.parts; rest_fits = h.rest_fits })
explicit_takes bs (Some explicit) rest x h e =
    let a = bind_ok (whole_field_at INTEGER explicit) _ x e in
    let b = bind_ok (version_in a.0) _ x a.2 in
    let k = whole_field_takes INTEGER explicit a.0 (omega arith) h.content_fits a.1 in
    let is : version_octets b.0 ≡ element (context true 0) (element INTEGER a.0) = version_in_is a.0 b.0 b.1 in
    let parts : bs ≡ version_octets b.0 ++ rest =
    h.parts ∙ ap (λ (l : List ℕ). element (context true 0) l ++ rest) k.parts ∙ ap (λ (l : List ℕ). l ++ rest) (sym is) in
    subst (λ (y : Version × List ℕ). TakesVersion bs y.0 y.1) (ok_is (b.0, rest) x b.2) (record { parts = parts; rest_fits = h.rest_fits })

version_takes : (bs : List ℕ) (x : Version × List ℕ) → IsBytes bs → version_at bs ≡ Ok x → TakesVersion bs x.0 x.1
unfolding version_at
version_takes bs x fits e =
    let a = bind_ok (optional_field_at (context true 0) bs) (λ explicit. after_version explicit.0 explicit.1) x e in
    explicit_takes bs a.0.0 a.0.1 x (optional_field_takes (context true 0) bs a.0 (omega arith) fits a.1) a.2

version_again : (v : Version) (rest : List ℕ) → begins_with (context true 0) rest ≡ false → version_at (version_octets v ++ rest) ≡ Ok (v, rest)
unfolding version_at version_in
version_again versions.V1 rest e = rw (none_again (context true 0) rest e) refl
version_again versions.V2 rest e =
    rw (some_again (context true 0) (element INTEGER (1 ∷ [])) rest (small 1), whole_field_again INTEGER (1 ∷ []) (omega arith)) refl
version_again versions.V3 rest e =
    rw (some_again (context true 0) (element INTEGER (2 ∷ [])) rest (small 2), whole_field_again INTEGER (2 ∷ []) (omega arith)) refl

-- ---- the first three fields

record TakesHead (bs : List ℕ) (v : Version) (serial algorithm rest : List ℕ) : Type 0 where
  pub parts : bs ≡ version_octets v ++ (element INTEGER serial ++ (element SEQUENCE algorithm ++ rest))
  pub negative : Bool
  pub is : IsInteger negative serial
  pub rest_fits : IsBytes rest

head_takes : (bs : List ℕ) (x : Version × List ℕ × List ℕ × List ℕ) → IsBytes bs → head_at bs ≡ Ok x → TakesHead bs x.0 x.1 x.2 x.3
unfolding head_at
head_takes bs x fits e =
    let a = bind_ok (version_at bs) _ x e in
    let b = bind_ok (integer_field_at a.0.1) _ x a.2 in
    let c = bind_ok (field_at SEQUENCE b.0.1) _ x b.2 in
    let h = version_takes bs a.0 fits a.1 in
    let k = integer_field_takes a.0.1 b.0 h.rest_fits b.1 in
    let m = field_takes SEQUENCE b.0.1 c.0 (omega arith) k.rest_fits c.1 in
    let made : Version × List ℕ × List ℕ × List ℕ = (a.0.0, b.0.0, c.0.0, c.0.1) in
    let parts : bs ≡ version_octets a.0.0 ++ (element INTEGER b.0.0 ++ (element SEQUENCE c.0.0 ++ c.0.1)) =
    h.parts ∙ ap (λ (r : List ℕ). version_octets a.0.0 ++ r) (k.parts ∙ ap (λ (r : List ℕ). element INTEGER b.0.0 ++ r) m.parts) in
    subst (λ (y : Version × List ℕ × List ℕ × List ℕ). TakesHead bs y.0 y.1 y.2 y.3) (ok_is made x c.2)
    (record { parts = parts; negative = k.negative; is = k.is; rest_fits = m.rest_fits })

head_again : (v : Version) (negative : Bool) (serial algorithm rest : List ℕ) → IsInteger negative serial → Below serial → Below algorithm
    → head_at (version_octets v ++ (element INTEGER serial ++ (element SEQUENCE algorithm ++ rest))) ≡ Ok (v, serial, algorithm, rest)
unfolding head_at
head_again v negative serial algorithm rest is lt lt' =
    let other = begins_other (context true 0) INTEGER serial (element SEQUENCE algorithm ++ rest) refl in
    rw (
      version_again v (element INTEGER serial ++ (element SEQUENCE algorithm ++ rest)) other,
      integer_field_again negative serial (element SEQUENCE algorithm ++ rest) lt is,
      field_again SEQUENCE algorithm rest lt',
    ) refl

-- ---- the next four

record TakesMiddle (bs issuer : List ℕ) (v : ValidityForm) (subject key rest : List ℕ) : Type 0 where
  pub parts : bs ≡ element SEQUENCE issuer ++ (element SEQUENCE (validity_octets v) ++ (element SEQUENCE subject ++ (element SEQUENCE key ++ rest)))
  pub rest_fits : IsBytes rest

middle_takes : (bs : List ℕ) (x : List ℕ × ValidityForm × List ℕ × List ℕ × List ℕ) → IsBytes bs → middle_at bs ≡ Ok x → TakesMiddle bs x.0 x.1 x.2 x.3 x.4
unfolding middle_at
middle_takes bs x fits e =
    let a = bind_ok (field_at SEQUENCE bs) _ x e in
    let b = bind_ok (field_at SEQUENCE a.0.1) _ x a.2 in
    let v = bind_ok (validity_at b.0.0) _ x b.2 in
    let c = bind_ok (field_at SEQUENCE b.0.1) _ x v.2 in
    let d = bind_ok (field_at SEQUENCE c.0.1) _ x c.2 in
    let h = field_takes SEQUENCE bs a.0 (omega arith) fits a.1 in
    let k = field_takes SEQUENCE a.0.1 b.0 (omega arith) h.rest_fits b.1 in
    let times = validity_takes b.0.0 v.0 k.content_fits v.1 in
    let m = field_takes SEQUENCE b.0.1 c.0 (omega arith) k.rest_fits c.1 in
    let n = field_takes SEQUENCE c.0.1 d.0 (omega arith) m.rest_fits d.1 in
    let made : List ℕ × ValidityForm × List ℕ × List ℕ × List ℕ = (a.0.0, v.0, c.0.0, d.0.0, d.0.1) in
    let last : b.0.1 ≡ element SEQUENCE c.0.0 ++ (element SEQUENCE d.0.0 ++ d.0.1) = m.parts ∙ ap (λ (r : List ℕ). element SEQUENCE c.0.0 ++ r) n.parts in
    let middle : a.0.1 ≡ element SEQUENCE (validity_octets v.0) ++ (element SEQUENCE c.0.0 ++ (element SEQUENCE d.0.0 ++ d.0.1)) =
    k.parts ∙ ap (λ (l : List ℕ). element SEQUENCE l ++ b.0.1) times ∙ ap (λ (r : List ℕ). element SEQUENCE (validity_octets v.0) ++ r) last in
    let parts = h.parts ∙ ap (λ (r : List ℕ). element SEQUENCE a.0.0 ++ r) middle in
    subst (λ (y : List ℕ × ValidityForm × List ℕ × List ℕ × List ℕ). TakesMiddle bs y.0 y.1 y.2 y.3 y.4) (ok_is made x d.2)
    (record { parts = parts; rest_fits = n.rest_fits })

middle_again : (issuer : List ℕ) (v : ValidityForm) (subject key rest : List ℕ) → Below issuer → Below (validity_octets v) → Below subject → Below key
    → middle_at (element SEQUENCE issuer ++ (element SEQUENCE (validity_octets v) ++ (element SEQUENCE subject ++ (element SEQUENCE key ++ rest))))
    ≡ Ok (issuer, v, subject, key, rest)
unfolding middle_at
middle_again issuer v subject key rest a b c d =
    rw (
      field_again SEQUENCE issuer (element SEQUENCE (validity_octets v) ++ (element SEQUENCE subject ++ (element SEQUENCE key ++ rest))) a,
      field_again SEQUENCE (validity_octets v) (element SEQUENCE subject ++ (element SEQUENCE key ++ rest)) b,
      validity_again v b,
      field_again SEQUENCE subject (element SEQUENCE key ++ rest) c,
      field_again SEQUENCE key rest d,
    ) refl

-- ---- the last three, which may be absent

within_takes : (bs : List ℕ) (explicit o : Option (List ℕ)) → bs ≡ optional_octets (context true 3) explicit ++ [] → IfSome explicit IsBytes
    → within explicit ≡ Ok o → bs ≡ extensions_octets o
within_takes bs None o h fits e = subst (λ (y : Option (List ℕ)). bs ≡ extensions_octets y) (ok_is None o e) h
within_takes bs (Some explicit) o h fits e =
    let a = bind_ok (whole_field_at SEQUENCE explicit) _ o e in
    let k = whole_field_takes SEQUENCE explicit a.0 (omega arith) fits a.1 in
    subst (λ (y : Option (List ℕ)). bs ≡ extensions_octets y) (ok_is (Some a.0) o a.2)
    (h ∙ append-nil (element (context true 3) explicit) ∙ ap (element (context true 3)) k.parts)

extensions_takes : (bs : List ℕ) (o : Option (List ℕ)) → IsBytes bs → extensions_at bs ≡ Ok o → bs ≡ extensions_octets o
unfolding extensions_at
extensions_takes bs o fits e =
    let a = bind_ok (optional_field_at (context true 3) bs) _ o e in
    let g = wanted_ok (eqb (length a.0.1) 0) (errors.Encoding faults.Trailing) (within a.0.0) o a.2 in
    let h = optional_field_takes (context true 3) bs a.0 (omega arith) fits a.1 in
    let nothing : a.0.1 ≡ [] = nil_from_length a.0.1 (eqb-true _ _ g.0) in
    within_takes bs a.0.0 o (h.parts ∙ ap (λ (r : List ℕ). optional_octets (context true 3) a.0.0 ++ r) nothing) h.content_fits g.1

extensions_again : (o : Option (List ℕ)) → Below (extensions_octets o) → extensions_at (extensions_octets o) ≡ Ok o
unfolding extensions_at
extensions_again None lt = rw (none_again (context true 3) [] refl) refl
extensions_again (Some content) lt =
    let inner : Below (element SEQUENCE content) = below_content (context true 3) (element SEQUENCE content) lt in
    let read : optional_field_at (context true 3) (element (context true 3) (element SEQUENCE content)) ≡ Ok (Some (element SEQUENCE content), []) =
    ap (optional_field_at (context true 3)) (sym (append-nil (element (context true 3) (element SEQUENCE content))))
    ∙ some_again (context true 3) (element SEQUENCE content) [] inner in
    rw (read, whole_field_again SEQUENCE content (below_content SEQUENCE content inner)) refl

record TakesLast (v : Version) (bs : List ℕ) (a b e : Option (List ℕ)) : Type 0 where
  pub parts : bs ≡ optional_octets (context false 1) a ++ (optional_octets (context false 2) b ++ extensions_octets e)
  pub allowed : allows v (is_some a || is_some b) (is_some e) ≡ true

last_takes : (v : Version) (bs : List ℕ) (x : Option (List ℕ) × Option (List ℕ) × Option (List ℕ)) → IsBytes bs → last_at v bs ≡ Ok x
    → TakesLast v bs x.0 x.1 x.2
unfolding last_at
last_takes v bs x fits e =
    let a = bind_ok (optional_field_at (context false 1) bs) _ x e in
    let b = bind_ok (optional_field_at (context false 2) a.0.1) _ x a.2 in
    let c = bind_ok (extensions_at b.0.1) _ x b.2 in
    let made : Option (List ℕ) × Option (List ℕ) × Option (List ℕ) = (a.0.0, b.0.0, c.0) in
    let g = wanted_ok (allows v (is_some a.0.0 || is_some b.0.0) (is_some c.0)) errors.Field (Ok made) x c.2 in
    let h = optional_field_takes (context false 1) bs a.0 (omega arith) fits a.1 in
    let k = optional_field_takes (context false 2) a.0.1 b.0 (omega arith) h.rest_fits b.1 in
    let m = extensions_takes b.0.1 c.0 k.rest_fits c.1 in
    let parts : bs ≡ optional_octets (context false 1) a.0.0 ++ (optional_octets (context false 2) b.0.0 ++ extensions_octets c.0) =
    h.parts
    ∙ ap (λ (r : List ℕ). optional_octets (context false 1) a.0.0 ++ r) (k.parts ∙ ap (λ (r : List ℕ). optional_octets (context false 2) b.0.0 ++ r) m) in
    subst (λ (y : Option (List ℕ) × Option (List ℕ) × Option (List ℕ)). TakesLast v bs y.0 y.1 y.2) (ok_is made x g.1)
    (record { parts = parts; allowed = g.0 })

after_second : (e : Option (List ℕ)) → begins_with (context false 2) (extensions_octets e) ≡ false
unfolding element
after_second None = refl
after_second (Some content) = refl

after_first : (b e : Option (List ℕ)) → begins_with (context false 1) (optional_octets (context false 2) b ++ extensions_octets e) ≡ false
unfolding element
after_first None None = refl
after_first None (Some content) = refl
after_first (Some id) e = refl

last_again : (v : Version) (a b e : Option (List ℕ)) → allows v (is_some a || is_some b) (is_some e) ≡ true
    → Below (optional_octets (context false 1) a ++ (optional_octets (context false 2) b ++ extensions_octets e))
    → last_at v (optional_octets (context false 1) a ++ (optional_octets (context false 2) b ++ extensions_octets e)) ≡ Ok (a, b, e)
unfolding last_at
last_again v a b e allowed lt =
    let later : Below (optional_octets (context false 2) b ++ extensions_octets e) = below_back (optional_octets (context false 1) a) _ lt in
    rw (
      maybe_again (context false 1) a (optional_octets (context false 2) b ++ extensions_octets e) (below_front (optional_octets (context false 1) a) _ lt) (after_first b e),
      maybe_again (context false 2) b (extensions_octets e) (below_front (optional_octets (context false 2) b) _ later) (after_second e),
      extensions_again e (below_back (optional_octets (context false 2) b) (extensions_octets e) later),
      allowed,
    ) refl

-- ---- all fields

pub record TakesTbs (bs : List ℕ) (t : TbsForm) : Type 0 where
  pub parts : bs ≡ tbs_octets t
  pub negative : Bool
  pub is : IsInteger negative t.serial
  pub allowed : allows t.version (is_some t.issuer_id || is_some t.subject_id) (is_some t.extensions) ≡ true

pub tbs_takes : (bs : List ℕ) (t : TbsForm) → IsBytes bs → tbs_at bs ≡ Ok t → TakesTbs bs t
unfolding tbs_at
tbs_takes bs t fits e =
    let a = bind_ok (head_at bs) _ t e in
    let b = bind_ok (middle_at a.0.3) _ t a.2 in
    let c = bind_ok (last_at a.0.0 b.0.4) _ t b.2 in
    let h = head_takes bs a.0 fits a.1 in
    let k = middle_takes a.0.3 b.0 h.rest_fits b.1 in
    let m = last_takes a.0.0 b.0.4 c.0 k.rest_fits c.1 in
    let made : TbsForm = record {
      version = a.0.0;
      serial = a.0.1;
      algorithm = a.0.2;
      issuer = b.0.0;
      validity = b.0.1;
      subject = b.0.2;
      key = b.0.3;
      issuer_id = c.0.0;
      subject_id = c.0.1;
      extensions = c.0.2;
    } in
    let later : a.0.3 ≡ element SEQUENCE b.0.0 ++ (element SEQUENCE (validity_octets b.0.1) ++ (element SEQUENCE b.0.2 ++ (element SEQUENCE b.0.3
    ++ (optional_octets (context false 1) c.0.0 ++ (optional_octets (context false 2) c.0.1 ++ extensions_octets c.0.2))))) =
    k.parts ∙ ap (λ (r : List ℕ). element SEQUENCE b.0.0 ++ (element SEQUENCE (validity_octets b.0.1) ++ (element SEQUENCE b.0.2 ++ (element SEQUENCE b.0.3 ++ r)))) m.parts in
    let parts : bs ≡ tbs_octets made =
    h.parts ∙ ap (λ (r : List ℕ). version_octets a.0.0 ++ (element INTEGER a.0.1 ++ (element SEQUENCE a.0.2 ++ r))) later in
    subst (λ (y : TbsForm). TakesTbs bs y) (ok_is made t c.2) (record { parts = parts; negative = h.negative; is = h.is; allowed = m.allowed })

pub tbs_again : (t : TbsForm) (negative : Bool) → IsInteger negative t.serial
    → allows t.version (is_some t.issuer_id || is_some t.subject_id) (is_some t.extensions) ≡ true → Below (tbs_octets t) → tbs_at (tbs_octets t) ≡ Ok t
unfolding tbs_at
tbs_again t negative is allowed lt =
    let l1 = below_back (version_octets t.version) _ lt in
    let l2 = below_back (element INTEGER t.serial) _ l1 in
    let l3 = below_back (element SEQUENCE t.algorithm) _ l2 in
    let l4 = below_back (element SEQUENCE t.issuer) _ l3 in
    let l5 = below_back (element SEQUENCE (validity_octets t.validity)) _ l4 in
    let l6 = below_back (element SEQUENCE t.subject) _ l5 in
    let l7 = below_back (element SEQUENCE t.key) _ l6 in
    let last : List ℕ = optional_octets (context false 1) t.issuer_id ++ (optional_octets (context false 2) t.subject_id ++ extensions_octets t.extensions) in
    let middle : List ℕ = element SEQUENCE t.issuer ++ (element SEQUENCE (validity_octets t.validity) ++ (element SEQUENCE t.subject ++ (element SEQUENCE t.key ++ last))) in
    rw (
      head_again t.version negative t.serial t.algorithm middle is (below_content INTEGER t.serial (below_front (element INTEGER t.serial) _ l1))
          (below_content SEQUENCE t.algorithm (below_front (element SEQUENCE t.algorithm) _ l2)),
      middle_again t.issuer t.validity t.subject t.key last (below_content SEQUENCE t.issuer (below_front (element SEQUENCE t.issuer) _ l3))
          (below_content SEQUENCE (validity_octets t.validity) (below_front (element SEQUENCE (validity_octets t.validity)) _ l4))
          (below_content SEQUENCE t.subject (below_front (element SEQUENCE t.subject) _ l5))
          (below_content SEQUENCE t.key (below_front (element SEQUENCE t.key) _ l6)),
      last_again t.version t.issuer_id t.subject_id t.extensions allowed l7,
    ) refl
