-- A certificate that is read is encoded so, and what is encoded so is read.
use Rattle.std.proofs.Common.{◌≡◌, ◌≢◌, ℕ, ◌-◌, ◌%◌, Bool, true, false, cond, eqb, ltb, ◌||◌, List, [], ◌∷◌, ◌++◌, length, take, Option, Some, None, Result, Ok, Err}
use Rattle.std.proofs.Common.{refl, sym, ap, subst, ◌∙◌, arith, slice_index}
use Rattle.std.specs.Prelude.{IfOk, IsErr, is_some}
use Rattle.std.specs.Str.{bytes_eq}
use Rattle.std.proofs.lemmas.Bool.{eqb-true, ne_eqb}
use Rattle.std.proofs.lemmas.List.{take_at, length-append}
use Rattle.std.proofs.lemmas.Slice.Eq.{bytes_eq-Decides}
use Rattle.der.specs.declared.error.Error.{Error as Fault}
use Rattle.der.specs.declared.error.Error.TheVariants as faults
use Rattle.der.specs.Encoding.{element, is_padded}
use Rattle.der.specs.Reading.{bit_string_in, whole_at}
use Rattle.der.proofs.Elements.{whole_takes}
use Rattle.der.proofs.Steps.{IsBytes}
use Rattle.certificates.specs.declared.certificate.Version.{Version}
use Rattle.certificates.specs.declared.certificate.Version.TheVariants as versions
use Rattle.certificates.specs.declared.certificate.Certificate.{Certificate}
use Rattle.certificates.specs.declared.error.Error.{Error}
use Rattle.certificates.specs.declared.error.Error.TheVariants as errors
use Rattle.certificates.specs.Tags.{BIT_STRING, SEQUENCE}
use Rattle.certificates.specs.Form.{Form, tbs_view, certificate_view, tbs_octets, certificate_content, certificate_octets, IsCertificate}
use Rattle.certificates.specs.Steps.{Gives, lifted, field_at, whole_field_at}
use Rattle.certificates.specs.Reading.{allows, tbs_at, signature_in, certificate_at}
use Rattle.certificates.proofs.Chain.{bind_ok, ok_is, wanted_ok, lifted_ok, Below, below_front, below_back, below_content, field_takes, whole_field_takes, field_again, whole_field_again}
use Rattle.certificates.proofs.Signed.{tbs_takes, tbs_again}

-- ---- the signature

abbrev found : ℕ × List ℕ → Result (ℕ × List ℕ) Fault
found x = Ok x

bits_are : (u : ℕ) (bs : List ℕ) (x : ℕ × List ℕ) → bit_string_in (u ∷ bs) ≡ Ok x → found (u, bs) ≡ found x
unfolding bit_string_in
bits_are u bs x e = of (ltb 7 u) (is_padded u bs) (eqb (length bs) 0) e where
  of : (a b c : Bool) → cond a (Err faults.BadUnused) (cond b (found (u, bs)) (cond c (Err faults.BadUnused) (Err faults.BadPadding))) ≡ found x
      → found (u, bs) ≡ found x
  of true b c e = absurd cc
  of false true c e = e
  of false false true e = absurd cc
  of false false false e = absurd cc

signature_is : (content s : List ℕ) → signature_in content ≡ Ok s → content ≡ 0 ∷ s
unfolding signature_in bit_string_in
signature_is [] s e = absurd cc
signature_is (u ∷ bs) s e =
    let a = bind_ok (lifted (bit_string_in (u ∷ bs))) _ s e in
    let g = wanted_ok (eqb a.0.0 0) errors.Signature (Ok a.0.1) s a.2 in
    let is : found (u, bs) ≡ found a.0 = bits_are u bs a.0 (lifted_ok (bit_string_in (u ∷ bs)) a.0 a.1) in
    let z : a.0.0 ≡ 0 = eqb-true a.0.0 0 g.0 in
    let rest : a.0.1 ≡ s = ok_is a.0.1 s g.1 in
    let first : u ≡ a.0.0 = cc in
    let last : bs ≡ a.0.1 = cc in
    ap (λ (k : ℕ). k ∷ bs) (first ∙ z) ∙ ap (λ (l : List ℕ). 0 ∷ l) (last ∙ rest)

whole_octets : (s : List ℕ) → is_padded 0 s ≡ true
whole_octets [] = refl
whole_octets (b ∷ bs) =
    let some : eqb (length (b ∷ bs)) 0 ≡ false = ne_eqb _ _ (λ is. omega (arith, is)) in
    let none : slice_index (b ∷ bs) (length (b ∷ bs) - 1) % 1 ≡ 0 = omega arith in
    rw (some, none) refl

signature_again : (s : List ℕ) → signature_in (0 ∷ s) ≡ Ok s
unfolding signature_in bit_string_in
signature_again s = rw (whole_octets s) refl

-- ---- which fields a version has

no_id : (v : Version) (a b e : Option (List ℕ)) → allows v (is_some a || is_some b) (is_some e) ≡ true → v ≡ versions.V1 → a ≡ None
no_id versions.V1 None b e h is = refl
no_id versions.V1 (Some x) b e h is = absurd cc
no_id versions.V2 a b e h is = absurd cc
no_id versions.V3 a b e h is = absurd cc

no_other_id : (v : Version) (a b e : Option (List ℕ)) → allows v (is_some a || is_some b) (is_some e) ≡ true → v ≡ versions.V1 → b ≡ None
no_other_id versions.V1 a None e h is = refl
no_other_id versions.V1 None (Some x) e h is = absurd cc
no_other_id versions.V1 (Some y) (Some x) e h is = absurd cc
no_other_id versions.V2 a b e h is = absurd cc
no_other_id versions.V3 a b e h is = absurd cc

no_extensions : (v : Version) (a b e : Option (List ℕ)) → allows v (is_some a || is_some b) (is_some e) ≡ true → v ≢ versions.V3 → e ≡ None
no_extensions versions.V1 a b None h is = refl
no_extensions versions.V1 None None (Some x) h is = absurd cc
no_extensions versions.V1 None (Some z) (Some x) h is = absurd cc
no_extensions versions.V1 (Some y) b (Some x) h is = absurd cc
no_extensions versions.V2 a b None h is = refl
no_extensions versions.V2 a b (Some x) h is = absurd cc
no_extensions versions.V3 a b e h is = absurd (is refl)

allowed_from : (v : Version) (a b e : Option (List ℕ)) → (v ≡ versions.V1 → a ≡ None) → (v ≡ versions.V1 → b ≡ None) → (v ≢ versions.V3 → e ≡ None)
    → allows v (is_some a || is_some b) (is_some e) ≡ true
allowed_from versions.V1 a b e p q r = let x = p refl in let y = q refl in let z = r (λ is. absurd cc) in rw (x, y, z) refl
allowed_from versions.V2 a b e p q r = let z = r (λ is. absurd cc) in rw z refl
allowed_from versions.V3 a b e p q r = refl

-- ---- certificates

pub record TakesCertificate (bs signed : List ℕ) (c : Form) : Type 0 where
  pub is : IsCertificate c
  pub parts : bs ≡ certificate_octets c
  pub signed_is : signed ≡ element SEQUENCE (tbs_octets c.tbs)

front_is : (bs s rest : List ℕ) → bs ≡ s ++ rest → take (length bs - length rest) bs ≡ s
front_is bs s rest e =
    let len : length (s ++ rest) - length rest ≡ length s = omega (arith, length-append s rest) in
    rw (e, len) (take_at s rest (length s) refl)

-- what a whole element has in it is below the limit
whole_below : (bs content : List ℕ) → IsBytes bs → whole_field_at SEQUENCE bs ≡ Ok content → Below content
whole_below bs content fits e = (whole_takes SEQUENCE bs content (omega arith) fits (lifted_ok (whole_at SEQUENCE bs) content e)).fits.size

certificate_takes : (bs : List ℕ) (x : List ℕ × Form) → IsBytes bs → certificate_at bs ≡ Ok x → TakesCertificate bs x.0 x.1
unfolding certificate_at
certificate_takes bs x fits e =
    let a = bind_ok (whole_field_at SEQUENCE bs) _ x e in
    let b = bind_ok (field_at SEQUENCE a.0) _ x a.2 in
    let c = bind_ok (field_at SEQUENCE b.0.1) _ x b.2 in
    let d = bind_ok (whole_field_at BIT_STRING c.0.1) _ x c.2 in
    let s = bind_ok (signature_in d.0) _ x d.2 in
    let t = bind_ok (tbs_at b.0.0) _ x s.2 in
    let form : Form = record { tbs = t.0; signature = s.0 } in
    let made : List ℕ × Form = (take (length a.0 - length b.0.1) a.0, form) in
    let g = wanted_ok (bytes_eq t.0.algorithm c.0.0) errors.Algorithms (Ok made) x t.2 in
    let h = whole_field_takes SEQUENCE bs a.0 (omega arith) fits a.1 in
    let k = field_takes SEQUENCE a.0 b.0 (omega arith) h.content_fits b.1 in
    let m = field_takes SEQUENCE b.0.1 c.0 (omega arith) k.rest_fits c.1 in
    let n = whole_field_takes BIT_STRING c.0.1 d.0 (omega arith) m.rest_fits d.1 in
    let bits : d.0 ≡ 0 ∷ s.0 = signature_is d.0 s.0 s.1 in
    let f = tbs_takes b.0.0 t.0 k.content_fits t.1 in
    let same : t.0.algorithm ≡ c.0.0 = (bytes_eq-Decides t.0.algorithm c.0.0).0 g.0 in
    let signed : element SEQUENCE b.0.0 ≡ element SEQUENCE (tbs_octets t.0) = ap (element SEQUENCE) f.parts in
    let last : c.0.1 ≡ element BIT_STRING (0 ∷ s.0) = n.parts ∙ ap (element BIT_STRING) bits in
    let middle : b.0.1 ≡ element SEQUENCE t.0.algorithm ++ element BIT_STRING (0 ∷ s.0) =
    m.parts ∙ ap (λ (l : List ℕ). element SEQUENCE l ++ c.0.1) (sym same) ∙ ap (λ (r : List ℕ). element SEQUENCE t.0.algorithm ++ r) last in
    let content : a.0 ≡ certificate_content form =
    k.parts ∙ ap (λ (l : List ℕ). l ++ b.0.1) signed ∙ ap (λ (r : List ℕ). element SEQUENCE (tbs_octets t.0) ++ r) middle in
    let size : Below (certificate_content form) = subst Below content (whole_below bs a.0 fits a.1) in
    subst (λ (y : List ℕ × Form). TakesCertificate bs y.0 y.1) (ok_is made x g.1) (record {
      is = record {
        negative = f.negative;
        serial = f.is;
        issuer_id = no_id t.0.version t.0.issuer_id t.0.subject_id t.0.extensions f.allowed;
        subject_id = no_other_id t.0.version t.0.issuer_id t.0.subject_id t.0.extensions f.allowed;
        extensions = no_extensions t.0.version t.0.issuer_id t.0.subject_id t.0.extensions f.allowed;
        size = size;
      };
      parts = h.parts ∙ ap (element SEQUENCE) content;
      signed_is = front_is a.0 (element SEQUENCE b.0.0) b.0.1 k.parts ∙ signed;
    })

pub certificate_again : (c : Form) → IsCertificate c → certificate_at (certificate_octets c) ≡ Ok (element SEQUENCE (tbs_octets c.tbs), c)
unfolding certificate_at
certificate_again c h =
    let after : List ℕ = element SEQUENCE c.tbs.algorithm ++ element BIT_STRING (0 ∷ c.signature) in
    let l0 : Below (element SEQUENCE (tbs_octets c.tbs)) = below_front (element SEQUENCE (tbs_octets c.tbs)) after h.size in
    let l1 : Below after = below_back (element SEQUENCE (tbs_octets c.tbs)) after h.size in
    let l2 : Below (element SEQUENCE c.tbs.algorithm) = below_front (element SEQUENCE c.tbs.algorithm) (element BIT_STRING (0 ∷ c.signature)) l1 in
    let l3 : Below (element BIT_STRING (0 ∷ c.signature)) = below_back (element SEQUENCE c.tbs.algorithm) (element BIT_STRING (0 ∷ c.signature)) l1 in
    let tbs : Below (tbs_octets c.tbs) = below_content SEQUENCE (tbs_octets c.tbs) l0 in
    let allowed = allowed_from c.tbs.version c.tbs.issuer_id c.tbs.subject_id c.tbs.extensions h.issuer_id h.subject_id h.extensions in
    let same : bytes_eq c.tbs.algorithm c.tbs.algorithm ≡ true = (bytes_eq-Decides c.tbs.algorithm c.tbs.algorithm).1 refl in
    let front = front_is (certificate_content c) (element SEQUENCE (tbs_octets c.tbs)) after refl in
    rw (
      whole_field_again SEQUENCE (certificate_content c) h.size,
      field_again SEQUENCE (tbs_octets c.tbs) after tbs,
      field_again SEQUENCE c.tbs.algorithm (element BIT_STRING (0 ∷ c.signature)) (below_content SEQUENCE c.tbs.algorithm l2),
      whole_field_again BIT_STRING (0 ∷ c.signature) (below_content BIT_STRING (0 ∷ c.signature) l3),
      signature_again c.signature,
      tbs_again c.tbs h.negative h.serial allowed tbs,
      same,
      front,
    ) refl

-- ---- the clauses

module _ (bs : List ℕ) where
  pub certificate_found : (r : Result Certificate Error) → IsBytes bs → Gives (λ c. (c.signed.now, certificate_view c)) r (certificate_at bs)
      → IfOk r (λ c. IsCertificate (certificate_view c) × (bs ≡ certificate_octets (certificate_view c)))
  certificate_found (Ok c) fits h = let k = certificate_takes bs (c.signed.now, certificate_view c) fits h in (k.is, k.parts)
  certificate_found (Err e) fits h = tt

  pub certificate_signed : (r : Result Certificate Error) → IsBytes bs → Gives (λ c. (c.signed.now, certificate_view c)) r (certificate_at bs)
      → IfOk r (λ c. c.signed.now ≡ element SEQUENCE (tbs_octets (tbs_view c.tbs)))
  certificate_signed (Ok c) fits h = (certificate_takes bs (c.signed.now, certificate_view c) fits h).signed_is
  certificate_signed (Err e) fits h = tt

  pub certificate_none : (r : Result Certificate Error) → Gives (λ c. (c.signed.now, certificate_view c)) r (certificate_at bs)
      → IsErr r → (c : Form) → IsCertificate c → bs ≡ certificate_octets c → ⊥
  certificate_none (Ok c) h err = absurd cc
  certificate_none (Err e) h err = λ c is parts. let again = sym h ∙ ap certificate_at parts ∙ certificate_again c is in absurd cc
