-- What bytes say is one thing at most.
use Rattle.std.proofs.Common.{◌≡◌, ℕ, Bool, List, [], ◌∷◌, length, map, Option, refl, sym, ap, ◌∙◌, arith}
use Rattle.std.specs.List.{AllByRecursion}
use Rattle.std.proofs.lemmas.List.{length-append}
use Rattle.certificates.specs.Tags.{SEQUENCE, SET}
use Rattle.der.specs.Encoding.{element}
use Rattle.certificates.specs.Items.{joined}
use Rattle.certificates.specs.Form.{Form, IsCertificate, certificate_octets, tbs_octets}
use Rattle.certificates.specs.Extensions.{ExtensionForm, AreExtensions}
use Rattle.certificates.specs.Names.{AttributeForm, IsName, IsPart}
use Rattle.certificates.specs.Keys.{KeyForm, IsKey, algorithm_octets, key_octets}
use Rattle.certificates.specs.KeyReading.{key_in}
use Rattle.certificates.specs.Meanings.{IsAaguid, IsNonce, IsConstraints}
use Rattle.certificates.specs.Reading.{certificate_at}
use Rattle.certificates.specs.Usage.{IsUsage, IsPurpose}
use Rattle.certificates.specs.Steps.{Read, whole_field_at, field_at}
use Rattle.certificates.specs.ExtensionReading.{identifier_field_at}
use Rattle.certificates.specs.NameReading.{attribute_at}
use Rattle.certificates.proofs.Chain.{ok_is, Below, whole_field_again}
use Rattle.certificates.proofs.Whole.{certificate_again}
use Rattle.certificates.proofs.Known.{info_again, key_again}
use Rattle.certificates.proofs.Meant.{aaguid_again, nonce_again, constraints_again}
use Rattle.certificates.proofs.Listing.{same_list}
use Rattle.certificates.proofs.Items.{ReadsItems}
use Rattle.certificates.proofs.Named.{exact, exact_sets, octets_of, set_of, content_of, parts_below}
use Rattle.certificates.proofs.Purposes as purposes

pub one_certificate : (c d : Form) (bs : List ℕ) → IsCertificate c → IsCertificate d → bs ≡ certificate_octets c → bs ≡ certificate_octets d → c ≡ d
one_certificate c d bs h k p q =
    let a : List ℕ × Form = (element SEQUENCE (tbs_octets c.tbs), c) in
    let b : List ℕ × Form = (element SEQUENCE (tbs_octets d.tbs), d) in
    let same : a ≡ b = ok_is a b (sym (certificate_again c h) ∙ ap certificate_at (sym p ∙ q) ∙ certificate_again d k) in
    ap (λ (x : List ℕ × Form). x.1) same

pub one_list : (es fs : List ExtensionForm) (content : List ℕ) → AreExtensions es content → AreExtensions fs content → es ≡ fs
one_list es fs content h k = same_list es fs content h.listed k.listed

pub one_key : (f g : KeyForm) (info : List ℕ) → IsKey f info → IsKey g info → f ≡ g
one_key f g info h k =
    let a : List ℕ × List ℕ = (algorithm_octets f, 0 ∷ key_octets f) in
    let b : List ℕ × List ℕ = (algorithm_octets g, 0 ∷ key_octets g) in
    let same : a ≡ b = ok_is a b (sym (info_again info (algorithm_octets f) (0 ∷ key_octets f) h.is) ∙ info_again info (algorithm_octets g) (0 ∷ key_octets g) k.is) in
    let read = sym (key_again f h.fits h.is.bits_size) ∙ ap (λ (p : List ℕ × List ℕ). key_in p.0 p.1) same ∙ key_again g k.fits k.is.bits_size in
    cc

pub one_aaguid : (a b value : List ℕ) → IsAaguid a value → IsAaguid b value → a ≡ b
one_aaguid a b value h k = ok_is a b (sym (aaguid_again value a h) ∙ aaguid_again value b k)

pub one_nonce : (a b value : List ℕ) → IsNonce a value → IsNonce b value → a ≡ b
one_nonce a b value h k = ok_is a b (sym (nonce_again value a h) ∙ nonce_again value b k)

pub one_constraint : (a b : Bool) (o p : Option (List ℕ)) (value : List ℕ) → IsConstraints a o value → IsConstraints b p value → a ≡ b
one_constraint a b o p value h k =
    let x : Bool × Option (List ℕ) = (a, o) in
    let y : Bool × Option (List ℕ) = (b, p) in
    let same : x ≡ y = ok_is x y (sym (constraints_again value a o h) ∙ constraints_again value b p k) in
    ap (λ (z : Bool × Option (List ℕ)). z.0) same

-- ---- lists of items

module _ {E : Type 0} (octets : E → List ℕ) (Is : E → Type 0) (read : List ℕ → Read E) (reads : ReadsItems octets Is read) where
  pub same_items : (es fs : List E) → AllByRecursion Is es → AllByRecursion Is fs → joined octets es ≡ joined octets fs → es ≡ fs
  same_items [] [] h k e = refl
  same_items [] (f ∷ fs) h k e =
      let some = reads.some f in
      let none = ap length e in
      absurd (omega (arith, some, none, length-append (octets f) (joined octets fs)))
  same_items (f ∷ fs) [] h k e =
      let some = reads.some f in
      let none = ap length e in
      absurd (omega (arith, some, none, length-append (octets f) (joined octets fs)))
  same_items (f ∷ fs) (g ∷ gs) h k e =
      let a : E × List ℕ = (f, joined octets fs) in
      let b : E × List ℕ = (g, joined octets gs) in
      let same : a ≡ b = ok_is a b (sym (reads.again f (joined octets fs) h.0) ∙ ap read e ∙ reads.again g (joined octets gs) k.0) in
      let rest = same_items fs gs h.1 k.1 (ap (λ (p : E × List ℕ). p.1) same) in
      let first = ap (λ (p : E × List ℕ). p.0) same in
      ap (λ (l : List E). f ∷ l) rest ∙ ap (λ (x : E). x ∷ gs) first

pub one_usage : (ps qs : List (List ℕ)) (value : List ℕ) → IsUsage ps value → IsUsage qs value → ps ≡ qs
one_usage ps qs value h k =
    let content = ok_is (joined purposes.octets_of ps) (joined purposes.octets_of qs)
    (sym (whole_field_again SEQUENCE (joined purposes.octets_of ps) h.size) ∙ ap (whole_field_at SEQUENCE) (sym h.parts ∙ k.parts)
    ∙ whole_field_again SEQUENCE (joined purposes.octets_of qs) k.size) in
    same_items purposes.octets_of IsPurpose identifier_field_at purposes.exact ps qs h.are k.are content

same_parts : (ps qs : List (List AttributeForm)) → AllByRecursion IsPart ps → AllByRecursion IsPart qs → map content_of ps ≡ map content_of qs → ps ≡ qs
same_parts [] [] h k e = refl
same_parts [] (q ∷ qs) h k e = absurd cc
same_parts (p ∷ ps) [] h k e = absurd cc
same_parts (p ∷ ps) (q ∷ qs) h k e =
    let first : content_of p ≡ content_of q = cc in
    let tail : map content_of ps ≡ map content_of qs = cc in
    let one = same_items octets_of _ attribute_at exact p q h.0.are k.0.are first in
    let rest = same_parts ps qs h.1 k.1 tail in
    ap (λ (l : List (List AttributeForm)). p ∷ l) rest ∙ ap (λ (x : List AttributeForm). x ∷ qs) one

pub one_name : (ps qs : List (List AttributeForm)) (content : List ℕ) → IsName ps content → IsName qs content → ps ≡ qs
one_name ps qs content h k =
    let sets = same_items set_of Below (field_at SET) exact_sets (map content_of ps) (map content_of qs) (parts_below ps h.are) (parts_below qs k.are)
    (sym h.octets ∙ k.octets) in
    same_parts ps qs h.are k.are sets
