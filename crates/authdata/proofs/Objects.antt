-- The members of an attestation object's value.
use Rattle.std.proofs.Common.{◌≡◌, ℕ, true, List, [], ◌∷◌, Option, Some, None, MatchOption, length, take, sym, refl, subst, arith, ap, ◌∙◌}
use Rattle.std.specs.Prelude.{codes}
use Rattle.std.proofs.lemmas.List.{take_all}
use Rattle.refusal_order.proofs.Laws.{first_at}
use Rattle.ccbor.specs.Access.{is_end, pairs_in, split_key}
use Rattle.ccbor.specs.Item.{Item, Pairs, map, pair, no_pairs, text}
use Rattle.ccbor.proofs.AccessLemmas.{end_is, pairs_in_is, split_key_takes}
use Rattle.ccbor.proofs.Decoding.{same_item}
use Rattle.ccbor.specs.Canon.{Canon}
use Rattle.ccbor.specs.View.{pairs_view}
use Rattle.ccbor.specs.declared.value.Value.{Value}
use Rattle.authdata.specs.declared.error.Error.TheVariants as errors
use Rattle.authdata.specs.declared.object.AttestationObject.{AttestationObject}
use Rattle.authdata.specs.declared.object.AttestationView.{AttestationView}
use Rattle.authdata.specs.Objects.{Attestation, ObjectOf, ObjectRefused, lent_object_view, object_item, object_view}
use Rattle.authdata.specs.Private.{HasThree, ObjectItem, PartsOf}

pub three_long : (l : List (Value × Value)) → HasThree (map (pairs_view l)) → length l ≡ 3
three_long [] (a, b, c, d, e, f, is) = absurd cc
three_long (p ∷ []) (a, b, c, d, e, f, is) = absurd cc
three_long (p ∷ q ∷ []) (a, b, c, d, e, f, is) = absurd cc
three_long (p ∷ q ∷ r ∷ []) (a, b, c, d, e, f, is) = refl
three_long (p ∷ q ∷ r ∷ s ∷ l) (a, b, c, d, e, f, is) = absurd cc

-- canonical bytes of another value are no object's
pub other_value : (bs : List ℕ) (v : Item) → Canon v bs → ((w : Item) → Canon w bs → w ≡ v) → ((o : Attestation) → ObjectItem o v → ⊥) → (o : Attestation)
    → ObjectOf o bs → ⊥
other_value bs v canon only none o h = none o (h.0, sym (only (object_item o) h.1))

pub shape_first : (bs : List ℕ) (v : Item) → Canon v bs → ((w : Item) → Canon w bs → w ≡ v) → ((o : Attestation) → ObjectItem o v → ⊥)
    → ObjectRefused bs errors.Shape
shape_first bs v canon only none m = first_at 1 refl ((λ h. h v canon), tt) (other_value bs v canon only none)

pub canonical_first : (bs : List ℕ) → ((v : Item) → Canon v bs → ⊥) → ObjectRefused bs errors.NotCanonical
canonical_first bs none m = first_at 0 refl tt none

pub no_object : (bs : List ℕ) → ((v : Item) → Canon v bs → ⊥) → (o : Attestation) → ObjectOf o bs → ⊥
no_object bs none o h = none (object_item o) h.1

-- no front is canonical, so the whole is not
pub not_whole : (bs : List ℕ) → ((v : Item) (n : ℕ) → Canon v (take n bs) → ⊥) → (v : Item) → Canon v bs → ⊥
not_whole bs none v h = none v (length bs) (subst (λ (l : List ℕ). Canon v l) (sym (take_all (length bs) bs (omega arith))) h)

-- the object of three members whose keys are right
pub object_is : (v a f b s d g : Item) (r : Option AttestationObject) → v ≡ map (pair a f (pair b s (pair d g no_pairs)))
    → (a ≡ text (codes "fmt")) × (b ≡ text (codes "attStmt")) × (d ≡ text (codes "authData"))
    → MatchOption r ((o : Attestation) → PartsOf o f s g → ⊥) (λ o. PartsOf (object_view o) f s g)
    → MatchOption r ((o : Attestation) → ObjectItem o v → ⊥) (λ o. ObjectItem (object_view o) v)
object_is v a f b s d g (Some o) is keys parts =
    let e1 = keys.0 in let e2 = keys.1 in let e3 = keys.2 in
    let p1 = parts.1 in let p2 = parts.2 in let p3 = parts.3 in
    (parts.0, (cc))
object_is v a f b s d g None is keys none = λ o h.
    let e = h.1 in
    none o (h.0, (cc), (cc), (cc))

-- the object of a map whose members stand one after the other
pub members_are : (v f s d : Item) (ps qs rs ts : Pairs) (r : Option AttestationView) → pairs_in v ≡ Some ps
    → split_key (text (codes "fmt")) ps ≡ Some (f, qs) → split_key (text (codes "attStmt")) qs ≡ Some (s, rs)
    → split_key (text (codes "authData")) rs ≡ Some (d, ts) → is_end ts ≡ true
    → MatchOption r ((o : Attestation) → PartsOf o f s d → ⊥) (λ o. PartsOf (lent_object_view o) f s d)
    → MatchOption r ((o : Attestation) → ObjectItem o v → ⊥) (λ o. ObjectItem (lent_object_view o) v)
members_are v f s d ps qs rs ts r is first second third end parts =
    let e1 = pairs_in_is v ps is in
    let e2 = split_key_takes (text (codes "fmt")) ps (f, qs) first in
    let e3 = split_key_takes (text (codes "attStmt")) qs (s, rs) second in
    let e4 = split_key_takes (text (codes "authData")) rs (d, ts) third in
    let e5 = end_is ts end in
    of r e1 e2 e3 e4 e5 parts where
      of : (r : Option AttestationView) → v ≡ map ps → ps ≡ pair (text (codes "fmt")) f qs → qs ≡ pair (text (codes "attStmt")) s rs
          → rs ≡ pair (text (codes "authData")) d ts → ts ≡ no_pairs
          → MatchOption r ((o : Attestation) → PartsOf o f s d → ⊥) (λ o. PartsOf (lent_object_view o) f s d)
          → MatchOption r ((o : Attestation) → ObjectItem o v → ⊥) (λ o. ObjectItem (lent_object_view o) v)
      of (Some o) e1 e2 e3 e4 e5 parts =
          let p1 = parts.1 in let p2 = parts.2 in let p3 = parts.3 in
          (parts.0, (cc))
      of None e1 e2 e3 e4 e5 none = λ o h.
          let e = h.1 in
          none o (h.0, (cc), (cc), (cc))

object_from : List ℕ → Item → List ℕ → Attestation
object_from fmt statement auth_data = record { fmt = fmt; statement = statement; auth_data = auth_data }

equal_objects : (o p : Attestation) → object_item o ≡ object_item p → o ≡ p
unfolding object_from
equal_objects o p e =
    let f : o.fmt ≡ p.fmt = cc in
    let s : o.statement ≡ p.statement = cc in
    let d : o.auth_data ≡ p.auth_data = cc in
    ap (λ (x : List ℕ). object_from x o.statement o.auth_data) f
    ∙ ap (λ (x : Item). object_from p.fmt x o.auth_data) s
    ∙ ap (λ (x : List ℕ). object_from p.fmt p.statement x) d

-- bytes are those of one object
pub one_object : (o p : Attestation) (bs : List ℕ) → ObjectOf o bs → ObjectOf p bs → o ≡ p
one_object o p bs h g = equal_objects o p (same_item (object_item o) (object_item p) bs h.1 g.1)
