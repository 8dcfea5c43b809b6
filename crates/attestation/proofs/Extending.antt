-- What extensions, names and keys have, from what was found in them.
use Rattle.std.proofs.Common.{◌≡◌, ◌↔◌, ℕ, Bool, true, false, not, List, Option, Some, None, IsTrue, refl, sym, ap, subst, ◌∙◌}
use Rattle.std.specs.Prelude.{IsSome, is_some, option_map}
use Rattle.certificates.specs.Extensions.{ExtensionForm, found_in}
use Rattle.certificates.specs.Keys.{KeyForm, IsKey}
use Rattle.certificates.specs.Meanings.{IsAaguid, IsConstraints, IsNonce}
use Rattle.certificates.specs.Names.{AttributeForm, IsName, attribute_of, attribute_view}
use Rattle.certificates.specs.declared.name.Attribute.{Attribute}
use Rattle.certificates.proofs.Unique.{one_list, one_name, one_key, one_aaguid, one_constraint, one_nonce}
use Rattle.attestation.specs.Certified.{HasExtension, Extends}
use Rattle.attestation.specs.Rules.{Names}

one_extension : (es : Option (List ℕ)) (identifier : List ℕ) (o p : Option ExtensionForm) → HasExtension es identifier o → HasExtension es identifier p → o ≡ p
one_extension None identifier o p h k = h ∙ sym k
one_extension (Some content) identifier o p h k = h.2 ∙ ap (found_in identifier) (one_list h.0 k.0 content h.1 k.1) ∙ sym k.2

-- a test of what was found
pub extends : (es : Option (List ℕ)) (identifier : List ℕ) (P : Option ExtensionForm → Type 0) (o : Option ExtensionForm) (b : Bool)
    → HasExtension es identifier o → IsTrue b ↔ P o → IsTrue b ↔ Extends es identifier P
extends es identifier P o b h t = (λ yes. (o, h, t.0 yes), λ k. t.1 (subst P (one_extension es identifier k.0 o k.1 h) k.2))

-- a test of what was found in a name
pub names : (name identifier : List ℕ) (P : Option AttributeForm → Type 0) (parts : List (List AttributeForm)) (o : Option AttributeForm) (b : Bool)
    → IsName parts name → o ≡ attribute_of identifier parts → IsTrue b ↔ P o → IsTrue b ↔ Names name identifier P
names name identifier P parts o b h e t = (
  λ yes. (parts, h, subst P e (t.0 yes)),
  λ k. t.1 (subst P (sym e) (subst (λ (ps : List (List AttributeForm)). P (attribute_of identifier ps)) (one_name k.0 parts name k.1 h) k.2)),
)

pub some_view : (o : Option Attribute) (b : Bool) → b ≡ is_some o → IsTrue b ↔ IsSome (option_map attribute_view o)
some_view (Some a) b e = (λ _. refl, λ _. e)
some_view None b e = (λ yes. let bad = sym e ∙ yes in absurd cc, λ h. absurd cc)

pub one_authority : (a : Bool) (o : Option (List ℕ)) (value : List ℕ) → IsConstraints a o value
    → IsTrue (not a) ↔ ((path : Option (List ℕ)) × IsConstraints false path value)
one_authority true o value h = (λ yes. absurd cc, λ k. let bad = one_constraint true false o k.0 value h k.1 in absurd cc)
one_authority false o value h = (λ yes. (o, h), λ k. refl)

pub same_aaguid : (own other value : List ℕ) (b : Bool) → IsAaguid own value → (b ≡ true → own ≡ other) → (own ≡ other → b ≡ true)
    → IsTrue b ↔ IsAaguid other value
same_aaguid own other value b h to from = (λ yes. subst (λ (a : List ℕ). IsAaguid a value) (to yes) h, λ k. from (one_aaguid own other value h k))

pub same_nonce : (own other value : List ℕ) (b : Bool) → IsNonce own value → (b ≡ true → own ≡ other) → (own ≡ other → b ≡ true)
    → IsTrue b ↔ IsNonce other value
same_nonce own other value b h to from = (λ yes. subst (λ (a : List ℕ). IsNonce a value) (to yes) h, λ k. from (one_nonce own other value h k))

pub same_key : (own other : KeyForm) (info : List ℕ) (b : Bool) → IsKey own info → IsTrue b ↔ (own ≡ other) → IsTrue b ↔ IsKey other info
same_key own other info b h t = (λ yes. subst (λ (k : KeyForm). IsKey k info) (t.0 yes) h, λ k. t.1 (one_key own other info h k))
