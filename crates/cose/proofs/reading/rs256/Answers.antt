-- What is owed of `rs256`.
use Rattle.std.proofs.Common.{◌≡◌, ℕ, List, Option, Some, None, sym, ◌∙◌, ap, IfSome, MatchOption, subst}
use Rattle.std.proofs.lemmas.Option.{same_Some}
use Rattle.ccbor.specs.Item.{Pairs, map}
use Rattle.cose.specs.Keys.{KeyOf}
use Rattle.cose.specs.Reading.{rsa_at}
use Rattle.cose.specs.Rsa.{RsaPublicKey, IsRsaKey}
use Rattle.cose.specs.declared.key.CoseKey.TheVariants as keys
use Rattle.cose.specs.declared.rsa.RsaView.{RsaView}
use Rattle.cose.proofs.Exact.{rsa_takes, rsa_read}
use Rattle.cose.proofs.reading.rs256.Goals as goal

-- the members that are read are those of no other key
no_other : (ps : Pairs) (k l : RsaPublicKey) → rsa_at ps ≡ Some k → (IsRsaKey k → ⊥) → KeyOf (keys.Rs256 l) (map ps) → ⊥
no_other ps k l at none h = none (subst IsRsaKey (same_Some l k (sym (rsa_read ps l h.1) ∙ at)) h.0)

key_from : List ℕ → List ℕ → RsaPublicKey
key_from n e = record { n = n; e = e }

found : (ps : Pairs) (k : RsaPublicKey) (r : Option RsaView) → rsa_at ps ≡ Some k
    → MatchOption r (IsRsaKey k → ⊥) (λ v. (v.n.now ≡ k.n) × (v.e.now ≡ k.e))
    → IfSome r (λ v. KeyOf (keys.Rs256 (record { n = v.n.now; e = v.e.now })) (map ps))
unfolding key_from
found ps k None at h = tt
found ps k (Some v) at h =
    let same : key_from v.n.now v.e.now ≡ k = ap (λ (bs : List ℕ). key_from bs v.e.now) h.0 ∙ ap (λ (bs : List ℕ). key_from k.n bs) h.1 in
    ((v.is_modulus, v.is_exponent), rsa_takes ps (key_from v.n.now v.e.now) (at ∙ ap Some (sym same)))

none : (ps : Pairs) (k : RsaPublicKey) (r : Option RsaView) → rsa_at ps ≡ Some k
    → MatchOption r (IsRsaKey k → ⊥) (λ v. (v.n.now ≡ k.n) × (v.e.now ≡ k.e))
    → r ≡ None → (l : RsaPublicKey) → KeyOf (keys.Rs256 l) (map ps) → ⊥
none ps k None at h is l key = no_other ps k l at h key
none ps k (Some v) at h is l key = absurd cc

pub returns-in-Some-clause-found : goal.returns-in-Some-clause-found
returns-in-Some-clause-found c = found _ _ c.new.result (sym c.in-Some.ensures) c.new.ensures

pub returns-in-Some-clause-none : goal.returns-in-Some-clause-none
returns-in-Some-clause-none c = none _ _ c.new.result (sym c.in-Some.ensures) c.new.ensures

pub returns-in-None-clause-none : goal.returns-in-None-clause-none
returns-in-None-clause-none c = λ _ l h. let bad : Some l ≡ None = sym (rsa_read _ l h.1) ∙ sym c.in-None.ensures in absurd cc
