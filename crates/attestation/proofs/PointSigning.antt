-- Signatures of U2F.
use Rattle.std.proofs.Common.{◌≡◌, ℕ, List, refl, sym, ap, subst, ◌∙◌}
use Rattle.refusal_order.specs.Lines.{FirstFailing}
use Rattle.refusal_order.proofs.Laws.{first_at}
use Rattle.certificates.specs.Form.{TbsForm}
use Rattle.cose.specs.declared.key.CoseKey.{CoseKey}
use Rattle.attestation.specs.declared.algorithm.Algorithm.TheVariants as algorithms
use Rattle.attestation.specs.declared.refusal.AttestationRefusal.{AttestationRefusal}
use Rattle.attestation.specs.declared.refusal.AttestationRefusal.TheVariants as step
use Rattle.attestation.specs.FidoU2f.{IsPoint, IsU2fSigned, IsUnsigned, PassesU2fLeaf, u2f_leaf_steps}
use Rattle.attestation.specs.Inputs.{Inputs}
use Rattle.attestation.specs.Messages.{u2f_message}
use Rattle.attestation.specs.Signed.{Signed, Validity, IsBy}
use Rattle.attestation.proofs.Signing.{one_signed}

-- a key is one point
same_point : (key : CoseKey) (x y u v : List ℕ) → IsPoint key x y → IsPoint key u v → (x ≡ u) × (y ≡ v)
same_point key x y u v p q = (cc, cc)

pub one_u2f : (info sig : List ℕ) (i : Inputs) (s t : Signed) → IsU2fSigned info sig i s → IsU2fSigned info sig i t → s ≡ t
one_u2f info sig i s t h k =
    let same = same_point i.credential.key h.0 h.1 k.0 k.1 h.2 k.2 in
    let message : u2f_message i.rp_id_hash i.hash i.credential.id k.0 k.1 ≡ u2f_message i.rp_id_hash i.hash i.credential.id h.0 h.1 =
    ap (λ (l : List ℕ). u2f_message i.rp_id_hash i.hash i.credential.id l k.1) (sym same.0)
    ∙ ap (λ (l : List ℕ). u2f_message i.rp_id_hash i.hash i.credential.id h.0 l) (sym same.1) in
    one_signed info algorithms.Es256 sig (u2f_message i.rp_id_hash i.hash i.credential.id h.0 h.1) s t h.3
    (subst (λ (m : List ℕ). IsBy info algorithms.Es256 m sig t) message k.3)

pub not_u2f : (valid : Validity) (info sig : List ℕ) (i : Inputs) (s : Signed) → IsU2fSigned info sig i s → (valid s → ⊥)
    → ((t : Signed) × IsU2fSigned info sig i t × valid t) → ⊥
not_u2f valid info sig i s h not k = not (subst valid (one_u2f info sig i k.0 s k.1 h) k.2)

-- the refusal where no signature can be asked for
pub first_unsigned : (valid : Validity) (sig : List ℕ) (i : Inputs) (t : TbsForm) (e : AttestationRefusal) → IsUnsigned t.key i e
    → FirstFailing (PassesU2fLeaf valid sig i t) u2f_leaf_steps e
first_unsigned valid sig i t step.OtherAlgorithm h = first_at 1 refl (tt, tt) h
first_unsigned valid sig i t step.OtherCredentialKey h = first_at 2 refl (tt, (h.0, tt)) h.1
first_unsigned valid sig i t _ h = absurd h

pub none_signed : (info sig : List ℕ) (i : Inputs) (e : AttestationRefusal) → IsUnsigned info i e → (s : Signed) → IsU2fSigned info sig i s → ⊥
none_signed info sig i step.OtherAlgorithm h s k = h (k.3.0, k.3.1, k.3.2)
none_signed info sig i step.OtherCredentialKey h s k = h.1 (k.0, k.1, k.2)
none_signed info sig i _ h s k = absurd h
