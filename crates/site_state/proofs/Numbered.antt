-- Sessions by their numbers, in a map that changes.
use Rattle.std.proofs.Common.{◌≡◌, ◌≤◌, ◌⊎◌, ◌∙◌, ℕ, [], inl, inr, refl, sym, subst, arith, Less, Equal, Greater, Ordering}
use Rattle.std.specs.Prelude.{Bool, true, false, cond, Option, Some, None}
use Rattle.std.specs.BTreeMap.{BTreeMap}
use Rattle.std.specs.FinMap as finite
use Rattle.std.specs.FinMap.{get-empty, get-insert, get-remove, nat_cmp-IsAntisymmetric}
use Rattle.std.specs.Cmp.{nat_cmp_total}
use Rattle.std.specs.Ordering.{nat_cmp, eq_by_cmp, is_eq}
use Rattle.std.proofs.lemmas.Option.{same_Some}
use Rattle.site_state.specs.Sessions.{Expected, HasNumber, HaveNumbers}
use Rattle.site_state.specs.SessionViews.{sessions_view}
use Rattle.site_state.specs.declared.session.Session.{Session}

-- of a map with one more entry each is that one, or was there
pub one_entry : {X : Type 0} (m : finite.FinMap nat_cmp X) (n k : ℕ) (v x : X) → finite.get (finite.insert m n v) k ≡ Some x
    → ((k ≡ n) × (v ≡ x)) ⊎ (finite.get m k ≡ Some x)
one_entry m n k v x found = go (nat_cmp k n) refl (sym (get-insert nat_cmp_total m n v k) ∙ found)
  where
    go : (o : Ordering) → nat_cmp k n ≡ o → cond (is_eq (nat_cmp k n)) (Some v) (finite.get m k) ≡ Some x → ((k ≡ n) × (v ≡ x)) ⊎ (finite.get m k ≡ Some x)
    go Less t is = inr (subst (λ o. cond (is_eq o) (Some v) (finite.get m k) ≡ Some x) t is)
    go Equal t is = inl (nat_cmp-IsAntisymmetric k n t, same_Some v x (subst (λ o. cond (is_eq o) (Some v) (finite.get m k) ≡ Some x) t is))
    go Greater t is = inr (subst (λ o. cond (is_eq o) (Some v) (finite.get m k) ≡ Some x) t is)

-- of a map with one entry less each was there
was_there : {X : Type 0} (b : Bool) (o : Option X) (x : X) → cond b None o ≡ Some x → o ≡ Some x
was_there true o x is = absurd cc
was_there false o x is = is

pub one_left : {X : Type 0} (m : finite.FinMap nat_cmp X) (n k : ℕ) (x : X) → finite.get (finite.remove m n) k ≡ Some x → finite.get m k ≡ Some x
one_left m n k x found = was_there (eq_by_cmp nat_cmp k n) (finite.get m k) x (sym (get-remove nat_cmp_total m n k) ∙ found)

pub numbers_opened : (m : finite.FinMap nat_cmp Expected) (now next k : ℕ) (x : Expected) → now ≤ next → HaveNumbers now m → HasNumber next k x
    → HaveNumbers next (finite.insert m k x)
numbers_opened m now next k x le all here n e found = elim (one_entry m k n x e found) [
  | inl same ↦ subst (λ q. HasNumber next q e) (sym same.0) (subst (HasNumber next k) same.1 here)
  | inr there ↦ let is = all n e there in let lt = is.0 in (omega (arith, le, lt), is.1)
]

pub numbers_closed : (m : finite.FinMap nat_cmp Expected) (next k : ℕ) → HaveNumbers next m → HaveNumbers next (finite.remove m k)
numbers_closed m next k all n e found = all n e (one_left m k n e found)

pub numbers_empty : (m : BTreeMap ℕ Session) (next : ℕ) → m.entries ≡ [] → HaveNumbers next (sessions_view m.entries)
numbers_empty m next none n e found =
    let empty : finite.get (sessions_view m.entries) n ≡ None = rw none (get-empty nat_cmp n) in
    absurd cc

pub numbers_skipped : (m : finite.FinMap nat_cmp Expected) (now next : ℕ) → now ≤ next → HaveNumbers now m → HaveNumbers next m
numbers_skipped m now next le all n e found = let is = all n e found in let lt = is.0 in (omega (arith, le, lt), is.1)
