-- What a call of the store tells of its error, as told by the call above it.
use Rattle.std.proofs.Common.{◌≡◌, ℕ, arith, inl, inr, subst, sym, ◌∙◌}
use Rattle.std.specs.Prelude.{◌≤◌, Result, Ok, Err, IfErr, IsErrAnd}
use Rattle.sqlite_disk.specs.Disk.{MoreFaults}
use Rattle.sqlite_trees.specs.View.{HasCause, View}
use Rattle.sqlite_trees.specs.declared.error.StoreError.{StoreError}
use Rattle.sqlite_trees.specs.declared.error.StoreError.TheVariants.{OutOfMemory, Io, Corrupt, Full, Broken, Unstorable}
use Rattle.site_rows.specs.Causes.{HasReadCause}
use Rattle.site_rows.specs.Held.{Holds, Placed}

-- a cause within a part of the call is one of the call
pub cause_since : (old mid : View) (a b c : ℕ) (U V : Type 0) (e : StoreError) → mid.is_broken ≡ old.is_broken → a ≤ b → (U → V)
    → HasCause mid (MoreFaults b c) U e → HasCause old (MoreFaults a c) V e
cause_since old mid a b c U V OutOfMemory same up f h = tt
cause_since old mid a b c U V Io same up f h = omega arith
cause_since old mid a b c U V Corrupt same up f h = omega arith
cause_since old mid a b c U V Full same up f h = omega arith
cause_since old mid a b c U V Broken same up f h = sym same ∙ h
cause_since old mid a b c U V Unstorable same up f h = f h

pub read_cause_since : (old mid : View) (a b c : ℕ) (P Q : Placed → Type 0) (e : StoreError) → mid.is_broken ≡ old.is_broken → mid.trees ≡ old.trees → a ≤ b
    → ((placed : Placed) → Holds placed old.trees → P placed → Q placed) → HasReadCause mid (MoreFaults b c) P e → HasReadCause old (MoreFaults a c) Q e
read_cause_since old mid a b c P Q e same trees up f (inl h) = inl (cause_since old mid a b c ⊥ ⊥ e same up (λ no. no) h)
read_cause_since old mid a b c P Q e same trees up f (inr bad) =
    inr (bad.0, λ placed h. f placed h (bad.1 placed (subst (Holds placed) (sym trees) h)))

-- an error is passed up as it is
pub passed_up : {A E : Type 0} (r : Result A E) (e : E) (P : E → Type 0) → IsErrAnd r (λ y. y ≡ e) → P e → IfErr r P
passed_up (Ok x) e P is p = tt
passed_up (Err y) e P is p = subst P (sym is) p
