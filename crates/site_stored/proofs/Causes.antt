-- What a part of a call tells of its failure, as told by the call.
use Rattle.std.proofs.Common.{◌≡◌, ℕ, false, arith, inl, inr, refl}
use Rattle.std.specs.Prelude.{◌≤◌, Result, Ok, Err, IfErr}
use Rattle.sqlite_disk.specs.Disk.{MoreFaults}
use Rattle.sqlite_trees.specs.View.{HasCause, View}
use Rattle.sqlite_trees.specs.declared.error.StoreError.{StoreError}
use Rattle.sqlite_trees.specs.declared.error.StoreError.TheVariants.{OutOfMemory, Io, Corrupt, Full, Broken, Unstorable}
use Rattle.site_stored.specs.Causes.{IfFinishStore, IsCaused, IsStartCaused}
use Rattle.site_stored.specs.declared.failure.Failure.{Failure}
use Rattle.site_stored.specs.declared.failure.Failure.TheVariants as failures
use Rattle.site_stored.specs.declared.failure.FinishFailure.{FinishFailure}
use Rattle.site_stored.specs.declared.failure.FinishFailure.TheVariants as finishes

cause_since : (old mid : View) (a b c : ℕ) (U V : Type 0) (e : StoreError) → a ≤ b → (U → V) → (e ≡ Broken → ⊥)
    → HasCause mid (MoreFaults b c) U e → HasCause old (MoreFaults a c) V e
cause_since old mid a b c U V OutOfMemory up f never h = tt
cause_since old mid a b c U V Io up f never h = omega arith
cause_since old mid a b c U V Corrupt up f never h = omega arith
cause_since old mid a b c U V Full up f never h = omega arith
cause_since old mid a b c U V Broken up f never h = absurd (never refl)
cause_since old mid a b c U V Unstorable up f never h = f h

-- the same as a site is made, where the store was not broken before that part
pub start_cause_since : (old mid : View) (a b c : ℕ) (U V : Type 0) (e : StoreError) → mid.is_broken ≡ false → a ≤ b → (U → V)
    → HasCause mid (MoreFaults b c) U e → IsStartCaused old a c V e
start_cause_since old mid a b c U V OutOfMemory sound up f h = tt
start_cause_since old mid a b c U V Io sound up f h = omega arith
start_cause_since old mid a b c U V Corrupt sound up f h = omega arith
start_cause_since old mid a b c U V Full sound up f h = omega arith
start_cause_since old mid a b c U V Broken sound up f h = absurd cc
start_cause_since old mid a b c U V Unstorable sound up f h = f h

-- a cause within the last part of a call is one within the call
pub caused_since : (old mid : View) (a b c : ℕ) (U V D E : Type 0) (e : Failure) → a ≤ b → (U → V) → (D → E) → IsCaused mid b c U D e → IsCaused old a c V E e
caused_since old mid a b c U V D E failures.Shut up f g h = tt
caused_since old mid a b c U V D E (failures.Failed e) up f g (never, inl h) = (never, inl (cause_since old mid a b c U V e up f never h))
caused_since old mid a b c U V D E (failures.Failed e) up f g (never, inr bad) = (never, inr (bad.0, g bad.1))

-- what else may be said of it
pub caused_as : (old : View) (a b : ℕ) (U V D E : Type 0) (e : Failure) → (U → V) → (D → E) → IsCaused old a b U D e → IsCaused old a b V E e
caused_as old a b U V D E failures.Shut f g h = tt
caused_as old a b U V D E (failures.Failed e) f g (never, inl h) = (never, inl (cause_since old old a a b U V e (omega arith) f never h))
caused_as old a b U V D E (failures.Failed e) f g (never, inr bad) = (never, inr (bad.0, g bad.1))

pub if_finish_store : {W : Type 0} (P Q : Failure → Type 0) (e : FinishFailure W) → ((why : Failure) → P why → Q why) → IfFinishStore P e → IfFinishStore Q e
if_finish_store P Q (finishes.Site why) f h = tt
if_finish_store P Q (finishes.Store why) f h = f why h

pub if_caused : {A : Type 0} (old : View) (a b : ℕ) (U V D E : Type 0) (r : Result A Failure) → (U → V) → (D → E) → IfErr r (IsCaused old a b U D)
    → IfErr r (IsCaused old a b V E)
if_caused old a b U V D E (Ok x) f g h = tt
if_caused old a b U V D E (Err e) f g h = caused_as old a b U V D E e f g h
