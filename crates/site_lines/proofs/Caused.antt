-- A failure that has its cause in a part of an act has it in the act.
use Rattle.std.proofs.Common.{◌≡◌, ℕ, ℤ, ap, arith, inl, inr, refl, subst}
use Rattle.std.specs.Prelude.{◌≤◌, ◌⊎◌, ◌+◌, ◌-◌, ◌^◌, min}
use Rattle.sqlite_trees.specs.View.{HasCause, IsClean, IsStorableRow, View}
use Rattle.sqlite_trees.specs.declared.error.StoreError.{StoreError}
use Rattle.sqlite_trees.specs.declared.error.StoreError.TheVariants.{OutOfMemory, Io, Corrupt, Full, Broken, Unstorable}
use Rattle.site_stored.specs.Calls.{IsSame}
use Rattle.site_stored.specs.Causes.{IfBeginStore, IfFinishStore, IsCaused, IsDamaged, RefusesRegistered, RefusesSignedIn}
use Rattle.site_stored.specs.State.{StoredState, site_row}
use Rattle.site_stored.specs.declared.failure.Failure.{Failure}
use Rattle.site_stored.specs.declared.failure.Failure.TheVariants as failures
use Rattle.site_stored.specs.declared.failure.BeginFailure.{BeginFailure}
use Rattle.site_stored.specs.declared.failure.BeginFailure.TheVariants as begins
use Rattle.site_stored.specs.declared.failure.FinishFailure.{FinishFailure}
use Rattle.site_stored.specs.declared.failure.FinishFailure.TheVariants as finishes
use Rattle.authdata.specs.Responses.{AuthenticatorAssertionResponse}
use Rattle.authdata.specs.Responses as responses
use Rattle.site_state.specs.Details.{Detail}
use Rattle.authdata.specs.declared.profile.Profile.{Profile}
use Rattle.verification.specs.declared.refusal.RegistrationRefusal.{RegistrationRefusal}
use Rattle.site_acts.specs.declared.act.FinishRegistration.{FinishRegistration}
use Rattle.site_acts.specs.declared.act.Act.{Act}
use Rattle.site_acts.specs.declared.act.Act.TheVariants as acts
use Rattle.site_lines.specs.Causes.{FailsBy, FailsIn, IfFailed, IsCausedIn, RefusesBegin}
use Rattle.site_lines.specs.Private.{IfUnknown, IsRefusedRegistration}
use Rattle.site_lines.specs.declared.answer.Answer.{Answer}
use Rattle.site_lines.specs.declared.answer.Answer.TheVariants as answers
use Rattle.site_lines.specs.declared.knowing.Unknown.{Unknown}
use Rattle.site_lines.specs.declared.knowing.Unknown.TheVariants as unknowns

-- a fault more is counted (MoreFaults of sqlite_disk)
abbrev OneMore : ℕ → ℕ → Type 0
OneMore a b = min (a + 1) (2 ^ 64 - 1) ≤ b

cause_since : (old mid : View) (a b c : ℕ) (U V : Type 0) (e : StoreError) → a ≤ b → (U → V) → (e ≡ Broken → ⊥)
    → HasCause mid (OneMore b c) U e → HasCause old (OneMore a c) V e
cause_since old mid a b c U V OutOfMemory up f never h = tt
cause_since old mid a b c U V Io up f never h = omega arith
cause_since old mid a b c U V Corrupt up f never h = omega arith
cause_since old mid a b c U V Full up f never h = omega arith
cause_since old mid a b c U V Broken up f never h = absurd (never refl)
cause_since old mid a b c U V Unstorable up f never h = f h

-- a cause within the last part of an act is one within the act
pub caused_since : (old mid : View) (a b c : ℕ) (U V D E : Type 0) (e : Failure) → a ≤ b → (U → V) → (D → E) → IsCaused mid b c U D e → IsCaused old a c V E e
caused_since old mid a b c U V D E failures.Shut up f g h = tt
caused_since old mid a b c U V D E (failures.Failed e) up f g (never, inl h) = (never, inl (cause_since old mid a b c U V e up f never h))
caused_since old mid a b c U V D E (failures.Failed e) up f g (never, inr bad) = (never, inr (bad.0, g bad.1))

-- ---- where something is a failure

pub if_failed : (P Q : Failure → Type 0) (a : Answer) → ((why : Failure) → P why → Q why) → IfFailed P a → IfFailed Q a
if_failed P Q (answers.RegistrationBegun x b known) f h = tt
if_failed P Q (answers.SignInBegun x b known) f h = tt
if_failed P Q (answers.Registered x) f h = tt
if_failed P Q (answers.SignedIn x) f h = tt
if_failed P Q (answers.Verify t) f h = tt
if_failed P Q (answers.RegistrationRefused told id) f h = tt
if_failed P Q (answers.SignInRefused told id) f h = tt
if_failed P Q (answers.Retired was) f h = tt
if_failed P Q (answers.Deleted was) f h = tt
if_failed P Q (answers.Abandoned was) f h = tt
if_failed P Q (answers.RetiredAll count) f h = tt
if_failed P Q (answers.Erased count) f h = tt
if_failed P Q (answers.Rows rows known) f h = tt
if_failed P Q (answers.Status counts) f h = tt
if_failed P Q (answers.Backup path) f h = tt
if_failed P Q (answers.NotBackedUp why) f h = tt
if_failed P Q (answers.NotBegun why) f h = tt
if_failed P Q (answers.Error why) f h = tt
if_failed P Q (answers.Failed why) f h = f why h

pub if_begin_store : (P Q : Failure → Type 0) (e : BeginFailure) → ((why : Failure) → P why → Q why) → IfBeginStore P e → IfBeginStore Q e
if_begin_store P Q (begins.Site why) f h = tt
if_begin_store P Q begins.NoNumber f h = tt
if_begin_store P Q (begins.Store why) f h = f why h

pub if_unknown : (P Q : Failure → Type 0) (e : Unknown) → ((why : Failure) → P why → Q why) → IfUnknown P e → IfUnknown Q e
if_unknown P Q unknowns.Memory f h = tt
if_unknown P Q (unknowns.Failed why) f h = f why h

-- ---- after a look

-- damage that is found in a site that has not changed was there before
pub damaged_on : {S : Type 0} (view : S → View) (old mid : StoredState S) → IsSame view old mid → IsClean (view mid.store)
    → IsDamaged (view mid.store).trees → IsDamaged (view old.store).trees
damaged_on view old mid same clean damage = subst IsDamaged (ap (λ v. v.trees) (same.store clean)) damage

pub begin_refused_on : {S : Type 0} (view : S → View) (old mid : StoredState S) → IsSame view old mid → IsClean (view mid.store)
    → RefusesBegin (view mid.store) mid → RefusesBegin (view old.store) old
begin_refused_on view old mid same clean refused =
    let of_old = subst (λ (s : StoredState _). RefusesBegin (view mid.store) s) same.is refused in
    subst (λ (reals : ℕ → ℕ). ¬ IsStorableRow (reals 2) (site_row old.rp.rp_id (old.next + 1000))) (ap (λ v. v.reals) (same.store clean)) of_old

pub unknown_since : {S : Type 0} (view : S → View) (faults : S → ℕ) (old mid new : StoredState S) (e : Unknown) → IsSame view old mid
    → (IsClean (view new.store) → IsClean (view mid.store)) → faults old.store ≤ faults mid.store
    → (IsClean (view new.store) → IfUnknown (IsCausedIn view faults mid new ⊥ (IsDamaged (view mid.store).trees)) e)
    → IsClean (view new.store) → IfUnknown (IsCausedIn view faults old new ⊥ (IsDamaged (view old.store).trees)) e
unknown_since view faults old mid new e same back up h clean =
    if_unknown _ _ e (λ why. caused_since (view old.store) (view mid.store) _ _ _ _ _ _ _ why up (λ no. no) (damaged_on view old mid same (back clean))) (h clean)

-- a session begins after a look
pub begin_since : {S : Type 0} (view : S → View) (faults : S → ℕ) (old mid new : StoredState S) (e : BeginFailure) → IsSame view old mid
    → (IsClean (view new.store) → IsClean (view mid.store)) → faults old.store ≤ faults mid.store
    → (IsClean (view new.store) → IfBeginStore (IsCausedIn view faults mid new (RefusesBegin (view mid.store) mid) ⊥) e)
    → IsClean (view new.store) → IfBeginStore (IsCausedIn view faults old new (RefusesBegin (view old.store) old) (IsDamaged (view old.store).trees)) e
begin_since view faults old mid new e same back up h clean =
    if_begin_store _ _ e (λ why. caused_since (view old.store) (view mid.store) _ _ _ _ _ _ _ why up
    (begin_refused_on view old mid same (back clean)) (λ no. absurd no)) (h clean)

-- it is looked for the credentials that are named alone
pub look_fails : {S : Type 0} (view : S → View) (faults : S → ℕ) (old new : StoredState S) (V D : Type 0) (e : BeginFailure)
    → (IsClean (view new.store) → IfBeginStore (IsCausedIn view faults old new ⊥ D) e)
    → IsClean (view new.store) → IfBeginStore (IsCausedIn view faults old new V D) e
look_fails view faults old new V D e h clean =
    if_begin_store _ _ e (λ why. caused_since (view old.store) (view old.store) _ _ _ _ _ _ _ why (omega arith) (λ no. absurd no) (λ d. d)) (h clean)

-- an answer after a part
pub fails_after : {S : Type 0} (view : S → View) (faults : S → ℕ) (old mid new : StoredState S) (U V D E : Type 0) (a : Answer)
    → (IsClean (view new.store) → IsClean (view mid.store)) → faults old.store ≤ faults mid.store
    → (IsClean (view mid.store) → U → V) → (IsClean (view mid.store) → D → E) → FailsBy view faults mid new U D a → FailsBy view faults old new V E a
fails_after view faults old mid new U V D E a back up f g h =
    λ clean. if_failed _ _ a (λ why. caused_since (view old.store) (view mid.store) _ _ _ _ _ _ _ why up (f (back clean)) (g (back clean))) (h clean)

-- what else may be said of it
pub fails_as : {S : Type 0} (view : S → View) (faults : S → ℕ) (old new : StoredState S) (U V D : Type 0) (a : Answer) → (U → V)
    → FailsBy view faults old new U D a → FailsBy view faults old new V D a
fails_as view faults old new U V D a f h =
    λ clean. if_failed _ _ a (λ why. caused_since (view old.store) (view old.store) _ _ _ _ _ _ _ why (omega arith) f (λ d. d)) (h clean)

-- ---- an act

-- a site that was shut
pub shut_fails : {S : Type 0} (view : S → View) (faults : S → ℕ) (now : ℕ) (act : Act) (old new : StoredState S) → FailsIn view faults now act old new (answers.Failed failures.Shut)
shut_fails view faults now (acts.BeginRegistration b) old new = λ clean. tt
shut_fails view faults now (acts.FinishRegistration f) old new = λ clean. tt
shut_fails view faults now (acts.BeginSignIn b) old new = λ clean. tt
shut_fails view faults now (acts.FinishSignIn f) old new = λ clean. tt
shut_fails view faults now (acts.Retire id) old new = λ clean. tt
shut_fails view faults now (acts.Delete id) old new = λ clean. tt
shut_fails view faults now (acts.Abandon session) old new = λ clean. tt
shut_fails view faults now (acts.RetireAll user) old new = λ clean. tt
shut_fails view faults now (acts.Erase user) old new = λ clean. tt
shut_fails view faults now (acts.Rows user) old new = λ clean. tt
shut_fails view faults now acts.Status old new = refl
shut_fails view faults now (acts.Backup path) old new = refl

-- ---- a ceremony that is not finished

-- the store fails
pub store_fails : {S W : Type 0} (view : S → View) (faults : S → ℕ) (old new : StoredState S) (U V D : Type 0) (e : FinishFailure W) (why : Failure) → e ≡ finishes.Store why
    → (IsClean (view new.store) → IfFinishStore (IsCausedIn view faults old new U D) e) → (U → V) → FailsBy view faults old new V D (answers.Failed why)
store_fails view faults old new U V D e why is h f =
    λ clean. caused_since (view old.store) (view old.store) _ _ _ U V D D why (omega arith) f (λ d. d) (subst (IfFinishStore (IsCausedIn view faults old new U D)) is (h clean))

-- a refused registration is answered by no failure
pub refused_registration_fails : (P : Failure → Type 0) (p : Profile) (step : RegistrationRefusal) (f : FinishRegistration) (a : Answer) → IsRefusedRegistration p step f a → IfFailed P a
refused_registration_fails P p step f (answers.RegistrationBegun x b known) h = tt
refused_registration_fails P p step f (answers.SignInBegun x b known) h = tt
refused_registration_fails P p step f (answers.Registered x) h = tt
refused_registration_fails P p step f (answers.SignedIn x) h = tt
refused_registration_fails P p step f (answers.Verify t) h = tt
refused_registration_fails P p step f (answers.RegistrationRefused told id) h = tt
refused_registration_fails P p step f (answers.SignInRefused told id) h = tt
refused_registration_fails P p step f (answers.Retired was) h = tt
refused_registration_fails P p step f (answers.Deleted was) h = tt
refused_registration_fails P p step f (answers.Abandoned was) h = tt
refused_registration_fails P p step f (answers.RetiredAll count) h = tt
refused_registration_fails P p step f (answers.Erased count) h = tt
refused_registration_fails P p step f (answers.Rows rows known) h = tt
refused_registration_fails P p step f (answers.Status counts) h = tt
refused_registration_fails P p step f (answers.Backup path) h = tt
refused_registration_fails P p step f (answers.NotBackedUp why) h = tt
refused_registration_fails P p step f (answers.NotBegun why) h = tt
refused_registration_fails P p step f (answers.Error why) h = tt
refused_registration_fails P p step f (answers.Failed why) h = absurd h

-- ---- rows, by the parts that were judged

pub refuses_signed_in_as : (v : View) (p : Profile) (r q : AuthenticatorAssertionResponse) (n : ℤ) (E : Type 0) → r ≡ q
    → RefusesSignedIn v p r n ⊎ E → RefusesSignedIn v p q n ⊎ E
refuses_signed_in_as v p r q n E same h = subst (λ (x : AuthenticatorAssertionResponse). RefusesSignedIn v p x n ⊎ E) same h

pub refuses_registered_as : {S : Type 0} (v : View) (s : StoredState S) (r q : responses.AuthenticatorAttestationResponse) (d : Detail) (E : Type 0) → r ≡ q
    → RefusesRegistered v s r d ⊎ E → RefusesRegistered v s q d ⊎ E
refuses_registered_as v s r q d E same h = subst (λ (x : responses.AuthenticatorAttestationResponse). RefusesRegistered v s x d ⊎ E) same h
