-- What is known of credentials, and what is answered of it.
use Rattle.std.specs.Prelude.{◌≤◌, ◌^◌, ◌+◌, ◌⊎◌, Vec}
use Rattle.std.specs.Global.{Global}
use Rattle.std.proofs.Common.{inr, refl, ◌≡◌, ◌++◌, ◌∷◌, [], ℕ, List, map, ap, sym, subst, ◌∙◌, false}
use Rattle.std.specs.List.{AllByRecursion}
use Rattle.sqlite_trees.specs.View.{IsClean, View}
use Rattle.authdata.specs.declared.profile.Profile.{Profile}
use Rattle.site_state.specs.Sessions.{IsInput, Opening, challenge_of}
use Rattle.site_state.specs.declared.error.BeginError.TheVariants as full
use Rattle.site_rows.specs.Held.{Placed}
use Rattle.site_state.specs.Details.{Detail}
use Rattle.site_rows.specs.Details.{Details, HoldsDetails}
use Rattle.site_stored.specs.State.{StoredState}
use Rattle.site_stored.specs.Calls.{IsNotBegun, IsOneSite, IsSame}
use Rattle.site_stored.specs.Sessions.{begun_text}
use Rattle.site_stored.specs.declared.session.Begun.{Begun}
use Rattle.site_stored.specs.declared.failure.Failure.{Failure}
use Rattle.site_stored.specs.declared.failure.BeginFailure.{BeginFailure}
use Rattle.site_stored.specs.declared.failure.BeginFailure.TheVariants as begins
use Rattle.site_acts.specs.declared.act.Act.{Act}
use Rattle.site_acts.specs.declared.act.Act.TheVariants as acts
use Rattle.site_acts.specs.declared.act.BeginRegistration.{BeginRegistration}
use Rattle.site_acts.specs.declared.act.BeginSignIn.{BeginSignIn}
use Rattle.site_acts.specs.declared.act.FinishRegistration.{FinishRegistration}
use Rattle.site_acts.specs.declared.act.FinishSignIn.{FinishSignIn}
use Rattle.site_lines.specs.declared.answer.Answer.{Answer}
use Rattle.site_lines.specs.declared.answer.Answer.TheVariants as answers
use Rattle.site_acts.specs.declared.known.Known.{Known}
use Rattle.verification.specs.declared.refusal.SignInRefusal.{SignInRefusal}
use Rattle.verification.specs.declared.refusal.RegistrationRefusal.{RegistrationRefusal}
use Rattle.site_lines.specs.Answers.{Begins, Keeps, TellsRegistrationBegun, TellsSignInBegun, opens_registration, opens_sign_in}
use Rattle.site_acts.proofs.Commas.{map_on}
use Rattle.site_lines.specs.Details.{IsKnown, OfDetails, RegistersDetail, TellsAllowed, TellsDetails, TellsExcluded, TellsRowDetails, UsesDetail}
use Rattle.site_lines.specs.Private.{IsNotBegunAfter, IsRefusedRegistration, IsRefusedSignIn, IsUnknown, IsWithKnown, not_begun}
use Rattle.site_lines.specs.declared.knowing.Unknown.{Unknown}
use Rattle.site_lines.specs.declared.knowing.Unknown.TheVariants as unknowns
use Rattle.site_state.specs.declared.row.Row.{Row}
use Rattle.site_lines.proofs.Kept.{failure_then, held_on, same_site, same_then}

-- ---- one look after another

details_on : {S : Type 0} (view : S → View) (old mid : StoredState S) (details : Details) → IsSame view old mid → IsClean (view mid.store)
    → HoldsDetails details (view old.store).trees → HoldsDetails details (view mid.store).trees
details_on view old mid details same clean h = ap (λ v. v.trees 5) (same.store clean) ∙ h

-- what is answered of a site that has not changed, after a look
pub of_details_on : {S : Type 0} (view : S → View) (old mid new : StoredState S) (Of : Placed → Details → Type 0) → IsSame view old mid
    → (IsClean (view new.store) → IsClean (view mid.store)) → OfDetails view mid new Of → OfDetails view old new Of
of_details_on view old mid new Of same back of clean placed held details d =
    of clean placed (held_on view placed old mid same (back clean) held) details (details_on view old mid details same (back clean) d)

-- what is answered of it holds when it has changed
pub of_details_then : {S : Type 0} (view : S → View) (old mid new : StoredState S) (Of : Placed → Details → Type 0)
    → (IsClean (view new.store) → IsClean (view mid.store)) → OfDetails view old mid Of → OfDetails view old new Of
of_details_then view old mid new Of back of clean placed held details d = of (back clean) placed held details d

pub all_on : {X : Type 0} (P : X → Type 0) (xs : List X) (x : X) → AllByRecursion P xs → P x → AllByRecursion P (xs ++ x ∷ [])
all_on P [] x all p = (p, tt)
all_on P (y ∷ xs) x all p = (all.0, all_on P xs x all.1 p)

pub known_on : {S : Type 0} (view : S → View) (old mid new : StoredState S) (ks : List Known) (k : Known) → IsSame view old mid → IsSame view mid new
    → OfDetails view old mid (λ placed details. AllByRecursion (IsKnown placed details) ks)
    → OfDetails view mid new (λ placed details. IsKnown placed details k)
    → OfDetails view old new (λ placed details. AllByRecursion (IsKnown placed details) (ks ++ k ∷ []))
known_on view old mid new ks k one two all of clean placed held details d =
    all_on (IsKnown placed details) ks k (all (two.clean clean) placed held details d) (of_details_on view old mid new _ one two.clean of clean placed held details d)

pub ids_on : {A B : Type 0} (f : A → List ℕ) (g : B → List ℕ) (xs : List A) (ys : List B) (a : A) (b : B) → map f xs ≡ map g ys → f a ≡ g b
    → map f (xs ++ a ∷ []) ≡ map g (ys ++ b ∷ [])
ids_on f g xs ys a b same one = map_on f xs a ∙ ap (λ l. l ++ f a ∷ []) same ∙ ap (λ x. map g ys ++ x ∷ []) one ∙ sym (map_on g ys b)

-- ---- a session that begins after a look

pub begins_after : {S : Type 0} (view : S → View) (o : Opening) (words : List ℕ) (now : ℕ) (b : Begun) (old mid new : StoredState S)
    → IsSame view old mid → (IsClean (view new.store) → IsClean (view mid.store)) → Begins view o words now b mid new → Begins view o words now b old new
begins_after view o words now b old mid new same back h =
    let moved = subst (λ (s : StoredState _). (b.session ≡ s.next) × (b.challenge ≡ challenge_of s.next words) × (b.text.items ≡ begun_text s o now)
    × (new.next ≡ s.next + 1) × IsOneSite s new) same.is (h.0, h.1, h.2, h.3, h.4) in
    let one = moved.4 in (
      moved.0,
      moved.1,
      moved.2,
      moved.3,
      record {
        rp = one.rp;
        policy = one.policy;
        key = one.key;
        lifetime = one.lifetime;
        most = one.most;
        durable = one.durable;
        mark = one.mark;
        next_mark = one.next_mark;
      },
      λ clean placed held. h.5 clean placed (held_on view placed old mid same (back clean) held),
    )

pub not_begun_after : {S : Type 0} (view : S → View) (o : Opening) (old mid new : StoredState S) (why : BeginFailure) → old.is_shut ≡ false → IsSame view old mid
    → IsNotBegun mid new o why → IsNotBegunAfter view old new o why
not_begun_after view o old mid new (begins.Site w) live same h = (
  same_then view old mid new same (same_site view mid new h.0),
  subst (λ (s : StoredState _). ((w ≡ full.BadInput) × (IsInput s.rp.profile o → ⊥)) ⊎ (w ≡ full.Memory)) same.is h.1,
)
not_begun_after view o old mid new begins.NoNumber live same h = (
  same_then view old mid new same (same_site view mid new h.0),
  subst (λ (s : StoredState _). 2 ^ 63 ≤ s.next + 1001) same.is h.1,
)
not_begun_after view o old mid new (begins.Store w) live same h = failure_then view old mid new w live same h

pub no_memory_after : {S : Type 0} (view : S → View) (o : Opening) (old new : StoredState S) → IsSame view old new
    → IsNotBegunAfter view old new o (begins.Site full.Memory)
no_memory_after view o old new same = (same, inr refl)

pub keeps_after : {S : Type 0} (view : S → View) (o : Opening) (old new : StoredState S) (why : BeginFailure) → IsNotBegunAfter view old new o why
    → Keeps view old new (not_begun why)
keeps_after view o old new (begins.Site w) h = h.0
keeps_after view o old new begins.NoNumber h = h.0
keeps_after view o old new (begins.Store w) h = h

pub sign_in_after : {S : Type 0} (view : S → View) (b : BeginSignIn) (words : List ℕ) (now : ℕ) (old new : StoredState S) (why : BeginFailure)
    → IsNotBegunAfter view old new (opens_sign_in b words) why
    → TellsSignInBegun view b words now old new (not_begun why) × TellsAllowed view b old new (not_begun why)
sign_in_after view b words now old new (begins.Site w) h = (h.1, tt)
sign_in_after view b words now old new begins.NoNumber h = (h.1, tt)
sign_in_after view b words now old new (begins.Store w) h = (tt, tt)

pub registration_after : {S : Type 0} (view : S → View) (b : BeginRegistration) (words : List ℕ) (now : ℕ) (old new : StoredState S) (why : BeginFailure)
    → IsNotBegunAfter view old new (opens_registration b words) why
    → TellsRegistrationBegun view b words now old new (not_begun why) × TellsExcluded view b old new (not_begun why)
registration_after view b words now old new (begins.Site w) h = (h.1, tt)
registration_after view b words now old new begins.NoNumber h = (h.1, tt)
registration_after view b words now old new (begins.Store w) h = (tt, tt)

-- ---- a ceremony that is not finished

pub sign_in_leaves : {S : Type 0} (view : S → View) (f : FinishSignIn) (now : ℕ) (old mid new : StoredState S) (step : SignInRefusal) (a : Answer)
    → IsRefusedSignIn view step f mid new a → UsesDetail view now f old new a
sign_in_leaves view f now old mid new step (answers.RegistrationBegun x b known) h = absurd h
sign_in_leaves view f now old mid new step (answers.SignInBegun x b known) h = absurd h
sign_in_leaves view f now old mid new step (answers.Registered x) h = absurd h
sign_in_leaves view f now old mid new step (answers.SignedIn x) h = absurd h
sign_in_leaves view f now old mid new step (answers.Verify t) h = tt
sign_in_leaves view f now old mid new step (answers.RegistrationRefused told id) h = absurd h
sign_in_leaves view f now old mid new step (answers.SignInRefused told id) h = tt
sign_in_leaves view f now old mid new step (answers.Retired was) h = absurd h
sign_in_leaves view f now old mid new step (answers.Deleted was) h = absurd h
sign_in_leaves view f now old mid new step (answers.Abandoned was) h = absurd h
sign_in_leaves view f now old mid new step (answers.RetiredAll count) h = absurd h
sign_in_leaves view f now old mid new step (answers.Erased count) h = absurd h
sign_in_leaves view f now old mid new step (answers.Rows rows known) h = absurd h
sign_in_leaves view f now old mid new step (answers.Status counts) h = absurd h
sign_in_leaves view f now old mid new step (answers.Backup path) h = absurd h
sign_in_leaves view f now old mid new step (answers.NotBackedUp why) h = absurd h
sign_in_leaves view f now old mid new step (answers.NotBegun why) h = absurd h
sign_in_leaves view f now old mid new step (answers.Error why) h = tt
sign_in_leaves view f now old mid new step (answers.Failed why) h = tt

pub registration_leaves : {S : Type 0} (view : S → View) (f : FinishRegistration) (p : Profile) (d : Detail) (old new : StoredState S) (step : RegistrationRefusal) (a : Answer)
    → IsRefusedRegistration p step f a → RegistersDetail view d old new a
registration_leaves view f p d old new step (answers.RegistrationBegun x b known) h = absurd h
registration_leaves view f p d old new step (answers.SignInBegun x b known) h = absurd h
registration_leaves view f p d old new step (answers.Registered x) h = absurd h
registration_leaves view f p d old new step (answers.SignedIn x) h = absurd h
registration_leaves view f p d old new step (answers.Verify t) h = tt
registration_leaves view f p d old new step (answers.RegistrationRefused told id) h = tt
registration_leaves view f p d old new step (answers.SignInRefused told id) h = absurd h
registration_leaves view f p d old new step (answers.Retired was) h = absurd h
registration_leaves view f p d old new step (answers.Deleted was) h = absurd h
registration_leaves view f p d old new step (answers.Abandoned was) h = absurd h
registration_leaves view f p d old new step (answers.RetiredAll count) h = absurd h
registration_leaves view f p d old new step (answers.Erased count) h = absurd h
registration_leaves view f p d old new step (answers.Rows rows known) h = absurd h
registration_leaves view f p d old new step (answers.Status counts) h = absurd h
registration_leaves view f p d old new step (answers.Backup path) h = absurd h
registration_leaves view f p d old new step (answers.NotBackedUp why) h = absurd h
registration_leaves view f p d old new step (answers.NotBegun why) h = absurd h
registration_leaves view f p d old new step (answers.Error why) h = tt
registration_leaves view f p d old new step (answers.Failed why) h = absurd h

-- a failure says nothing of details
pub fails : {S : Type 0} (view : S → View) (now : ℕ) (act : Act) (old new : StoredState S) (why : Failure) → TellsDetails view now act old new (answers.Failed why)
fails view now (acts.BeginRegistration b) old new why = tt
fails view now (acts.FinishRegistration f) old new why = tt
fails view now (acts.BeginSignIn b) old new why = tt
fails view now (acts.FinishSignIn f) old new why = tt
fails view now (acts.Retire id) old new why = tt
fails view now (acts.Delete id) old new why = tt
fails view now (acts.Abandon session) old new why = tt
fails view now (acts.RetireAll user) old new why = tt
fails view now (acts.Erase user) old new why = tt
fails view now (acts.Rows user) old new why = tt
fails view now acts.Status old new why = tt
fails view now (acts.Backup path) old new why = tt

-- rows are answered with what is known of each, after a look
pub row_details_after : {S : Type 0} (view : S → View) (rows : Vec Row Global) (old mid new : StoredState S) (a : Answer) → IsSame view old mid
    → IsWithKnown view rows mid new a → TellsRowDetails view old new a
row_details_after view rows old mid new (answers.RegistrationBegun x b known) same h = absurd h
row_details_after view rows old mid new (answers.SignInBegun x b known) same h = absurd h
row_details_after view rows old mid new (answers.Registered x) same h = absurd h
row_details_after view rows old mid new (answers.SignedIn x) same h = absurd h
row_details_after view rows old mid new (answers.Verify t) same h = absurd h
row_details_after view rows old mid new (answers.RegistrationRefused told id) same h = absurd h
row_details_after view rows old mid new (answers.SignInRefused told id) same h = absurd h
row_details_after view rows old mid new (answers.Retired was) same h = absurd h
row_details_after view rows old mid new (answers.Deleted was) same h = absurd h
row_details_after view rows old mid new (answers.Abandoned was) same h = absurd h
row_details_after view rows old mid new (answers.RetiredAll count) same h = absurd h
row_details_after view rows old mid new (answers.Erased count) same h = absurd h
row_details_after view rows old mid new (answers.Rows told known) same h = (h.1.0 ∙ ap (λ (v : Vec Row Global). map (λ r. r.id.items) v.items) (sym h.0), of_details_on view old mid new _ same h.2.clean h.1.1)
row_details_after view rows old mid new (answers.Status counts) same h = absurd h
row_details_after view rows old mid new (answers.Backup path) same h = absurd h
row_details_after view rows old mid new (answers.NotBackedUp why) same h = absurd h
row_details_after view rows old mid new (answers.NotBegun why) same h = absurd h
row_details_after view rows old mid new (answers.Error why) same h = tt
row_details_after view rows old mid new (answers.Failed why) same h = tt

pub live_on : {S : Type 0} (view : S → View) (old mid : StoredState S) → IsSame view old mid → old.is_shut ≡ false → mid.is_shut ≡ false
live_on view old mid same live = ap (λ (s : StoredState _). s.is_shut) same.is ∙ live

pub unknown_after : {S : Type 0} (view : S → View) (old mid new : StoredState S) (why : Unknown) → old.is_shut ≡ false → IsSame view old mid → IsUnknown view mid new why
    → IsUnknown view old new why
unknown_after view old mid new unknowns.Memory live same h = same_then view old mid new same h
unknown_after view old mid new (unknowns.Failed why) live same h = failure_then view old mid new why live same h
