-- What is answered of a ceremony that is finished, by what the site's call says.
use Rattle.std.proofs.Common.{◌≡◌, ℕ, List, Option, false, subst, sym}
use Rattle.sqlite_trees.specs.View.{View}
use Rattle.authdata.specs.Responses.{AuthenticatorAssertionResponse, assertion_response_view, registration_response_view}
use Rattle.site_lines.specs.Named.{named_response}
use Rattle.authdata.specs.Responses as responses
use Rattle.authdata.specs.declared.profile.Profile.{Profile}
use Rattle.cose.specs.Schemes.{Validity}
use Rattle.verification.specs.declared.refusal.SignInRefusal.{SignInRefusal}
use Rattle.verification.specs.declared.refusal.VerificationError.{VerificationError}
use Rattle.verification.specs.declared.refusal.VerificationError.TheVariants as errors
use Rattle.verification.specs.declared.refusal.RegistrationRefusal.{RegistrationRefusal}
use Rattle.site_rows.specs.Held.{Placed}
use Rattle.site_stored.specs.State.{IsHeld, StoredState}
use Rattle.site_stored.specs.Calls.{IsSame, RefusesRegistration, RefusesSignIn, Registers, SignsIn}
use Rattle.site_stored.specs.declared.finish.SignedIn.{SignedIn}
use Rattle.site_stored.specs.declared.registration.Registered.{Registered}
use Rattle.verification.specs.Signed.{Signed, only_verified}
use Rattle.site_acts.specs.VerifiedSignatures.{is_valid, verified_in}
use Rattle.site_acts.specs.declared.act.FinishRegistration.{FinishRegistration}
use Rattle.site_acts.specs.declared.act.FinishSignIn.{FinishSignIn}
use Rattle.site_lines.specs.declared.answer.Answer.{Answer}
use Rattle.site_lines.specs.declared.answer.Answer.TheVariants as answers
use Rattle.site_lines.specs.Answers.{EndsAccepted, IsSameSite, Keeps, OfSessions, OfUsers, StopsRegistration, StopsSignIn, TellsRegistration, TellsSignIn}
use Rattle.site_lines.specs.Private.{IsRefusedRegistration, IsRefusedSignIn}
use Rattle.site_lines.proofs.Kept.{failure_then, held_on, same_then}

-- ---- sign-in

-- an acceptance, of the parts that were judged
abbrev SignsInBy : {S : Type 0} → (S → View) → Validity → ℕ → List ℕ → StoredState S → StoredState S → AuthenticatorAssertionResponse → SignedIn → Type 0
SignsInBy view valid now text old new r x =
    OfSessions view old new (λ placed ended. (after : Placed) × SignsIn valid placed ended old now text r x after × IsHeld after new (view new.store).trees)

pub sign_in_accepted : {S : Type 0} (view : S → View) (f : FinishSignIn) (now : ℕ) (text : List ℕ) (old new : StoredState S) (r : AuthenticatorAssertionResponse)
    (x : SignedIn) (v : Option Signed) → v ≡ verified_in f.verified → r ≡ assertion_response_view f.response → text ≡ f.session.items → IsSameSite old new
    → EndsAccepted view now text old new → SignsInBy view (only_verified v) now text old new r x → TellsSignIn view f now old new (answers.SignedIn x)
sign_in_accepted view f now text old new r x v verified same texts one ended signs = (
  one,
  subst (λ t. EndsAccepted view now t old new) texts ended,
  subst (λ t. SignsInBy view (is_valid f.verified) now t old new (assertion_response_view f.response) x) texts
      (subst (λ (q : AuthenticatorAssertionResponse). SignsInBy view (is_valid f.verified) now text old new q x) same
      (subst (λ (w : Option Signed). SignsInBy view (only_verified w) now text old new r x) verified signs)),
)

-- the step that was not passed, of the parts that were judged
abbrev RefusesBy : {S : Type 0} → (S → View) → Validity → ℕ → List ℕ → StoredState S → StoredState S → AuthenticatorAssertionResponse
    → VerificationError SignInRefusal → Type 0
RefusesBy view valid now text old new r why = OfSessions view old new (λ placed ended. RefusesSignIn valid placed ended old now text r why)

pub sign_in_step : {S : Type 0} (view : S → View) (f : FinishSignIn) (now : ℕ) (text : List ℕ) (old new : StoredState S) (r : AuthenticatorAssertionResponse)
    (why : VerificationError SignInRefusal) (step : SignInRefusal) (v : Option Signed) → v ≡ verified_in f.verified → r ≡ assertion_response_view f.response
    → text ≡ f.session.items → why ≡ errors.Refused step → RefusesBy view (only_verified v) now text old new r why → StopsSignIn view f now old new step
sign_in_step view f now text old new r why step v verified same texts is refuses =
    let one = subst (λ (w : Option Signed). RefusesBy view (only_verified w) now text old new r why) verified refuses in
    let two = subst (λ (q : AuthenticatorAssertionResponse). RefusesBy view (is_valid f.verified) now text old new q why) same one in
    let three = subst (λ t. RefusesBy view (is_valid f.verified) now t old new (assertion_response_view f.response) why) texts two in
    subst (λ (e : VerificationError SignInRefusal). RefusesBy view (is_valid f.verified) now f.session.items old new (assertion_response_view f.response) e) is three

-- what is answered of that step, after a second look
pub sign_in_refused : {S : Type 0} (view : S → View) (f : FinishSignIn) (now : ℕ) (old mid new : StoredState S) (step : SignInRefusal) (a : Answer)
    → IsSame view old mid → StopsSignIn view f now old mid step → IsRefusedSignIn view step f mid new a → Keeps view mid new a → TellsSignIn view f now old new a
sign_in_refused view f now old mid new step (answers.RegistrationBegun x b known) same stops h k = absurd h
sign_in_refused view f now old mid new step (answers.SignInBegun x b known) same stops h k = absurd h
sign_in_refused view f now old mid new step (answers.Registered x) same stops h k = absurd h
sign_in_refused view f now old mid new step (answers.SignedIn x) same stops h k = absurd h
sign_in_refused view f now old mid new step (answers.Verify t) same stops h k = (
  h.1,
  λ clean placed held. h.2 clean placed (held_on view placed old mid same (k.clean clean) held),
  subst (StopsSignIn view f now old new) h.0 (λ clean. stops (k.clean clean)),
)
sign_in_refused view f now old mid new step (answers.RegistrationRefused told id) same stops h k = absurd h
sign_in_refused view f now old mid new step (answers.SignInRefused told id) same stops h k =
    (h.1, subst (StopsSignIn view f now old new) (sym h.0) (λ clean. stops (k.clean clean)))
sign_in_refused view f now old mid new step (answers.Retired was) same stops h k = absurd h
sign_in_refused view f now old mid new step (answers.Deleted was) same stops h k = absurd h
sign_in_refused view f now old mid new step (answers.Abandoned was) same stops h k = absurd h
sign_in_refused view f now old mid new step (answers.RetiredAll count) same stops h k = absurd h
sign_in_refused view f now old mid new step (answers.Erased count) same stops h k = absurd h
sign_in_refused view f now old mid new step (answers.Rows rows known) same stops h k = absurd h
sign_in_refused view f now old mid new step (answers.Status counts) same stops h k = absurd h
sign_in_refused view f now old mid new step (answers.Backup path) same stops h k = absurd h
sign_in_refused view f now old mid new step (answers.NotBackedUp why) same stops h k = absurd h
sign_in_refused view f now old mid new step (answers.NotBegun why) same stops h k = absurd h
sign_in_refused view f now old mid new step (answers.Error why) same stops h k = h
sign_in_refused view f now old mid new step (answers.Failed why) same stops h k = tt

-- and what it leaves
pub sign_in_left : {S : Type 0} (view : S → View) (f : FinishSignIn) (old mid new : StoredState S) (step : SignInRefusal) (a : Answer)
    → old.is_shut ≡ false → IsSame view old mid → IsRefusedSignIn view step f mid new a → Keeps view mid new a → Keeps view old new a
sign_in_left view f old mid new step (answers.RegistrationBegun x b known) live same h k = absurd h
sign_in_left view f old mid new step (answers.SignInBegun x b known) live same h k = absurd h
sign_in_left view f old mid new step (answers.Registered x) live same h k = absurd h
sign_in_left view f old mid new step (answers.SignedIn x) live same h k = absurd h
sign_in_left view f old mid new step (answers.Verify t) live same h k = same_then view old mid new same k
sign_in_left view f old mid new step (answers.RegistrationRefused told id) live same h k = absurd h
sign_in_left view f old mid new step (answers.SignInRefused told id) live same h k = same_then view old mid new same k
sign_in_left view f old mid new step (answers.Retired was) live same h k = absurd h
sign_in_left view f old mid new step (answers.Deleted was) live same h k = absurd h
sign_in_left view f old mid new step (answers.Abandoned was) live same h k = absurd h
sign_in_left view f old mid new step (answers.RetiredAll count) live same h k = absurd h
sign_in_left view f old mid new step (answers.Erased count) live same h k = absurd h
sign_in_left view f old mid new step (answers.Rows rows known) live same h k = absurd h
sign_in_left view f old mid new step (answers.Status counts) live same h k = absurd h
sign_in_left view f old mid new step (answers.Backup path) live same h k = absurd h
sign_in_left view f old mid new step (answers.NotBackedUp why) live same h k = absurd h
sign_in_left view f old mid new step (answers.NotBegun why) live same h k = absurd h
sign_in_left view f old mid new step (answers.Error why) live same h k = same_then view old mid new same k
sign_in_left view f old mid new step (answers.Failed why) live same h k = failure_then view old mid new why live same k

-- ---- registration

-- an acceptance, of the parts that were judged
abbrev RegistersBy : {S : Type 0} → (S → View) → Validity → ℕ → List ℕ → StoredState S → StoredState S → responses.AuthenticatorAttestationResponse → Registered → Type 0
RegistersBy view valid now text old new r x =
    OfUsers view old new (λ placed ended users. (after : Placed) × Registers valid placed ended users old now text r x after × IsHeld after new (view new.store).trees)

pub registration_accepted : {S : Type 0} (view : S → View) (f : FinishRegistration) (now : ℕ) (text : List ℕ) (old new : StoredState S)
    (r : responses.AuthenticatorAttestationResponse) (x : Registered) (v : Option Signed) → v ≡ verified_in f.verified → r ≡ named_response f
    → text ≡ f.session.items → IsSameSite old new → EndsAccepted view now text old new → RegistersBy view (only_verified v) now text old new r x
    → TellsRegistration view f now old new (answers.Registered x)
registration_accepted view f now text old new r x v verified same texts one ended registers = (
  one,
  subst (λ t. EndsAccepted view now t old new) texts ended,
  subst (λ t. RegistersBy view (is_valid f.verified) now t old new (named_response f) x) texts
      (subst (λ (q : responses.AuthenticatorAttestationResponse). RegistersBy view (is_valid f.verified) now text old new q x) same
      (subst (λ (w : Option Signed). RegistersBy view (only_verified w) now text old new r x) verified registers)),
)

-- the step that was not passed, of the parts that were judged
abbrev RefusesNewBy : {S : Type 0} → (S → View) → Validity → ℕ → List ℕ → StoredState S → StoredState S → responses.AuthenticatorAttestationResponse
    → VerificationError RegistrationRefusal → Type 0
RefusesNewBy view valid now text old new r why = OfUsers view old new (λ placed ended users. RefusesRegistration valid placed ended users old now text r why)

pub registration_step : {S : Type 0} (view : S → View) (f : FinishRegistration) (now : ℕ) (text : List ℕ) (old new : StoredState S)
    (r : responses.AuthenticatorAttestationResponse) (why : VerificationError RegistrationRefusal) (step : RegistrationRefusal) (v : Option Signed)
    → v ≡ verified_in f.verified → r ≡ named_response f → text ≡ f.session.items → why ≡ errors.Refused step
    → RefusesNewBy view (only_verified v) now text old new r why → StopsRegistration view f now old new step
registration_step view f now text old new r why step v verified same texts is refuses =
    let one = subst (λ (w : Option Signed). RefusesNewBy view (only_verified w) now text old new r why) verified refuses in
    let two = subst (λ (q : responses.AuthenticatorAttestationResponse). RefusesNewBy view (is_valid f.verified) now text old new q why) same one in
    let three = subst (λ t. RefusesNewBy view (is_valid f.verified) now t old new (named_response f) why) texts two in
    subst (λ (e : VerificationError RegistrationRefusal). RefusesNewBy view (is_valid f.verified) now f.session.items old new (named_response f) e) is three

-- what is answered of that step
pub registration_refused : {S : Type 0} (view : S → View) (f : FinishRegistration) (now : ℕ) (old new : StoredState S) (step : RegistrationRefusal) (a : Answer)
    → StopsRegistration view f now old new step → IsRefusedRegistration old.rp.profile step f a → TellsRegistration view f now old new a
registration_refused view f now old new step (answers.RegistrationBegun x b known) stops h = absurd h
registration_refused view f now old new step (answers.SignInBegun x b known) stops h = absurd h
registration_refused view f now old new step (answers.Registered x) stops h = absurd h
registration_refused view f now old new step (answers.SignedIn x) stops h = absurd h
registration_refused view f now old new step (answers.Verify t) stops h = (h.1, h.2, subst (StopsRegistration view f now old new) h.0 stops)
registration_refused view f now old new step (answers.RegistrationRefused told id) stops h = (h.1, subst (StopsRegistration view f now old new) (sym h.0) stops)
registration_refused view f now old new step (answers.SignInRefused told id) stops h = absurd h
registration_refused view f now old new step (answers.Retired was) stops h = absurd h
registration_refused view f now old new step (answers.Deleted was) stops h = absurd h
registration_refused view f now old new step (answers.Abandoned was) stops h = absurd h
registration_refused view f now old new step (answers.RetiredAll count) stops h = absurd h
registration_refused view f now old new step (answers.Erased count) stops h = absurd h
registration_refused view f now old new step (answers.Rows rows known) stops h = absurd h
registration_refused view f now old new step (answers.Status counts) stops h = absurd h
registration_refused view f now old new step (answers.Backup path) stops h = absurd h
registration_refused view f now old new step (answers.NotBackedUp why) stops h = absurd h
registration_refused view f now old new step (answers.NotBegun why) stops h = absurd h
registration_refused view f now old new step (answers.Error why) stops h = h
registration_refused view f now old new step (answers.Failed why) stops h = absurd h

-- and what it leaves
pub registration_left : {S : Type 0} (view : S → View) (f : FinishRegistration) (profile : Profile) (old new : StoredState S) (step : RegistrationRefusal) (a : Answer)
    → IsSame view old new → IsRefusedRegistration profile step f a → Keeps view old new a
registration_left view f p old new step (answers.RegistrationBegun x b known) same h = absurd h
registration_left view f p old new step (answers.SignInBegun x b known) same h = absurd h
registration_left view f p old new step (answers.Registered x) same h = absurd h
registration_left view f p old new step (answers.SignedIn x) same h = absurd h
registration_left view f p old new step (answers.Verify t) same h = same
registration_left view f p old new step (answers.RegistrationRefused told id) same h = same
registration_left view f p old new step (answers.SignInRefused told id) same h = absurd h
registration_left view f p old new step (answers.Retired was) same h = absurd h
registration_left view f p old new step (answers.Deleted was) same h = absurd h
registration_left view f p old new step (answers.Abandoned was) same h = absurd h
registration_left view f p old new step (answers.RetiredAll count) same h = absurd h
registration_left view f p old new step (answers.Erased count) same h = absurd h
registration_left view f p old new step (answers.Rows rows known) same h = absurd h
registration_left view f p old new step (answers.Status counts) same h = absurd h
registration_left view f p old new step (answers.Backup path) same h = absurd h
registration_left view f p old new step (answers.NotBackedUp why) same h = absurd h
registration_left view f p old new step (answers.NotBegun why) same h = absurd h
registration_left view f p old new step (answers.Error why) same h = same
registration_left view f p old new step (answers.Failed why) same h = absurd h
