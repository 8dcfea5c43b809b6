-- What an answer says of the site from before the line and of the site from after it. What it says of credentials is said of
-- each map of credentials that the store holds, where the disk has returned what was written.
use Rattle.std.specs.Prelude.{◌≡◌, ◌⊎◌, ◌≤◌, ◌+◌, ◌^◌, ◌++◌, ℕ, List, Bool, Option, Some, None, filter, map, option_map}
use Rattle.std.specs.Str.{bytes_eq}
use Rattle.sha2.specs.Sha256.{sha256}
use Rattle.sqlite_trees.specs.View.{View, IsClean}
use Rattle.authdata.specs.Responses.{AuthenticatorAssertionResponse, assertion_response_view, registration_response_view}
use Rattle.site_seal.specs.Seal.{ordered}
use Rattle.site_state.specs.Sessions.{IsInput, Opening, OpensRegistration, OpensSignIn, challenge_of}
use Rattle.site_state.specs.declared.error.BeginError.TheVariants as begins
use Rattle.verification.specs.Records.{Credential, ExpectedRegistration, ExpectedSignIn}
use Rattle.verification.specs.Registration as registration
use Rattle.verification.specs.SignIn.{IsFirstFailing}
use Rattle.verification.specs.declared.refusal.SignInRefusal.{SignInRefusal}
use Rattle.verification.specs.declared.refusal.SignInRefusal.TheVariants as sign_in
use Rattle.verification.specs.declared.refusal.RegistrationRefusal.{RegistrationRefusal}
use Rattle.verification.specs.declared.refusal.RegistrationRefusal.TheVariants as register
use Rattle.site_state.specs.RowViews.{rows_view}
use Rattle.site_rows.specs.Held.{IsAt, Placed, rows_of}
use Rattle.site_rows.specs.Endings.{Endings, HoldsEndings}
use Rattle.site_stored.specs.State.{IsHeld, StoredState, ended_session_tree, ended_user_tree}
use Rattle.site_stored.specs.Sessions.{EndsSession, ExpectsRegistration, ExpectsSignIn, accepted, begun_text}
use Rattle.site_stored.specs.declared.session.Begun.{Begun}
use Rattle.site_stored.specs.Calls.{IsFailure, IsFound, IsOneSite, IsSame, Registers, SignsIn, TellsCutOff, TellsIds, TellsUserCutOff, judged_registration, judged_sign_in}
use Rattle.site_stored.specs.Calls as calls
use Rattle.verification.specs.declared.signature.VerifiedSignature.{VerifiedSignature}
use Rattle.site_acts.specs.Asked.{RegistrationAsks}
use Rattle.site_acts.specs.VerifiedSignatures.{is_valid}
use Rattle.site_acts.specs.declared.verified.Verified.TheVariants as found
use Rattle.site_acts.specs.declared.act.Act.{Act}
use Rattle.site_acts.specs.declared.act.Act.TheVariants as acts
use Rattle.site_acts.specs.declared.act.BeginRegistration.{BeginRegistration}
use Rattle.site_acts.specs.declared.act.BeginSignIn.{BeginSignIn}
use Rattle.site_acts.specs.declared.act.FinishRegistration.{FinishRegistration}
use Rattle.site_acts.specs.declared.act.FinishSignIn.{FinishSignIn}
use Rattle.site_lines.specs.declared.answer.Answer.{Answer}
use Rattle.site_lines.specs.Named.{named_response}
use Rattle.json_lines.specs.declared.error.LineError.TheVariants as errors
use Rattle.site_lines.specs.declared.answer.NotBegun.{NotBegun}
use Rattle.site_lines.specs.declared.answer.NotBegun.TheVariants as none
use Rattle.site_lines.specs.declared.answer.Answer.TheVariants as answers

-- a line that is refused, a refusal, a question and a look leave the site as it was; a failure is one
abbrev pub Keeps : {S : Type 0} → (S → View) → StoredState S → StoredState S → Answer → Type 0
Keeps view old new (answers.NotBegun why) = IsSame view old new
Keeps view old new (answers.Error why) = IsSame view old new
Keeps view old new (answers.Verify t) = IsSame view old new
Keeps view old new (answers.RegistrationRefused step id) = IsSame view old new
Keeps view old new (answers.SignInRefused step id) = IsSame view old new
Keeps view old new (answers.Rows rows known) = IsSame view old new
Keeps view old new (answers.Status counts) = IsSame view old new
Keeps view old new (answers.Backup path) = IsSame view old new
Keeps view old new (answers.Failed why) = IsFailure old new why
Keeps view old new _ = Unit {0}

-- of each map of credentials that the store held before it
abbrev pub OfHeld : {S : Type 0} → (S → View) → StoredState S → StoredState S → (Placed → Type 0) → Type 0
OfHeld view old new Of = IsClean (view new.store) → (placed : Placed) → IsHeld placed old (view old.store).trees → Of placed

-- of each such map, and of the sessions that had ended
abbrev pub OfSessions : {S : Type 0} → (S → View) → StoredState S → StoredState S → (Placed → Endings → Type 0) → Type 0
OfSessions view old new Of =
    OfHeld view old new (λ placed. (ended : Endings) → HoldsEndings ended_session_tree ended (view old.store).trees → Of placed ended)

-- and of the users whose registrations had ended
abbrev pub OfUsers : {S : Type 0} → (S → View) → StoredState S → StoredState S → (Placed → Endings → Endings → Type 0) → Type 0
OfUsers view old new Of =
    OfHeld view old new (λ placed. (ended users : Endings) → HoldsEndings ended_session_tree ended (view old.store).trees
    → HoldsEndings ended_user_tree users (view old.store).trees → Of placed ended users)

-- the session of a text has ended: it was accepted
abbrev pub EndsAccepted : {S : Type 0} → (S → View) → ℕ → List ℕ → StoredState S → StoredState S → Type 0
EndsAccepted view now text old new =
    OfSessions view old new (λ placed ended. (after : Endings) × EndsSession old accepted now text ended after
    × HoldsEndings ended_session_tree after (view new.store).trees)

-- the relying party, what it accepts and its key stay, and so does the number of the next session
abbrev pub IsSameSite : {S : Type 0} → StoredState S → StoredState S → Type 0
IsSameSite old new = IsOneSite old new × (new.next ≡ old.next)

-- it holds another now
abbrev pub Becomes : {S : Type 0} → (S → View) → StoredState S → StoredState S → (Placed → Placed → Type 0) → Type 0
Becomes view old new To = OfHeld view old new (λ placed. (after : Placed) × To placed after × IsHeld after new (view new.store).trees)

-- ---- sign-in

-- the signature that a sign-in asks for: the response's, of the authenticator data and then the hash of the client data,
-- under the key of its credential (WebAuthn Level 2, section 7.2, step 20)
abbrev pub SignInAsks : Placed → AuthenticatorAssertionResponse → VerifiedSignature → Type 0
SignInAsks placed r t =
    ((place : ℕ) × (c : Credential) × IsAt placed r.credential place c × (t.key ≡ c.key))
    × (t.message.items ≡ r.auth_data ++ sha256 r.client_data) × (t.signature.items ≡ r.signature)

-- a step is the first that a response does not pass, with the credential that is found for it, in the session of its text
abbrev pub StopsSignIn : {S : Type 0} → (S → View) → FinishSignIn → ℕ → StoredState S → StoredState S → SignInRefusal → Type 0
StopsSignIn view f now old new step =
    let r = assertion_response_view f.response in
    OfSessions view old new (λ placed ended. (c : Option Credential) × (session : Option ExpectedSignIn) × IsFound placed r.credential c
    × ExpectsSignIn old ended now f.session.items c r session × IsFirstFailing (is_valid f.verified) (judged_sign_in old session c r) step)

-- what the answer to a sign-in's response says: it passes each step, where the one valid signature is the one that the host
-- verified, the session has ended, that credential alone has changed, and what is answered is of this response; or the first step
-- that it does not pass; or, only where the host has verified nothing yet and this step is the signature's, which signature it
-- is to verify. So where the host found it invalid, the step is answered.
abbrev pub TellsSignIn : {S : Type 0} → (S → View) → FinishSignIn → ℕ → StoredState S → StoredState S → Answer → Type 0
TellsSignIn view f now old new (answers.SignedIn x) =
    IsSameSite old new × EndsAccepted view now f.session.items old new
    × OfSessions view old new (λ placed ended. (after : Placed)
    × SignsIn (is_valid f.verified) placed ended old now f.session.items (assertion_response_view f.response) x after
    × IsHeld after new (view new.store).trees)
TellsSignIn view f now old new (answers.SignInRefused step id) = (id.items ≡ f.response.credential.items) × StopsSignIn view f now old new step
TellsSignIn view f now old new (answers.Verify t) =
    (f.verified ≡ found.Nothing) × OfHeld view old new (λ placed. SignInAsks placed (assertion_response_view f.response) t)
    × StopsSignIn view f now old new sign_in.BadSignature
TellsSignIn view f now old new (answers.Error why) = why ≡ errors.Memory
TellsSignIn view f now old new (answers.Failed why) = Unit {0}
TellsSignIn view f now old new _ = ⊥

-- ---- registration

-- a step is the first that a response does not pass in the session of its text, by whichever test tells the ids
abbrev pub StopsRegistration : {S : Type 0} → (S → View) → FinishRegistration → ℕ → StoredState S → StoredState S → RegistrationRefusal → Type 0
StopsRegistration view f now old new step =
    OfUsers view old new (λ placed ended users. (session : Option ExpectedRegistration) × ExpectsRegistration old ended users now f.session.items session
    × ((is_registered : List ℕ → Bool) → TellsIds placed is_registered
    → registration.IsFirstFailing (is_valid f.verified) (judged_registration old session is_registered (named_response f)) step))

-- so it is with the answer to a registration's response, whose step is that of the attestation statement
abbrev pub TellsRegistration : {S : Type 0} → (S → View) → FinishRegistration → ℕ → StoredState S → StoredState S → Answer → Type 0
TellsRegistration view f now old new (answers.Registered x) =
    IsSameSite old new × EndsAccepted view now f.session.items old new
    × OfUsers view old new (λ placed ended users. (after : Placed)
    × Registers (is_valid f.verified) placed ended users old now f.session.items (named_response f) x after
    × IsHeld after new (view new.store).trees)
TellsRegistration view f now old new (answers.RegistrationRefused step id) = (id.items ≡ f.credential.items) × StopsRegistration view f now old new step
TellsRegistration view f now old new (answers.Verify t) =
    (f.verified ≡ found.Nothing) × RegistrationAsks old.rp.profile (registration_response_view f.response) t × StopsRegistration view f now old new register.BadStatement
TellsRegistration view f now old new (answers.Error why) = why ≡ errors.Memory
TellsRegistration view f now old new (answers.Failed why) = Unit {0}
TellsRegistration view f now old new _ = ⊥

-- ---- the other acts

abbrev pub opens_sign_in : BeginSignIn → List ℕ → Opening
opens_sign_in b words = OpensSignIn (option_map (λ u. u.items) b.user) (map (λ id. id.items) b.allow.items) b.user_verification words

abbrev pub opens_registration : BeginRegistration → List ℕ → Opening
opens_registration b words = OpensRegistration b.user.items (ordered b.algorithms.items) b.user_verification words b.asks

-- why none begins: what is asked is out of its limits; or no number is left; running out of memory says nothing. However many were
-- begun, they are not why
abbrev pub IsNotBegun : {S : Type 0} → StoredState S → Opening → NotBegun → Type 0
IsNotBegun old o (none.Refused why) = ((why ≡ begins.BadInput) × (IsInput old.rp.profile o → ⊥)) ⊎ (why ≡ begins.Memory)
IsNotBegun old o none.NoNumber = 2 ^ 63 ≤ old.next + 1001

-- a session has begun, as it was asked for, at this second: its number, its challenge and its text are answered, the next number is one
-- more, and the credentials are as they were
abbrev pub Begins : {S : Type 0} → (S → View) → Opening → List ℕ → ℕ → Begun → StoredState S → StoredState S → Type 0
Begins view opening words now b old new =
    (b.session ≡ old.next) × (b.challenge ≡ challenge_of old.next words) × (b.text.items ≡ begun_text old opening now)
    × (new.next ≡ old.next + 1) × IsOneSite old new × Becomes view old new (λ placed after. after ≡ placed)

abbrev pub TellsSignInBegun : {S : Type 0} → (S → View) → BeginSignIn → List ℕ → ℕ → StoredState S → StoredState S → Answer → Type 0
TellsSignInBegun view b words now old new (answers.SignInBegun x asked known) = (asked ≡ b) × Begins view (opens_sign_in b words) words now x old new
TellsSignInBegun view b words now old new (answers.NotBegun why) = IsNotBegun old (opens_sign_in b words) why
TellsSignInBegun view b words now old new (answers.Failed why) = Unit {0}
TellsSignInBegun view b words now old new _ = ⊥

abbrev pub TellsRegistrationBegun : {S : Type 0} → (S → View) → BeginRegistration → List ℕ → ℕ → StoredState S → StoredState S → Answer → Type 0
TellsRegistrationBegun view b words now old new (answers.RegistrationBegun x asked known) = (asked ≡ b) × Begins view (opens_registration b words) words now x old new
TellsRegistrationBegun view b words now old new (answers.NotBegun why) = IsNotBegun old (opens_registration b words) why
TellsRegistrationBegun view b words now old new (answers.Failed why) = Unit {0}
TellsRegistrationBegun view b words now old new _ = ⊥

-- the registrations of a user that have begun have ended as is answered
abbrev pub BecomesUsers : {S : Type 0} → (S → View) → StoredState S → StoredState S → (Placed → Endings → Endings → Type 0) → Type 0
BecomesUsers view old new To =
    OfHeld view old new (λ placed. (users : Endings) → HoldsEndings ended_user_tree users (view old.store).trees
    → (after : Endings) × To placed users after × HoldsEndings ended_user_tree after (view new.store).trees)

-- what is answered of a credential that is to be retired: it signs in no more, and its user's registrations that have begun have ended
abbrev pub TellsRetired : {S : Type 0} → (S → View) → ℕ → List ℕ → StoredState S → StoredState S → Answer → Type 0
TellsRetired view now id old new (answers.Retired was) =
    IsSameSite old new × Becomes view old new (λ placed after. calls.TellsRetired placed id was after)
    × BecomesUsers view old new (λ placed users after. TellsCutOff placed id was old now users after)
TellsRetired view now id old new (answers.Failed why) = Unit {0}
TellsRetired view now id old new _ = ⊥

-- what is answered of a credential that is to be deleted: it is gone, and its user's registrations that have begun have ended
abbrev pub TellsDeleted : {S : Type 0} → (S → View) → ℕ → List ℕ → StoredState S → StoredState S → Answer → Type 0
TellsDeleted view now id old new (answers.Deleted was) =
    IsSameSite old new × Becomes view old new (λ placed after. calls.TellsDeleted placed id was after)
    × BecomesUsers view old new (λ placed users after. TellsCutOff placed id was old now users after)
TellsDeleted view now id old new (answers.Failed why) = Unit {0}
TellsDeleted view now id old new _ = ⊥

-- the registrations of a user that have begun have ended
abbrev pub CutsOffUser : {S : Type 0} → (S → View) → ℕ → List ℕ → StoredState S → StoredState S → Type 0
CutsOffUser view now user old new =
    OfHeld view old new (λ placed. (users : Endings) → HoldsEndings ended_user_tree users (view old.store).trees
    → TellsUserCutOff old now user users (view new.store).trees)

-- what is answered of a user's credentials that are to be retired: none signs in any more, and the user's registrations that have begun have ended
abbrev pub TellsRetiredAll : {S : Type 0} → (S → View) → ℕ → List ℕ → StoredState S → StoredState S → Answer → Type 0
TellsRetiredAll view now user old new (answers.RetiredAll count) =
    IsSameSite old new × Becomes view old new (λ placed after. calls.TellsAllRetired placed user count after)
    × CutsOffUser view now user old new
TellsRetiredAll view now user old new (answers.Failed why) = Unit {0}
TellsRetiredAll view now user old new _ = ⊥

-- what is answered of a user who is to be erased: no credential is the user's, and the user's registrations that have begun have ended
abbrev pub TellsErased : {S : Type 0} → (S → View) → ℕ → List ℕ → StoredState S → StoredState S → Answer → Type 0
TellsErased view now user old new (answers.Erased count) =
    IsSameSite old new × Becomes view old new (λ placed after. calls.TellsErased placed user count after)
    × CutsOffUser view now user old new
TellsErased view now user old new (answers.Failed why) = Unit {0}
TellsErased view now user old new _ = ⊥

-- what is answered of a session that is to end: whether it was open; the credentials are as they were
abbrev pub TellsAbandoned : {S : Type 0} → (S → View) → ℕ → List ℕ → StoredState S → StoredState S → Answer → Type 0
TellsAbandoned view now text old new (answers.Abandoned was) =
    IsSameSite old new × Becomes view old new (λ placed after. after ≡ placed)
    × (IsClean (view new.store) → (ended : Endings) → HoldsEndings ended_session_tree ended (view old.store).trees
    → (after : Endings) × calls.TellsAbandoned old now text was ended after × HoldsEndings ended_session_tree after (view new.store).trees)
TellsAbandoned view now text old new (answers.Error why) = why ≡ errors.Memory
TellsAbandoned view now text old new (answers.Failed why) = Unit {0}
TellsAbandoned view now text old new _ = ⊥

-- the credentials of the user that is asked for, or all where none is, in order of registration
abbrev pub asked_rows : Option (List ℕ) → Placed → List Credential
asked_rows None placed = rows_of placed
asked_rows (Some user) placed = filter (λ c. bytes_eq c.user user) (rows_of placed)

-- these are answered
abbrev pub TellsRows : {S : Type 0} → (S → View) → Option (List ℕ) → StoredState S → StoredState S → Answer → Type 0
TellsRows view user old new (answers.Rows rows known) = OfHeld view old new (λ placed. rows_view rows.items ≡ asked_rows user placed)
TellsRows view user old new (answers.Error why) = why ≡ errors.Memory
TellsRows view user old new (answers.Failed why) = Unit {0}
TellsRows view user old new _ = ⊥

-- how many credentials there are, and which number the next session has
abbrev pub TellsStatus : {S : Type 0} → StoredState S → StoredState S → Answer → Type 0
TellsStatus old new (answers.Status counts) =
    (counts.credentials ≡ old.count) × (counts.next_session ≡ old.next)
TellsStatus old new (answers.Failed why) = Unit {0}
TellsStatus old new _ = ⊥

-- to which path the file is to be copied: the one that was asked for
abbrev pub TellsBackup : Act → Answer → Type 0
TellsBackup (acts.Backup path) (answers.Backup told) = told ≡ path
TellsBackup act (answers.Failed why) = Unit {0}
TellsBackup _ _ = ⊥

-- what the answer to an act says
abbrev pub Tells : {S : Type 0} → (S → View) → List ℕ → ℕ → Act → StoredState S → StoredState S → Answer → Type 0
Tells view words now (acts.BeginRegistration b) old new answer = TellsRegistrationBegun view b words now old new answer
Tells view words now (acts.FinishRegistration f) old new answer = TellsRegistration view f now old new answer
Tells view words now (acts.BeginSignIn b) old new answer = TellsSignInBegun view b words now old new answer
Tells view words now (acts.FinishSignIn f) old new answer = TellsSignIn view f now old new answer
Tells view words now (acts.Retire id) old new answer = TellsRetired view now id.items old new answer
Tells view words now (acts.Delete id) old new answer = TellsDeleted view now id.items old new answer
Tells view words now (acts.RetireAll user) old new answer = TellsRetiredAll view now user.items old new answer
Tells view words now (acts.Erase user) old new answer = TellsErased view now user.items old new answer
Tells view words now (acts.Abandon session) old new answer = TellsAbandoned view now session.items old new answer
Tells view words now (acts.Rows user) old new answer = TellsRows view (option_map (λ u. u.items) user) old new answer
Tells view words now acts.Status old new answer = TellsStatus old new answer
Tells view words now (acts.Backup path) old new answer = TellsBackup (acts.Backup path) answer
