-- What private functions are proved against; no public clause cites it.
use Rattle.std.specs.Prelude.{◌≡◌, ◌≢◌, ⊤, ◌<◌, ◌≤◌, ◌-◌, ◌^◌, ◌⊎◌, ℕ, ℤ, List, [], filter, Bool, if◌then◌else◌, Option, Some, None, true, false, option_map, IsSome, IsTrue, Result, IfErr, OnOk}
use Rattle.std.specs.Str.{bytes_eq}
use Rattle.std.specs.FinMap as finite
use Rattle.std.specs.List.{AllByRecursion}
use Rattle.sqlite_value.specs.Order.{Row}
use Rattle.site_rows.specs.Rows.{IsStored, credential_row}
use Rattle.sqlite_trees.specs.View.{View, IsClean, IsStorableRow, HasCause}
use Rattle.cose.specs.Schemes.{Validity}
use Rattle.authdata.specs.Flags.{is_set, BE}
use Rattle.authdata.specs.Layout.{AuthenticatorData, AuthOf}
use Rattle.authdata.specs.Responses.{AuthenticatorAssertionResponse}
use Rattle.authdata.specs.Responses as responses
use Rattle.authdata.specs.declared.profile.Profile.{Profile}
use Rattle.verification.specs.Records.{AttestedRegistration, Credential, ExpectedRegistration, ExpectedSignIn, NewCredential, RelyingParty}
use Rattle.verification.specs.RegistrationAnswers.{IsVerifiedRegistration}
use Rattle.verification.specs.RegistrationAnswers as registrations
use Rattle.verification.specs.declared.refusal.RegistrationRefusal.{RegistrationRefusal}
use Rattle.verification.specs.Registration.{JudgedRegistration, PassesRegistration}
use Rattle.verification.specs.declared.party.Policy.{Policy}
use Rattle.verification.specs.SignIn.{JudgedSignIn, PassesSignIn}
use Rattle.verification.specs.declared.refusal.VerificationError.{VerificationError}
use Rattle.std.specs.Option.{ForSome}
use Rattle.site_state.specs.Table.{retired, signed_in}
use Rattle.site_state.specs.RowViews.{row_view}
use Rattle.site_rows.specs.Held.{HasNone, HasTrees, Holds, IsAt, IsWritten, Placed, IsSameView, rows_of}
use Rattle.site_rows.specs.declared.finding.Found.{Found}
use Rattle.site_rows.specs.Details.{Details, HoldsDetails, IsDetailed, detail_row, used}
use Rattle.site_stored.specs.Calls.{TellsAllForgotten, TellsIds, is_users}
use Rattle.site_stored.specs.Causes.{IfOpenStore}
use Rattle.site_stored.specs.Summaries.{Summarises}
use Rattle.site_stored.specs.declared.finish.SignedIn.{SignedIn}
use Rattle.site_stored.specs.declared.failure.Failure.TheVariants as failures
use Rattle.site_stored.specs.declared.failure.FinishFailure.{FinishFailure}
use Rattle.site_stored.specs.declared.failure.FinishFailure.TheVariants as finishes
use Rattle.site_rows.specs.Calls.{IfClean, IsQuiet}
use Rattle.site_rows.specs.Trees.{credential_tree, id_tree, user_tree, detail_tree, HasTable}
use Rattle.site_stored.specs.State.{ended_session_tree, ended_user_tree, key_tree, site_tree, mark_tree, IsReady, FitsColumn}
use Rattle.site_rows.specs.Endings.{Endings, HoldsEndings}
use Rattle.site_rows.specs.declared.ending.Ending.{Ending}
use Rattle.site_seal.specs.Seal.{IsExpectedOf, SealedSignIn, Session, registration, sign_in, user_number}
use Rattle.site_seal.specs.Views.{ceremony_view, session_view}
use Rattle.site_seal.specs.declared.error.SealError.{SealError}
use Rattle.site_seal.specs.declared.error.SealError.TheVariants as seals
use Rattle.site_state.specs.declared.error.BeginError.{BeginError}
use Rattle.site_state.specs.declared.error.BeginError.TheVariants.{BadInput, Memory}
use Rattle.site_stored.specs.Sessions.{Ends, IsCutOff, IsGiven, longest, until}
use Rattle.site_stored.specs.declared.session.Given.{Given}
use Rattle.site_stored.specs.declared.session.SessionFailure.{SessionFailure}
use Rattle.site_stored.specs.declared.session.SessionFailure.TheVariants as sessions
use Rattle.sqlite_disk.specs.Disk.{MoreFaults}
use Rattle.sqlite_trees.specs.declared.store.Store.{Ghosts}
use Rattle.sqlite_trees.specs.declared.error.StoreError.TheVariants.{OutOfMemory}
use Rattle.site_stored.specs.declared.site_store.SiteStore.{SiteStore}
use Rattle.site_stored.specs.declared.failure.Failure.{Failure}
use Rattle.site_stored.specs.declared.failure.OpenFailure.{OpenFailure}
use Rattle.site_stored.specs.declared.failure.OpenFailure.TheVariants as opens

-- ---- what a call over the store of a site leaves of it

-- the store is ready, where its disk has given no wrong answer
abbrev pub IsReadyStore : {S : Type 0} → Ghosts S → SiteStore S → Type 0
IsReadyStore g s = IfClean (g.view s.store) (λ v. IsReady v s.is_pending)

-- and no failure has shut it
abbrev pub IsOpenStore : {S : Type 0} → Ghosts S → SiteStore S → Type 0
IsOpenStore g s = (s.is_shut ≡ false) × IsReadyStore g s

-- the numbers that are reserved and committed stay
abbrev pub KeepsNumbers : {S : Type 0} → SiteStore S → SiteStore S → Type 0
KeepsNumbers old new = (new.reserved ≡ old.reserved) × (new.durable ≡ old.durable)

-- a failure shuts it, and its numbers stay
abbrev pub FailsShut : {S A : Type 0} → SiteStore S → SiteStore S → Result A Failure → Type 0
FailsShut old new result = IfErr result (λ e. (new.is_shut ≡ true) × (new.reserved ≡ old.reserved) × (new.durable ≡ old.durable) × (e ≡ failures.Shut → ⊥))

-- a call that reads: it has moved cursors at most
pub record ReadsStore {S A : Type 0} (g : Ghosts S) (old new : SiteStore S) (result : Result A Failure) : Type 0 where
  pub same : OnOk result (IsSameView (g.view old.store) (g.view new.store))
  pub kept : OnOk result (new ≡ record old { store = new.store })
  pub failed : FailsShut old new result
  pub quiet : IsQuiet g old.store new.store

-- a call that writes, after which these numbers are reserved: the store is open, and has something to commit
pub record WritesStore {S A : Type 0} (g : Ghosts S) (old new : SiteStore S) (reserved : ℕ) (result : Result A Failure) : Type 0 where
  pub ready : OnOk result (IfClean (g.view new.store) (λ v. IsReady v true))
  pub opened : OnOk result ((new.is_shut ≡ false) × (new.is_pending ≡ true) × (new.reserved ≡ reserved) × (new.durable ≡ old.durable))
  pub reals : (g.view new.store).reals ≡ (g.view old.store).reals
  pub failed : FailsShut old new result
  pub quiet : IsQuiet g old.store new.store

-- a call that may have written: the store is open
pub record LeavesStore {S A E : Type 0} (g : Ghosts S) (old new : SiteStore S) (result : Result A E) : Type 0 where
  pub ready : OnOk result (IsReadyStore g new)
  pub opened : OnOk result (new.is_shut ≡ false)
  pub quiet : IsQuiet g old.store new.store

-- a transaction begins with the columns of type REAL of the last commit
abbrev pub TakesReals : View → View → Type 0
TakesReals old new = IsClean new → new.reals ≡ old.committed_reals

-- nothing waits to be committed
abbrev pub IsSettled : View → Type 0
IsSettled v = IsReady v false

-- why no site is opened: the store fails with a cause of its own, or there is no memory
abbrev pub ReadingFails : {S A : Type 0} → Ghosts S → S → S → Result A OpenFailure → Type 0
ReadingFails g old new result = IsClean (g.view new) → IfErr result (IfOpenStore (HasCause (g.view old) (MoreFaults (g.faults old) (g.faults new)) ⊥))

abbrev pub LacksMemory : {A : Type 0} → Result A OpenFailure → Type 0
LacksMemory result = IfErr result (IfOpenStore (λ e. e ≡ OutOfMemory))

-- if it fails, not for its age
abbrev pub IsNotOlder : {A : Type 0} → Result A OpenFailure → Type 0
IsNotOlder result = IfErr result (λ e. e ≡ opens.Older → ⊥)

-- a number that a session may have, and a column holds
abbrev pub IsNumber : ℕ → Type 0
IsNumber n = (1 ≤ n) × FitsColumn n

-- a number that is not below another, and that a column holds
abbrev pub GoesOn : ℕ → ℕ → Type 0
GoesOn from next = (from ≤ next) × FitsColumn next

-- no row was left at the cursor
abbrev pub HadNoRow : View → View → Type 0
HadNoRow old new = IsClean new → (left : List Row) → old.cursors 0 ≡ Some left → left ≡ []

-- ---- what is found, and what it makes of the store

-- a credential where it stands under an id; or none where none has it
abbrev pub IsFoundAs : Placed → List ℕ → Option Found → Type 0
IsFoundAs placed id None = HasNone placed id
IsFoundAs placed id (Some f) = IsAt placed id f.place (row_view f.credential)

abbrev pub credential_of : Option Found → Option Credential
credential_of found = option_map (λ (f : Found). row_view f.credential) found

-- a step refuses it and nothing has changed; or the store has failed, and is shut
abbrev pub IsStopped : {W : Type 0} → Type 0 → Bool → (VerificationError W → Type 0) → FinishFailure W → Type 0
IsStopped same is_shut IsRefusal (finishes.Site why) = same × IsRefusal why
IsStopped same is_shut IsRefusal (finishes.Store why) = (is_shut ≡ true) × (why ≡ failures.Shut → ⊥)

abbrev pub judged : RelyingParty → Option ExpectedSignIn → Option Found → AuthenticatorAssertionResponse → JudgedSignIn
judged rp session found r = record { rp = rp; session = session; credential = credential_of found; response = r }

-- what was found passes each step, and is written with the counter and the mark that came, and with the second of its use
pub record SignsInAs (valid : Validity) (rp : RelyingParty) (session : Option ExpectedSignIn) (found : Option Found) (r : AuthenticatorAssertionResponse)
    (now : ℤ) (x : SignedIn) (old new : View) : Type 0 where
  pub at : Found
  pub data_read : AuthenticatorData
  pub is : found ≡ Some at
  pub passes : PassesSignIn valid (judged rp session found r)
  pub read : AuthOf rp.profile data_read r.auth_data
  pub user : x.user.items ≡ (row_view at.credential).user
  pub credential : x.credential.items ≡ r.credential
  pub told : Summarises x.summary data_read
  pub written : IsClean new → (mid : View)
      × ((placed : Placed) → Holds placed old.trees → finite.get placed at.place ≡ Some (row_view at.credential)
      → IsWritten old mid (finite.insert placed at.place (signed_in data_read.sign_count (is_set data_read.flags BE) (row_view at.credential))))
      × IsDetailed mid new (λ details. finite.insert details at.place (used now (finite.get details at.place)))

-- no store takes the row of what was found with the counter and the mark that came, or that of its detail, used at this second
abbrev pub RefusesFound : View → Profile → Option Found → AuthenticatorAssertionResponse → ℤ → Type 0
RefusesFound old profile found r now =
    (f : Found) × (found ≡ Some f)
    × (((a : AuthenticatorData) × AuthOf profile a r.auth_data
    × (¬ IsStorableRow (old.reals credential_tree) (credential_row f.place (signed_in a.sign_count (is_set a.flags BE) (row_view f.credential)))))
    ⊎ ((placed : Placed) → Holds placed old.trees → finite.get placed f.place ≡ Some (row_view f.credential)
    → (details : Details) → HoldsDetails details old.trees → ¬ IsStorableRow (old.reals detail_tree) (detail_row f.place (used now (finite.get details f.place)))))

-- what was found is retired, where it was not before
abbrev pub RetiresFound : Option Found → Type 0 → View → View → Bool → Type 0
RetiresFound found same old new true =
    (f : Found) × (found ≡ Some f) × ((row_view f.credential).retired ≡ false)
    × (IsClean new → (placed : Placed) → Holds placed old.trees → finite.get placed f.place ≡ Some (row_view f.credential)
    → IsWritten old new (finite.insert placed f.place (retired (row_view f.credential))))
RetiresFound found same old new false = same × ForSome (credential_of found) (λ c. c.retired ≡ true)

-- no store takes the row of what was found, retired
abbrev pub RefusesRetired : View → Option Found → Type 0
RefusesRetired old found =
    (f : Found) × (found ≡ Some f) × (¬ IsStorableRow (old.reals credential_tree) (credential_row f.place (retired (row_view f.credential))))

-- what was found is deleted, with its detail
abbrev pub DeletesFound : Option Found → Type 0 → View → View → Bool → Type 0
DeletesFound found same old new true =
    (f : Found) × (found ≡ Some f)
    × (IsClean new → (mid : View)
    × ((placed : Placed) → Holds placed old.trees → finite.get placed f.place ≡ Some (row_view f.credential) → IsWritten old mid (finite.remove placed f.place))
    × IsDetailed mid new (λ details. finite.remove details f.place))
DeletesFound found same old new false = same × (found ≡ None)

-- a registration as it is judged
abbrev pub judged_by : RelyingParty → Policy → Option ExpectedRegistration → responses.AuthenticatorAttestationResponse → (List ℕ → Bool) → Bool → JudgedRegistration
judged_by rp policy session r is_registered is_full =
    record { rp = rp; policy = policy; session = session; response = r; is_registered = is_registered; is_full = is_full }

-- whether a credential has an id, as it is given
abbrev pub TellsHad : Placed → List ℕ → Bool → Type 0
TellsHad placed id true = (place : ℕ) × (c : Credential) × IsAt placed id place c
TellsHad placed id false = HasNone placed id

-- the response attests it, which passes each step since no credential has its id
pub record Admits (valid : Validity) (rp : RelyingParty) (policy : Policy) (session : Option ExpectedRegistration) (r : responses.AuthenticatorAttestationResponse)
    (is_full : Bool) (attested : AttestedRegistration) (old new : View) : Type 0 where
  pub open_session : IsSome session
  pub room : is_full ≡ false
  pub attests : IsVerifiedRegistration (judged_by rp policy session r (λ _. false) false) attested
  pub fresh : IsClean new → (placed : Placed) → Holds placed old.trees → HasNone placed attested.credential.id
  pub passes : IsClean new → (placed : Placed) → Holds placed old.trees → (is_registered : List ℕ → Bool) → TellsIds placed is_registered
      → PassesRegistration valid (judged_by rp policy session r is_registered is_full)

-- a step refuses it, whichever test tells the ids
abbrev pub IsNotAdmitted : Validity → RelyingParty → Policy → Option ExpectedRegistration → responses.AuthenticatorAttestationResponse → Bool → View → View
    → VerificationError RegistrationRefusal → Type 0
IsNotAdmitted valid rp policy session r is_full old new why =
    IsClean new → (placed : Placed) → Holds placed old.trees → (is_registered : List ℕ → Bool) → TellsIds placed is_registered
    → registrations.IsRefused valid (judged_by rp policy session r is_registered is_full) why

-- the credential that is admitted, as a user's
abbrev pub admitted_as : List ℕ → NewCredential → Credential
admitted_as user c = record { id = c.id; user = user; key = c.key; sign_count = c.sign_count; eligible = Some c.eligible; retired = false }

-- the store is open, and no transaction is begun
pub record IsAtRest (v : View) : Type 0 where
  pub begun : v.trees ≡ v.committed
  pub sound : v.is_broken ≡ false
  pub is_open : IsTrue v.is_open

-- the store has the trees of a site, without rows
pub record IsNew (v : View) : Type 0 where
  pub rest : IsAtRest v
  pub shapes : HasTrees v × HasTable site_tree v × HasTable detail_tree v × HasTable mark_tree v × HasTable key_tree v × HasTable ended_session_tree v
      × HasTable ended_user_tree v
  pub credentials : v.trees credential_tree ≡ []
  pub site : v.trees site_tree ≡ []
  pub by_id : v.trees id_tree ≡ []
  pub by_user : v.trees user_tree ≡ []
  pub details : v.trees detail_tree ≡ []
  pub marks : v.trees mark_tree ≡ []
  pub key : v.trees key_tree ≡ []
  pub ended_sessions : v.trees ended_session_tree ≡ []
  pub ended_users : v.trees ended_user_tree ≡ []

-- where a row is a credential's, its place is not above this one
abbrev pub IsUpTo : ℕ → Row → Type 0
IsUpTo last row = (place : ℕ) (c : Credential) → row ≡ credential_row place c → place ≤ last

-- a row is a credential's, at a place of 32 bits
abbrev pub IsCredentialRow : Row → Type 0
IsCredentialRow row = (place : ℕ) × (c : Credential) × (row ≡ credential_row place c) × IsStored c × (place < 2 ^ 32)

abbrev pub AreCredentials : List Row → Type 0
AreCredentials rows = AllByRecursion IsCredentialRow rows

-- ---- sessions

-- a table of endings
abbrev pub IsEndingTree : ℕ → Type 0
IsEndingTree tree = (tree ≡ ended_session_tree) ⊎ (tree ≡ ended_user_tree)

-- the transaction has written this table of endings, and no other tree
pub record EndsIn (tree now number : ℕ) (ending : Ending) (old new : View) : Type 0 where
  pub holds : (endings : Endings) → HoldsEndings tree endings old.trees → (after : Endings) × Ends now number ending endings after × HoldsEndings tree after new.trees
  pub others : (n : ℕ) → n ≢ tree → new.trees n ≡ old.trees n
  pub is : new ≡ record old { trees = new.trees; cursors = new.cursors }

-- an open session of this number, as a text says it
abbrev pub IsGivenAs : List ℕ → List ℕ → ℕ → ℕ → List ℕ → Given → Type 0
IsGivenAs key rp_id next now text g = IsGiven key rp_id next now text g.number (session_view g.opened)

-- the open session of a text, by what has ended; none where there is none
abbrev pub IsOpenIn : List ℕ → List ℕ → ℕ → Endings → ℕ → List ℕ → Option Given → Type 0
IsOpenIn key rp_id next ended now text (Some g) = IsGivenAs key rp_id next now text g × (finite.get ended g.number ≡ None)
IsOpenIn key rp_id next ended now text None =
    (n : ℕ) (x : Session) → IsGiven key rp_id next now text n x → finite.get ended n ≡ None → ⊥

-- how it is answered that a session can't be read
abbrev pub finish_refusal : {W : Type 0} → SessionFailure → FinishFailure W
finish_refusal sessions.Memory = finishes.Site VerificationError.Memory
finish_refusal (sessions.Store why) = finishes.Store why

-- why no session is answered: there was no memory, and nothing has changed; or the store has failed, and is shut
abbrev pub IsUntold : {S : Type 0} → SiteStore S → SiteStore S → SessionFailure → Type 0
IsUntold old new sessions.Memory = new ≡ old
IsUntold old new (sessions.Store why) = (new.is_shut ≡ true) × (why ≡ failures.Shut → ⊥)

-- what is said of the store's failure, where it is why no session is answered
abbrev pub IfSessionStore : (Failure → Type 0) → SessionFailure → Type 0
IfSessionStore P sessions.Memory = ⊤
IfSessionStore P (sessions.Store why) = P why

-- a call that tells a session: it has moved cursors at most. Where there was no memory nothing has changed, and a failure of the store shuts it
pub record ReadsSession {S A : Type 0} (g : Ghosts S) (old new : SiteStore S) (result : Result A SessionFailure) : Type 0 where
  pub same : OnOk result (IsSameView (g.view old.store) (g.view new.store) × (new ≡ record old { store = new.store }))
  pub failed : IfErr result (IsUntold old new)
  pub reserved : KeepsNumbers old new
  pub quiet : IsQuiet g old.store new.store

-- a limit that a text has is one that what is asked has
abbrev pub seal_refusal : SealError → BeginError
seal_refusal seals.BadInput = BadInput
seal_refusal seals.Memory = Memory

-- what a session that was given expects of a credential of this user and this id, where it is for sign-in
abbrev pub ExpectsAs : List ℕ → Option Given → List ℕ → List ℕ → Option ExpectedSignIn → Type 0
ExpectsAs key None user id e = e ≡ None
ExpectsAs key (Some g) user id (Some e) = (x : SealedSignIn) × (ceremony_view g.opened.ceremony ≡ sign_in x) × IsExpectedOf key x user id e
ExpectsAs key (Some g) user id None = (x : SealedSignIn) → ceremony_view g.opened.ceremony ≡ sign_in x → ⊥

-- what a session that was given expects, where it is for registration
abbrev pub AwaitsAs : Option Given → Option ExpectedRegistration → Type 0
AwaitsAs None e = e ≡ None
AwaitsAs (Some g) (Some e) = ceremony_view g.opened.ceremony ≡ registration e
AwaitsAs (Some g) None = (e : ExpectedRegistration) → ceremony_view g.opened.ceremony ≡ registration e → ⊥

-- the open session for registration of a text, by what has ended; none where there is none
abbrev pub IsRegistrationIn : List ℕ → List ℕ → ℕ → Endings → Endings → ℕ → List ℕ → Option Given → Type 0
IsRegistrationIn key rp_id next ended users now text (Some g) =
    (e : ExpectedRegistration) × (ceremony_view g.opened.ceremony ≡ registration e) × IsGivenAs key rp_id next now text g
    × (finite.get ended g.number ≡ None) × (IsCutOff key users g.number e.user → ⊥)
IsRegistrationIn key rp_id next ended users now text None =
    (n ends : ℕ) (e : ExpectedRegistration) → IsGiven key rp_id next now text n (record { ends = ends; ceremony = registration e })
    → finite.get ended n ≡ None → (IsCutOff key users n e.user → ⊥) → ⊥

-- where a credential was found and was there, the registrations of its user have ended; else nothing is written
abbrev pub CutsOffFound : List ℕ → ℕ → ℕ → Bool → Option Found → View → View → Type 0
CutsOffFound key next now true (Some f) old new =
    EndsIn ended_user_tree now (user_number key (row_view f.credential).user) (record { said = next; until = until now longest }) old new
CutsOffFound key next now true None old new = new ≡ old
CutsOffFound key next now false found old new = new ≡ old

-- ---- the credentials of a user, one after another

-- no credential has the id, and nothing has changed; or the one that has it is deleted, with its detail, and nothing else
abbrev pub DeletesOne : Placed → List ℕ → ℕ → ℕ → View → View → Type 0
DeletesOne placed id count left old new =
    (HasNone placed id × (left ≡ count) × (new.trees ≡ old.trees))
    ⊎ ((place : ℕ) × (c : Credential) × IsAt placed id place c × (left ≡ count - 1) × Holds (finite.remove placed place) new.trees
    × ((details : Details) → HoldsDetails details old.trees → HoldsDetails (finite.remove details place) new.trees)
    × ((n : ℕ) → n ≢ credential_tree → n ≢ id_tree → n ≢ user_tree → n ≢ detail_tree → new.trees n ≡ old.trees n))

-- a credential that has the id was retired, and nothing has changed; or it was not, and is retired, and nothing else
abbrev pub RetiresOne : Placed → List ℕ → View → View → Type 0
RetiresOne placed id old new =
    (((place : ℕ) (c : Credential) → IsAt placed id place c → c.retired ≡ true) × (new.trees ≡ old.trees))
    ⊎ ((place : ℕ) × (c : Credential) × IsAt placed id place c × (c.retired ≡ false) × Holds (finite.insert placed place (retired c)) new.trees
    × ((n : ℕ) → n ≢ credential_tree → n ≢ id_tree → n ≢ user_tree → new.trees n ≡ old.trees n))

-- of a user's credentials none is there, nor a detail of one; all else is as before
pub record ErasesRows (user : List ℕ) (placed : Placed) (count left : ℕ) (old new : View) : Type 0 where
  pub after : Placed
  pub after_is : (place : ℕ) → finite.get after place ≡ (if is_users user (finite.get placed place) then None else finite.get placed place)
  pub holds : Holds after new.trees
  pub counted : finite.len placed ≡ count → finite.len after ≡ left
  pub details : (details : Details) → HoldsDetails details old.trees → TellsAllForgotten placed user details new.trees
  pub others : (n : ℕ) → n ≢ credential_tree → n ≢ id_tree → n ≢ user_tree → n ≢ detail_tree → new.trees n ≡ old.trees n

-- each of a user's credentials is retired; all else is as before
pub record RetiresRows (user : List ℕ) (placed : Placed) (old new : View) : Type 0 where
  pub after : Placed
  pub after_is : (place : ℕ) → finite.get after place ≡ (if is_users user (finite.get placed place) then option_map retired (finite.get placed place) else finite.get placed place)
  pub holds : Holds after new.trees
  pub counted : finite.len after ≡ finite.len placed
  pub others : (n : ℕ) → n ≢ credential_tree → n ≢ id_tree → n ≢ user_tree → new.trees n ≡ old.trees n

-- these are a user's credentials, in order of registration
abbrev pub AreUsers : List ℕ → Placed → List Credential → Type 0
AreUsers user placed listed = listed ≡ filter (λ c. bytes_eq c.user user) (rows_of placed)
