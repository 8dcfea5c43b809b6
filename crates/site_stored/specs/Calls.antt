-- What the calls of a site over a store make of it.
use Rattle.std.specs.Prelude.{string_bytes, ◌≡◌, ◌≢◌, ◌+◌, ◌≤◌, ◌^◌, ◌⊎◌, ⊤, ℕ, ℤ, List, [], ◌∷◌, length, filter, Bool, if◌then◌else◌, Option, Some, None, option_map, true, false, max, not, nat_lt, ◌&&◌, Result, IfErr, IfOk, OnOk, IsErrOf}
use Rattle.std.specs.FinMap as finite
use Rattle.std.specs.Str.{bytes_eq}
use Rattle.sqlite_trees.specs.View.{View, IsClean}
use Rattle.cose.specs.Schemes.{Validity}
use Rattle.authdata.specs.Flags.{is_set, BE}
use Rattle.authdata.specs.Layout.{AttestedCredential, AuthenticatorData, AuthOf}
use Rattle.authdata.specs.Objects.{Attestation}
use Rattle.authdata.specs.Responses.{AuthenticatorAssertionResponse}
use Rattle.authdata.specs.Responses as responses
use Rattle.verification.specs.Records.{Credential, ExpectedRegistration, ExpectedSignIn}
use Rattle.verification.specs.SignIn.{IsFirstFailing, JudgedSignIn, PassesSignIn}
use Rattle.verification.specs.Registration.{Attests, JudgedRegistration, PassesRegistration, counted}
use Rattle.std.specs.Option.{ForSome}
use Rattle.site_state.specs.Table.{retired, signed_in}
use Rattle.site_state.specs.RowViews.{row_view}
use Rattle.site_state.specs.Sessions.{IsInput, Opening, challenge_of}
use Rattle.verification.specs.Registration as registrations
use Rattle.verification.specs.declared.refusal.RegistrationRefusal.{RegistrationRefusal}
use Rattle.verification.specs.declared.refusal.VerificationError.{VerificationError}
use Rattle.verification.specs.declared.refusal.VerificationError.TheVariants as errors
use Rattle.verification.specs.declared.refusal.SignInRefusal.{SignInRefusal}
use Rattle.site_rows.specs.Held.{HasNone, IsAt, Placed, rows_of}
use Rattle.site_state.specs.Details.{Detail}
use Rattle.site_stored.specs.Summaries.{Summarises}
use Rattle.site_rows.specs.Details.{Details, HoldsDetails, used}
use Rattle.sqlite_trees.specs.Tree.{Trees}
use Rattle.site_stored.specs.State.{AreReserved, StoredState, ended_user_tree, mark_after, site_tree, to_commit, IsHeld}
use Rattle.site_stored.specs.declared.failure.Failure.{Failure}
use Rattle.site_stored.specs.declared.failure.Failure.TheVariants as failures
use Rattle.site_stored.specs.declared.failure.BeginFailure.{BeginFailure}
use Rattle.site_stored.specs.declared.failure.BeginFailure.TheVariants as begins
use Rattle.site_stored.specs.declared.failure.FinishFailure.{FinishFailure}
use Rattle.site_stored.specs.declared.failure.FinishFailure.TheVariants as finishes
use Rattle.site_stored.specs.declared.finish.SignedIn.{SignedIn}
use Rattle.site_stored.specs.declared.registration.Registered.{Registered}
use Rattle.site_rows.specs.Calls.{IsQuiet}
use Rattle.site_rows.specs.Trees.{credential_tree, id_tree, user_tree}
use Rattle.sqlite_trees.specs.declared.store.Store.{Ghosts}
use Rattle.site_state.specs.declared.error.BeginError.TheVariants.{BadInput, Memory}
use Rattle.site_rows.specs.Endings.{Endings, HoldsEndings}
use Rattle.site_stored.specs.Sessions.{CutsOff, EndsSession, IsOpen, abandoned, ExpectsRegistration, ExpectsSignIn, begun_text}
use Rattle.site_seal.specs.Seal.{Session}
use Rattle.site_stored.specs.declared.session.Begun.{Begun}

-- ---- what every call keeps

-- a call that changes nothing has moved cursors of the store at most
pub record IsSame {S : Type 0} (view : S → View) (old new : StoredState S) : Type 0 where
  pub is : new ≡ record old { store = new.store }
  pub clean : IsClean (view new.store) → IsClean (view old.store)
  pub store : IsClean (view new.store) → view new.store ≡ record (view old.store) { cursors = (view new.store).cursors }

-- the relying party, the policy, the key, the lifetime and the bound on credentials stay, what is committed, and the marks of commits
pub record IsOneSite {S : Type 0} (old new : StoredState S) : Type 0 where
  pub rp : new.rp ≡ old.rp
  pub policy : new.policy ≡ old.policy
  pub key : new.key ≡ old.key
  pub lifetime : new.lifetime ≡ old.lifetime
  pub most : new.most ≡ old.most
  pub durable : new.durable ≡ old.durable
  pub mark : new.mark ≡ old.mark
  pub next_mark : new.next_mark ≡ old.next_mark

-- why a call failed: the site was shut, and has not changed; or the store or memory failed, and it is shut from now on
abbrev pub IsFailure : {S : Type 0} → StoredState S → StoredState S → Failure → Type 0
IsFailure old new failures.Shut = (old.is_shut ≡ true) × (new ≡ old)
IsFailure old new (failures.Failed e) = (old.is_shut ≡ false) × (new.is_shut ≡ true)

-- a call that reads: nothing of the site has changed. A site that was shut says so, and one that fails is shut
pub record ReadsSite {S A : Type 0} (g : Ghosts S) (old new : StoredState S) (result : Result A Failure) : Type 0 where
  pub same : OnOk result (IsSame g.view old new)
  pub failed : IfErr result (IsFailure old new)
  pub shut : old.is_shut ≡ true → IsErrOf result failures.Shut
  pub quiet : IsQuiet g old.store new.store

-- a tree is none of these
abbrev pub IsNone : ℕ → List ℕ → Type 0
IsNone tree [] = ⊤
IsNone tree (t ∷ ts) = (tree ≢ t) × IsNone tree ts

-- the trees beside these are as before
abbrev pub KeepsBeside : List ℕ → Trees → Trees → Type 0
KeepsBeside written before after = (tree : ℕ) → IsNone tree written → after tree ≡ before tree

-- those of credentials
abbrev pub credential_trees : List ℕ
credential_trees = credential_tree ∷ id_tree ∷ user_tree ∷ []

-- ---- a commit

-- where something was written, it is committed; more numbers are reserved in the same commit, the next number is none that an
-- earlier commit has reserved, and the next mark is another one
pub record IsCommit {S : Type 0} (old new : StoredState S) : Type 0 where
  pub quiet : old.is_pending ≡ false → new ≡ old
  pub moved : old.is_pending ≡ true
      → new ≡ record old {
        store = new.store;
        is_pending = false;
        reserved = to_commit old.durable old.reserved;
        durable = to_commit old.durable old.reserved;
        mark = old.next_mark;
        next_mark = mark_after old.next_mark;
        next = max old.next old.durable;
      }

-- ---- a session begins

-- why none begins: what is asked is out of its limits, there was no memory, or no number is left, and nothing has changed; or a failure
abbrev pub IsNotBegun : {S : Type 0} → StoredState S → StoredState S → Opening → BeginFailure → Type 0
IsNotBegun old new o (begins.Site why) = (new ≡ old) × (((why ≡ BadInput) × (IsInput old.rp.profile o → ⊥)) ⊎ (why ≡ Memory))
IsNotBegun old new o begins.NoNumber = (new ≡ old) × (2 ^ 63 ≤ old.next + 1001)
IsNotBegun old new o (begins.Store why) = IsFailure old new why

-- a session begins: its number, its challenge and its text are answered, the next number is one more, and each credential is as before. However many
-- were begun, they are not why none begins; a site that was shut says so
pub record Begins {S : Type 0} (g : Ghosts S) (old new : StoredState S) (o : Opening) (words : List ℕ) (now : ℕ) (result : Result Begun BeginFailure) : Type 0 where
  pub begun : IfOk result (λ b. (b.session ≡ old.next) × (b.challenge ≡ challenge_of old.next words) × (b.text.items ≡ begun_text old o now))
  pub input : OnOk result (IsInput old.rp.profile o)
  pub next : OnOk result (new.next ≡ old.next + 1)
  pub given : OnOk result (AreReserved new)
  pub refused : IfErr result (IsNotBegun old new o)
  pub held : OnOk result (IsClean (g.view new.store) → (placed : Placed) → IsHeld placed old (g.view old.store).trees → IsHeld placed new (g.view new.store).trees)
  pub beside : OnOk result (IsClean (g.view new.store) → KeepsBeside (site_tree ∷ []) (g.view old.store).trees (g.view new.store).trees)
  pub one : OnOk result (IsOneSite old new × (new.is_shut ≡ false))
  pub shut : old.is_shut ≡ true → IsErrOf result (begins.Store failures.Shut)
  pub quiet : IsQuiet g old.store new.store

-- what is answered of a session that is to be abandoned: true where its text is that of an open one, which has ended; false where it is not, and nothing
-- has changed
abbrev pub TellsAbandoned : {S : Type 0} → StoredState S → ℕ → List ℕ → Bool → Endings → Endings → Type 0
TellsAbandoned s now text true before after = EndsSession s abandoned now text before after
TellsAbandoned s now text false before after = (after ≡ before) × ((n : ℕ) (x : Session) → IsOpen s before now text n x → ⊥)

-- ---- sign-in (WebAuthn Level 2, section 7.2)

-- the credential that is found for an id: the one that has it, or none where none has
abbrev pub IsFound : Placed → List ℕ → Option Credential → Type 0
IsFound placed id None = HasNone placed id
IsFound placed id (Some c) = (place : ℕ) × IsAt placed id place c

-- a response as it is judged by what a session expects, with the credential that was found for it
abbrev pub judged_sign_in : {S : Type 0} → StoredState S → Option ExpectedSignIn → Option Credential → AuthenticatorAssertionResponse → JudgedSignIn
judged_sign_in s session found r = record { rp = s.rp; session = session; credential = found; response = r }

-- a response passes each step in the open session of a text, with the credential of its id; who signed in is answered; and that credential alone has
-- changed, which keeps the counter and the mark of eligibility that came
pub record SignsIn {S : Type 0} (valid : Validity) (placed : Placed) (ended : Endings) (s : StoredState S) (now : ℕ) (text : List ℕ)
    (r : AuthenticatorAssertionResponse) (x : SignedIn) (after : Placed) : Type 0 where
  pub expected : ExpectedSignIn
  pub place : ℕ
  pub credential : Credential
  pub data_read : AuthenticatorData
  pub found : IsAt placed r.credential place credential
  pub session : ExpectsSignIn s ended now text (Some credential) r (Some expected)
  pub passes : PassesSignIn valid (judged_sign_in s (Some expected) (Some credential) r)
  pub read : AuthOf s.rp.profile data_read r.auth_data
  pub tells_user : x.user.items ≡ credential.user
  pub tells_credential : x.credential.items ≡ r.credential
  pub tells_data : Summarises x.summary data_read
  pub after_is : after ≡ finite.insert placed place (signed_in data_read.sign_count (is_set data_read.flags BE) credential)

-- why a ceremony is not finished: a step refuses it, or memory, and nothing has changed; or a failure
abbrev pub IsNotFinished : {S W : Type 0} → (S → View) → StoredState S → StoredState S → (VerificationError W → Type 0) → FinishFailure W → Type 0
IsNotFinished view old new IsRefusal (finishes.Site why) = IsSame view old new × IsRefusal why
IsNotFinished view old new IsRefusal (finishes.Store why) = IsFailure old new why

-- the first step that a response does not pass is named, with the credential that is found for it; running out of memory says nothing
abbrev pub RefusesSignIn : {S : Type 0} → Validity → Placed → Endings → StoredState S → ℕ → List ℕ → AuthenticatorAssertionResponse
    → VerificationError SignInRefusal → Type 0
RefusesSignIn valid placed ended s now text r errors.Memory = ⊤
RefusesSignIn valid placed ended s now text r (errors.Refused step) =
    (found : Option Credential) × (session : Option ExpectedSignIn) × IsFound placed r.credential found × ExpectsSignIn s ended now text found r session
    × IsFirstFailing valid (judged_sign_in s session found r) step

-- ---- registration (WebAuthn Level 2, section 7.1)

-- the most credentials are registered, or the last place was given
abbrev pub is_full : {S : Type 0} → StoredState S → Bool
is_full s = not (nat_lt s.count s.most && nat_lt s.last 4294967295)

-- a response as it is judged by what a session expects; whether a credential has an id is answered by a test
abbrev pub judged_registration : {S : Type 0} → StoredState S → Option ExpectedRegistration → (List ℕ → Bool) → responses.AuthenticatorAttestationResponse
    → JudgedRegistration
judged_registration s session is_registered r = record {
  rp = s.rp;
  policy = s.policy;
  session = session;
  response = r;
  is_registered = is_registered;
  is_full = is_full s;
}

-- a test tells just which ids credentials have
pub record TellsIds (placed : Placed) (is_registered : List ℕ → Bool) : Type 0 where
  pub there : (id : List ℕ) → is_registered id ≡ true → (place : ℕ) × (c : Credential) × IsAt placed id place c
  pub none : (id : List ℕ) → is_registered id ≡ false → HasNone placed id

-- the credential that is registered: with the session's user, and the counter and the mark of eligibility that came
abbrev pub registered : ExpectedRegistration → AuthenticatorData → AttestedCredential → Credential
registered e a c = record {
  id = c.id;
  user = e.user;
  key = c.key;
  sign_count = a.sign_count;
  eligible = Some (is_set a.flags BE);
  retired = false;
}

-- a response passes each step in the open session of a text, since no credential has its id; which one is answered; and it stands last, and nothing
-- else has changed
pub record Registers {S : Type 0} (valid : Validity) (placed : Placed) (ended users : Endings) (s : StoredState S) (now : ℕ) (text : List ℕ)
    (r : responses.AuthenticatorAttestationResponse) (x : Registered) (after : Placed) : Type 0 where
  pub expected : ExpectedRegistration
  pub object : Attestation
  pub data_read : AuthenticatorData
  pub credential : AttestedCredential
  pub session : ExpectsRegistration s ended users now text (Some expected)
  pub attests : Attests s.rp.profile r object data_read credential
  pub passes : (is_registered : List ℕ → Bool) → TellsIds placed is_registered → PassesRegistration valid (judged_registration s (Some expected) is_registered r)
  pub fresh : HasNone placed credential.id
  pub tells : row_view x.credential ≡ registered expected data_read credential
  pub tells_data : Summarises x.summary data_read
  pub tells_aaguid : x.aaguid ≡ credential.aaguid
  pub tells_format : string_bytes x.format ≡ (counted s.rp.profile expected.attestation object).fmt
  pub after_is : after ≡ finite.insert placed (s.last + 1) (registered expected data_read credential)

-- the first step that a response does not pass is named; running out of memory says nothing
abbrev pub RefusesRegistration : {S : Type 0} → Validity → Placed → Endings → Endings → StoredState S → ℕ → List ℕ → responses.AuthenticatorAttestationResponse
    → VerificationError RegistrationRefusal → Type 0
RefusesRegistration valid placed ended users s now text r errors.Memory = ⊤
RefusesRegistration valid placed ended users s now text r (errors.Refused step) =
    (session : Option ExpectedRegistration) × ExpectsRegistration s ended users now text session
    × ((is_registered : List ℕ → Bool) → TellsIds placed is_registered → registrations.IsFirstFailing valid (judged_registration s session is_registered r) step)

-- ---- credentials end

-- what is answered of a credential that is to be retired: true where it was there and not retired, and it is retired now; false where
-- none has the id or it was retired before, and nothing has changed
abbrev pub TellsRetired : Placed → List ℕ → Bool → Placed → Type 0
TellsRetired placed id true after =
    (place : ℕ) × (c : Credential) × IsAt placed id place c × (c.retired ≡ false) × (after ≡ finite.insert placed place (retired c))
TellsRetired placed id false after = (after ≡ placed) × ((found : Option Credential) × IsFound placed id found × ForSome found (λ c. c.retired ≡ true))

-- what is answered of a credential that is to be deleted: true where it was there, and it is gone; false where none has the id
abbrev pub TellsDeleted : Placed → List ℕ → Bool → Placed → Type 0
TellsDeleted placed id true after = (place : ℕ) × (c : Credential) × IsAt placed id place c × (after ≡ finite.remove placed place)
TellsDeleted placed id false after = (after ≡ placed) × HasNone placed id

-- what it does to sessions: where it was there, the registrations of its user that have begun have ended; else none has
abbrev pub TellsCutOff : {S : Type 0} → Placed → List ℕ → Bool → StoredState S → ℕ → Endings → Endings → Type 0
TellsCutOff placed id true s now before after = (place : ℕ) × (c : Credential) × IsAt placed id place c × CutsOff s now c.user before after
TellsCutOff placed id false s now before after = after ≡ before

-- such a call leaves the number of the next session. A site that was shut says so, and one that fails is shut
pub record EndsCredential {S A : Type 0} (g : Ghosts S) (old new : StoredState S) (result : Result A Failure) : Type 0 where
  pub one : OnOk result (IsOneSite old new × (new.is_shut ≡ false) × (new.next ≡ old.next))
  pub failed : IfErr result (IsFailure old new)
  pub shut : old.is_shut ≡ true → IsErrOf result failures.Shut
  pub quiet : IsQuiet g old.store new.store

-- ---- details

-- the detail of the credential that has an id tells when it was used, and nothing else of details has changed
abbrev pub TellsUsed : Placed → List ℕ → ℤ → Details → Trees → Type 0
TellsUsed placed id now details after =
    (place : ℕ) × (c : Credential) × IsAt placed id place c × HoldsDetails (finite.insert details place (used now (finite.get details place))) after

-- with a credential that is deleted its detail is gone, and no other
abbrev pub TellsForgotten : Placed → List ℕ → Bool → Details → Trees → Type 0
TellsForgotten placed id true details after = (place : ℕ) × (c : Credential) × IsAt placed id place c × HoldsDetails (finite.remove details place) after
TellsForgotten placed id false details after = HoldsDetails details after

-- what is answered of the credential of an id: what is known of it; none where nothing is, or where none has the id
abbrev pub TellsDetail : Placed → List ℕ → Details → Option Detail → Type 0
TellsDetail placed id details told =
    ((place : ℕ) × (c : Credential) × IsAt placed id place c × (told ≡ finite.get details place)) ⊎ (HasNone placed id × (told ≡ None))

-- ---- all credentials of a user end

-- whether a credential of this user stands there
abbrev pub is_users : List ℕ → Option Credential → Bool
is_users user None = false
is_users user (Some c) = bytes_eq c.user user

-- what is answered of a user who is to be erased: how many credentials the user had. None of them is there, and every other is as before
abbrev pub TellsErased : Placed → List ℕ → ℕ → Placed → Type 0
TellsErased placed user told after =
    (told ≡ length (filter (λ c. bytes_eq c.user user) (rows_of placed)))
    × ((place : ℕ) → finite.get after place ≡ (if is_users user (finite.get placed place) then None else finite.get placed place))

-- with these credentials their details are gone, and no other
abbrev pub TellsAllForgotten : Placed → List ℕ → Details → Trees → Type 0
TellsAllForgotten placed user details trees =
    (after : Details) × HoldsDetails after trees
    × ((place : ℕ) → finite.get after place ≡ (if is_users user (finite.get placed place) then None else finite.get details place))

-- what is answered of a user whose credentials are to be retired: how many were not. Each of the user's is retired, and every other is as before
abbrev pub TellsAllRetired : Placed → List ℕ → ℕ → Placed → Type 0
TellsAllRetired placed user told after =
    (told ≡ length (filter (λ c. not c.retired) (filter (λ c. bytes_eq c.user user) (rows_of placed))))
    × ((place : ℕ) → finite.get after place ≡ (if is_users user (finite.get placed place) then option_map retired (finite.get placed place) else finite.get placed place))

-- the registrations of a user that have begun have ended, whether the user has credentials or not
abbrev pub TellsUserCutOff : {S : Type 0} → StoredState S → ℕ → List ℕ → Endings → Trees → Type 0
TellsUserCutOff s now user before trees = (after : Endings) × CutsOff s now user before after × HoldsEndings ended_user_tree after trees
