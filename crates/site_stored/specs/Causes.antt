-- Why a call over a site's store fails.
use Rattle.std.specs.Prelude.{◌≡◌, ◌⊎◌, ◌+◌, ◌-◌, ◌≤◌, ◌^◌, ℕ, ℤ, List, filter, length, Some, false, ⊤, Result, IfErr}
use Rattle.std.specs.Str.{bytes_eq}
use Rattle.std.specs.FinMap as finite
use Rattle.sqlite_disk.specs.Disk.{MoreFaults}
use Rattle.sqlite_trees.specs.Tree.{Trees}
use Rattle.sqlite_trees.specs.View.{HasCause, IsStorableRow, View, IsClean}
use Rattle.sqlite_trees.specs.declared.error.StoreError.{StoreError}
use Rattle.sqlite_trees.specs.declared.error.StoreError.TheVariants.{Broken, Corrupt}
use Rattle.authdata.specs.Flags.{is_set, BE}
use Rattle.authdata.specs.Layout.{AttestedCredential, AuthenticatorData, AuthOf}
use Rattle.authdata.specs.Objects.{Attestation}
use Rattle.authdata.specs.Responses.{AuthenticatorAssertionResponse}
use Rattle.authdata.specs.Responses as responses
use Rattle.authdata.specs.declared.profile.Profile.{Profile}
use Rattle.verification.specs.Records.{Credential, ExpectedRegistration}
use Rattle.verification.specs.Registration.{Attests}
use Rattle.site_state.specs.Table.{retired, signed_in}
use Rattle.site_rows.specs.Causes.{IsRefused}
use Rattle.site_state.specs.Details.{Detail}
use Rattle.site_rows.specs.Details.{Details, HoldsDetails, detail_row, used}
use Rattle.site_rows.specs.Endings.{Endings, HoldsEndings, ending_row}
use Rattle.site_rows.specs.declared.ending.Ending.{Ending}
use Rattle.site_rows.specs.Held.{Holds, IsAt, Placed, rows_of}
use Rattle.site_rows.specs.Rows.{credential_row}
use Rattle.site_stored.specs.Calls.{registered}
use Rattle.site_stored.specs.Summaries.{with_aaguid}
use Rattle.site_stored.specs.State.{StoredState, ended_session_tree, ended_user_tree, key_row, key_tree, mark_row, site_row, site_tree, mark_tree}
use Rattle.site_stored.specs.declared.failure.Failure.{Failure}
use Rattle.site_stored.specs.declared.failure.Failure.TheVariants as failures
use Rattle.site_stored.specs.declared.failure.CreateFailure.{CreateFailure}
use Rattle.site_stored.specs.declared.failure.CreateFailure.TheVariants as creates
use Rattle.site_stored.specs.declared.failure.OpenFailure.{OpenFailure}
use Rattle.site_stored.specs.declared.failure.OpenFailure.TheVariants as opens
use Rattle.site_stored.specs.declared.failure.BeginFailure.{BeginFailure}
use Rattle.site_stored.specs.declared.failure.BeginFailure.TheVariants as begins
use Rattle.site_stored.specs.declared.failure.FinishFailure.{FinishFailure}
use Rattle.site_stored.specs.declared.failure.FinishFailure.TheVariants as finishes
use Rattle.site_rows.specs.Trees.{credential_tree, detail_tree}
use Rattle.sqlite_trees.specs.declared.store.Store.{Ghosts}

-- the trees hold no credentials
abbrev pub IsDamaged : Trees → Type 0
IsDamaged db = (placed : Placed) → Holds placed db → ⊥

-- the trees hold no endings there
abbrev pub IsUnknownEnding : ℕ → Trees → Type 0
IsUnknownEnding tree db = (endings : Endings) → HoldsEndings tree endings db → ⊥

abbrev pub AreUnknownEndings : Trees → Type 0
AreUnknownEndings db = IsUnknownEnding ended_session_tree db ⊎ IsUnknownEnding ended_user_tree db

-- no store takes a row of an ending there, as one with a column of another type
abbrev pub RefusesEnding : ℕ → View → Type 0
RefusesEnding tree old = (number : ℕ) × (ending : Ending) × (¬ IsStorableRow (old.reals tree) (ending_row number ending))

-- the store's failure has its cause in this call, and is never Broken: running out of memory; a fault of the disk, counted in it; a row that no store
-- takes; or, where it is Corrupt, damage
abbrev pub IsCaused : View → ℕ → ℕ → Type 0 → Type 0 → Failure → Type 0
IsCaused old before after refused damage failures.Shut = ⊤
IsCaused old before after refused damage (failures.Failed e) = (e ≡ Broken → ⊥) × (HasCause old (MoreFaults before after) refused e ⊎ ((e ≡ Corrupt) × damage))

-- a call that fails has such a cause, by what its disk did during it
abbrev pub SiteFails : {S A : Type 0} → Ghosts S → S → S → Type 0 → Type 0 → Result A Failure → Type 0
SiteFails g old new refused damage result = IsClean (g.view new) → IfErr result (IsCaused (g.view old) (g.faults old) (g.faults new) refused damage)

-- what is said of the store's failure, where it is why no session begins
abbrev pub IfBeginStore : (Failure → Type 0) → BeginFailure → Type 0
IfBeginStore P (begins.Site why) = ⊤
IfBeginStore P begins.NoNumber = ⊤
IfBeginStore P (begins.Store why) = P why

-- what is said of the store's failure, where it is why a ceremony is not finished
abbrev pub IfFinishStore : {W : Type 0} → (Failure → Type 0) → FinishFailure W → Type 0
IfFinishStore P (finishes.Site why) = ⊤
IfFinishStore P (finishes.Store why) = P why

-- so it is with a ceremony that is not finished
abbrev pub FinishFails : {S A W : Type 0} → Ghosts S → S → S → Type 0 → Type 0 → Result A (FinishFailure W) → Type 0
FinishFails g old new refused damage result =
    IsClean (g.view new) → IfErr result (IfFinishStore (IsCaused (g.view old) (g.faults old) (g.faults new) refused damage))

-- ---- a site over a store that is made or opened

-- the error of a store that a site is to be over has its cause in this call: so too, and it is Broken where the store was shut before, or where a
-- fault of the disk shut it
abbrev pub IsStartCaused : View → ℕ → ℕ → Type 0 → StoreError → Type 0
IsStartCaused old before after refused Broken = (old.is_open ≡ false) ⊎ MoreFaults before after
IsStartCaused old before after refused e = HasCause old (MoreFaults before after) refused e

-- what is said of the store's error, where it is why no site is made
abbrev pub IfCreateStore : (StoreError → Type 0) → CreateFailure → Type 0
IfCreateStore P creates.NotNew = ⊤
IfCreateStore P (creates.Failed e) = P e

-- what is said of the store's error, where it is why no site is opened
abbrev pub IfOpenStore : (StoreError → Type 0) → OpenFailure → Type 0
IfOpenStore P opens.NoSite = ⊤
IfOpenStore P opens.OtherSite = ⊤
IfOpenStore P opens.Newer = ⊤
IfOpenStore P opens.Older = ⊤
IfOpenStore P opens.TooMany = ⊤
IfOpenStore P opens.BadRow = ⊤
IfOpenStore P (opens.Failed e) = P e

-- a start over a store that fails has such a cause
abbrev pub StartFails : {S A : Type 0} → Ghosts S → S → S → Type 0 → Result A StoreError → Type 0
StartFails g old new refused result = IsClean (g.view new) → IfErr result (IsStartCaused (g.view old) (g.faults old) (g.faults new) refused)

abbrev pub CreateFails : {S A : Type 0} → Ghosts S → S → S → Type 0 → Result A CreateFailure → Type 0
CreateFails g old new refused result =
    IsClean (g.view new) → IfErr result (IfCreateStore (IsStartCaused (g.view old) (g.faults old) (g.faults new) refused))

abbrev pub OpenFails : {S A : Type 0} → Ghosts S → S → S → Result A OpenFailure → Type 0
OpenFails g old new result = IsClean (g.view new) → IfErr result (IfOpenStore (IsStartCaused (g.view old) (g.faults old) (g.faults new) ⊥))

-- ---- rows that no store takes, as one of over a billion bytes

-- no store takes the row of the relying party with this number
abbrev pub RefusesNumber : (ℕ → ℕ) → List ℕ → ℕ → Type 0
RefusesNumber reals rp_id next = ¬ IsStorableRow (reals site_tree) (site_row rp_id next)

-- no session begins, and the store failed: no store takes that row with the numbers that are reserved for the session
abbrev pub BeginFails : {S A : Type 0} → Ghosts S → StoredState S → StoredState S → Result A BeginFailure → Type 0
BeginFails g old new result =
    IsClean (g.view new.store)
    → IfErr result (IfBeginStore (IsCaused (g.view old.store) (g.faults old.store) (g.faults new.store)
    (RefusesNumber (g.view old.store).reals old.rp.rp_id (old.next + 1000)) ⊥))

-- no store takes that, or the row of a commit that has a mark, and follows another
abbrev pub RefusesCommit : (ℕ → ℕ) → List ℕ → ℕ → ℕ → ℕ → Type 0
RefusesCommit reals rp_id next mark follows = RefusesNumber reals rp_id next ⊎ (¬ IsStorableRow (reals mark_tree) (mark_row mark follows))

-- no store takes the row of the credential that has an id, so changed
pub record RefusesChange (old : View) (id : List ℕ) (change : Credential → Credential) : Type 0 where
  pub place : ℕ
  pub credential : Credential
  pub found : (placed : Placed) → Holds placed old.trees → IsAt placed id place credential
  pub row : ¬ IsStorableRow (old.reals credential_tree) (credential_row place (change credential))

-- no store takes the row of one of a user's credentials, retired
abbrev pub RefusesAllRetired : View → List ℕ → Type 0
RefusesAllRetired old user =
    (placed : Placed) → Holds placed old.trees
    → (place : ℕ) × (c : Credential) × (finite.get placed place ≡ Some c) × (c.user ≡ user)
    × (¬ IsStorableRow (old.reals credential_tree) (credential_row place (retired c)))

-- a user has more credentials than are listed, if the trees hold credentials at all
abbrev pub AreTooMany : List ℕ → Trees → Type 0
AreTooMany user db = (placed : Placed) → Holds placed db → 2 ^ 32 - 1 ≤ length (filter (λ c. bytes_eq c.user user) (rows_of placed))

-- no store takes the row of the detail of the credential that has an id, used at this second
abbrev pub RefusesUse : View → List ℕ → ℤ → Type 0
RefusesUse old id now =
    (placed : Placed) → Holds placed old.trees → (details : Details) → HoldsDetails details old.trees
    → (place : ℕ) × (c : Credential) × IsAt placed id place c × (¬ IsStorableRow (old.reals detail_tree) (detail_row place (used now (finite.get details place))))

-- no store takes the row of this key
abbrev pub RefusesKey : (ℕ → ℕ) → List ℕ → Type 0
RefusesKey reals key = ¬ IsStorableRow (reals key_tree) (key_row key)

-- no store takes the row of the credential that signs in, with the counter and the mark that came; or that of its detail
abbrev pub RefusesSignedIn : View → Profile → AuthenticatorAssertionResponse → ℤ → Type 0
RefusesSignedIn old profile r now =
    ((a : AuthenticatorData) × AuthOf profile a r.auth_data × RefusesChange old r.credential (signed_in a.sign_count (is_set a.flags BE)))
    ⊎ RefusesUse old r.credential now

-- no store takes the row, or an entry, of the credential that a response attests in a session
pub record RefusesNew {S : Type 0} (old : View) (s : StoredState S) (r : responses.AuthenticatorAttestationResponse) : Type 0 where
  pub expected : ExpectedRegistration
  pub object : Attestation
  pub data_read : AuthenticatorData
  pub credential : AttestedCredential
  pub attests : Attests s.rp.profile r object data_read credential
  pub row : IsRefused old.reals (s.last + 1) (registered expected data_read credential)

-- no store takes that; or the row of its detail
abbrev pub RefusesRegistered : {S : Type 0} → View → StoredState S → responses.AuthenticatorAttestationResponse → Detail → Type 0
RefusesRegistered old s r detail =
    RefusesNew old s r
    ⊎ ((o : Attestation) × (a : AuthenticatorData) × (c : AttestedCredential) × Attests s.rp.profile r o a c
    × (¬ IsStorableRow (old.reals detail_tree) (detail_row (s.last + 1) (with_aaguid c.aaguid detail))))
