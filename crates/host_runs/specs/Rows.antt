-- What a host stores that keeps the rows of a site itself, and what each of its transactions reads and writes: the rules for rows
-- of docs/OPERATING.md (WebAuthn Level 2, sections 7.1 and 7.2).
use Rattle.std.specs.Prelude.{◌≡◌, ◌≢◌, ◌<◌, ℕ, List, Option, Some, None, is_some, false}
use Rattle.base64.specs.GeneralPurpose.{IsBytes}
use Rattle.cose.specs.Schemes.{Validity}
use Rattle.authdata.specs.Flags.{is_set, BE}
use Rattle.authdata.specs.Layout.{AttestedCredential, AuthenticatorData, AuthOf}
use Rattle.authdata.specs.Objects.{Attestation}
use Rattle.authdata.specs.Responses.{AuthenticatorAssertionResponse, AuthenticatorAttestationResponse}
use Rattle.verification.specs.Records.{Credential, ExpectedRegistration, ExpectedSignIn, RelyingParty}
use Rattle.verification.specs.Registration.{Attests, JudgedRegistration, PassesRegistration}
use Rattle.verification.specs.SignIn.{JudgedSignIn, PassesSignIn}
use Rattle.verification.specs.declared.party.Policy.{Policy}
use Rattle.site_state.specs.Sessions.{Expected, ForRegistration, ForSignIn, challenge_in}
use Rattle.site_state.specs.Table.{retired, signed_in}
use Rattle.site.specs.State.{registered}

-- ---- tables

-- the row that stands under each key
abbrev pub Table : Type 0 → Type 0
Table Row = List ℕ → Option Row

-- the row is written under the key, in place of what stands there; and each other is as it was
abbrev pub Writes : {Row : Type 0} → Table Row → List ℕ → Row → Table Row → Type 0
Writes old key row new = (new key ≡ Some row) × ((other : List ℕ) → other ≢ key → new other ≡ old other)

-- what stands under the key is taken out
abbrev pub TakesOut : {Row : Type 0} → Table Row → List ℕ → Table Row → Type 0
TakesOut old key new = (new key ≡ None) × ((other : List ℕ) → other ≢ key → new other ≡ old other)

-- the relying party and the policy; the credentials, each under its id; and the open sessions, each under a key: what it was begun for, and its challenge
pub record HostStore : Type 0 where
  pub rp : RelyingParty
  pub policy : Policy
  pub credentials : Table Credential
  pub sessions : Table Expected

-- ---- verdicts: what the host passes is what it read

abbrev pub judged_sign_in : HostStore → ExpectedSignIn → Credential → AuthenticatorAssertionResponse → JudgedSignIn
judged_sign_in h e c r = record { rp = h.rp; session = Some e; credential = Some c; response = r }

abbrev pub judged_registration : HostStore → ExpectedRegistration → AuthenticatorAttestationResponse → JudgedRegistration
judged_registration h e r = record {
  rp = h.rp;
  policy = h.policy;
  session = Some e;
  response = r;
  is_registered = λ id. is_some (h.credentials id);
  is_full = false;
}

-- ---- transactions

-- a session begins, in place of one that stands under its key, with a challenge of bytes
pub record Begun (old : HostStore) (key : List ℕ) (e : Expected) (new : HostStore) : Type 0 where
  pub bytes : IsBytes (challenge_in e)
  pub writes : Writes old.sessions key e new.sessions
  pub rest : new ≡ record old { sessions = new.sessions }

-- a sign-in is finished: the rows that were read stand there when it writes, and pass. The counter and the mark that came are written into the
-- credential's row, where its counter is the one that was judged; and the session's row is deleted
pub record SignedIn (valid : Validity) (old : HostStore) (key : List ℕ) (e : ExpectedSignIn) (c : Credential) (r : AuthenticatorAssertionResponse)
    (new : HostStore) : Type 0 where
  pub session : old.sessions key ≡ Some (ForSignIn e)
  pub credential : old.credentials r.credential ≡ Some c
  pub passes : PassesSignIn valid (judged_sign_in old e c r)
  pub auth : AuthenticatorData
  pub spelled : AuthOf old.rp.profile auth r.auth_data
  pub writes : Writes old.credentials r.credential (signed_in auth.sign_count (is_set auth.flags BE) c) new.credentials
  pub deletes : TakesOut old.sessions key new.sessions
  pub rest : new ≡ record old { credentials = new.credentials; sessions = new.sessions }

-- a registration is finished: so it is of its session; and the credential's row is inserted, under an id where none stands
pub record Registered (valid : Validity) (old : HostStore) (key : List ℕ) (e : ExpectedRegistration) (r : AuthenticatorAttestationResponse)
    (new : HostStore) : Type 0 where
  pub session : old.sessions key ≡ Some (ForRegistration e)
  pub passes : PassesRegistration valid (judged_registration old e r)
  pub object : Attestation
  pub auth : AuthenticatorData
  pub credential : AttestedCredential
  pub attests : Attests old.rp.profile r object auth credential
  pub inserts : Writes old.credentials credential.id (registered e auth credential) new.credentials
  pub deletes : TakesOut old.sessions key new.sessions
  pub rest : new ≡ record old { credentials = new.credentials; sessions = new.sessions }

-- a credential is retired: its row stays
pub record Retired (old : HostStore) (id : List ℕ) (c : Credential) (new : HostStore) : Type 0 where
  pub there : old.credentials id ≡ Some c
  pub writes : Writes old.credentials id (retired c) new.credentials
  pub rest : new ≡ record old { credentials = new.credentials }

-- it is deleted
pub record Deleted (old : HostStore) (id : List ℕ) (new : HostStore) : Type 0 where
  pub deletes : TakesOut old.credentials id new.credentials
  pub rest : new ≡ record old { credentials = new.credentials }

-- a session's row is deleted without an answer: it is abandoned, or too old
pub record Closed (old : HostStore) (key : List ℕ) (e : Expected) (new : HostStore) : Type 0 where
  pub there : old.sessions key ≡ Some e
  pub deletes : TakesOut old.sessions key new.sessions
  pub rest : new ≡ record old { sessions = new.sessions }

-- the site goes on with other pages, another profile or another policy; its rp id stays
pub record Configured (old : HostStore) (rp : RelyingParty) (policy : Policy) (new : HostStore) : Type 0 where
  pub rp_id : rp.rp_id ≡ old.rp.rp_id
  pub rest : new ≡ record old { rp = rp; policy = policy }

-- each with the rows that it read. One that is refused or rolled back changes nothing, and is left out
pub data Transaction : Type 0 where
  Begins : (key : List ℕ) (e : Expected) → Transaction
  SignsIn : (key : List ℕ) (e : ExpectedSignIn) (c : Credential) (r : AuthenticatorAssertionResponse) → Transaction
  Registers : (key : List ℕ) (e : ExpectedRegistration) (r : AuthenticatorAttestationResponse) → Transaction
  Retires : (id : List ℕ) (c : Credential) → Transaction
  Deletes : (id : List ℕ) → Transaction
  Closes : (key : List ℕ) (e : Expected) → Transaction
  Configures : (rp : RelyingParty) (policy : Policy) → Transaction

abbrev pub Commits : Validity → HostStore → Transaction → HostStore → Type 0
Commits valid old (Begins key e) new = Begun old key e new
Commits valid old (SignsIn key e c r) new = SignedIn valid old key e c r new
Commits valid old (Registers key e r) new = Registered valid old key e r new
Commits valid old (Retires id c) new = Retired old id c new
Commits valid old (Deletes id) new = Deleted old id new
Commits valid old (Closes key e) new = Closed old key e new
Commits valid old (Configures rp policy) new = Configured old rp policy new

-- ---- two that race: the second finds that a row is not the one that it read, and is rolled back

-- after a finish of a session no other finishes it, whatever was read
abbrev pub AnswersOnce : Validity → Validity → Type 0
AnswersOnce first second =
    (old new later : HostStore) (key : List ℕ) (e f : ExpectedSignIn) (c d : Credential) (r t : AuthenticatorAssertionResponse)
    → SignedIn first old key e c r new → SignedIn second new key f d t later → ⊥

abbrev pub RegistersOnce : Validity → Validity → Type 0
RegistersOnce first second =
    (old new later : HostStore) (key : List ℕ) (e f : ExpectedRegistration) (r t : AuthenticatorAttestationResponse)
    → Registered first old key e r new → Registered second new key f t later → ⊥

-- after a sign-in in which the counter has grown no other is finished that read the credential's row before it, in whichever session
abbrev pub CountsOnce : Validity → Validity → Type 0
CountsOnce first second =
    (old new later : HostStore) (key other : List ℕ) (e f : ExpectedSignIn) (c : Credential) (r t : AuthenticatorAssertionResponse)
    → (x : SignedIn first old key e c r new) → c.sign_count < x.auth.sign_count → t.credential ≡ r.credential → SignedIn second new other f c t later → ⊥

pub record Races (first second : Validity) : Type 0 where
  pub answers_once : AnswersOnce first second
  pub registers_once : RegistersOnce first second
  pub counts_once : CountsOnce first second
