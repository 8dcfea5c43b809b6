-- A run with what the laws of runs ask for, and what they say of it: so each of their premises is met, and none of their conclusions is empty.
use Rattle.std.specs.Prelude.{◌≡◌, ◌≢◌, ℕ, List, [], ◌∷◌, ◌++◌, Some, None, IsSome, true, Contains}
use Rattle.std.specs.List.{All}
use Rattle.sha2.specs.Sha256.{sha256}
use Rattle.cose.specs.Schemes.{Validity}
use Rattle.authdata.specs.declared.profile.Profile.TheVariants.{Level3}
use Rattle.authdata.specs.Layout.{AttestedCredential, AuthenticatorData}
use Rattle.authdata.specs.Objects.{Attestation}
use Rattle.authdata.specs.Responses.{AuthenticatorAssertionResponse, AuthenticatorAttestationResponse}
use Rattle.authdata.specs.Statements.{IsSelfSigned}
use Rattle.ctap_requests.specs.Requests.{get_next_assertion, reset}
use Rattle.verification.specs.Records.{Credential, ExpectedSignIn}
use Rattle.verification.specs.Registration.{Attests}
use Rattle.verification.specs.SignIn.{PassesSignIn}
use Rattle.site_state.specs.Sessions.{ForSignIn, Opening, sign_in_at}
use Rattle.site_state.specs.Table.{row_of}
use Rattle.site.specs.State.{judged_sign_in}
use Rattle.authenticator.specs.State.{CredentialSource}
use Rattle.authenticator.specs.Credentials.{credential_of}
use Rattle.authenticator.specs.Steps.{Entry, Keys, attestation}
use Rattle.authenticator.specs.declared.consent.Consent.{Consent}
use Rattle.authenticator.specs.declared.consent.Words.{Words}
use Rattle.agreement.specs.Agreement.{AnswersSession, Brings, Consented, FitsRegistration, FitsSession, HasNone, IsAccepted, IsAcceptedRegistration, IsDeleted, IsIdeal, IsRetired, NoneDeleted, RestsOn}
use Rattle.agreement.specs.Agreement.{Says, Tries}
use Rattle.agreement.specs.Begun.{IsBegun}
use Rattle.agreement.specs.Dropped.{IsDropped}
use Rattle.agreement.specs.Forgeries.{IsBacked}
use Rattle.agreement.specs.Ledger.{IsAsked, IsMadeFor, IsSignedInRun, world_after}
use Rattle.agreement.specs.Pages.{AskedOver, IsFromPage}
use Rattle.agreement.specs.Stays.{IsEnd, IsOpen}
use Rattle.agreement.specs.World.{AtSite, Begins, Done, EventEffect, IsRun, IsStart, Moment, Nothing, Retires, World}

-- ---- moments of a run

-- a moment and a later one, with those before, between and after them
pub record Apart (run : List Moment) (m l : Moment) : Type 0 where
  pub before : List Moment
  pub between : List Moment
  pub later : List Moment
  pub here : run ≡ before ++ m ∷ (between ++ l ∷ later)

-- nothing comes of the event, and nothing could
pub record IsRefused (valid : Validity) (public : Keys) (m : Moment) : Type 0 where
  pub nothing : m.end ≡ Nothing
  pub never : (w : World) → EventEffect valid public m.old m.event w → ⊥

-- ---- sign-ins that are accepted (fits, agrees, share_none, rests_once, forgeries)

-- At the moment a sign-in is accepted at site i, under a key that authenticator k has made. It fits its session, and rests on an assertion which
-- that one has signed, and which is for it
pub record Rests (i k : ℕ) (m : Moment) : Type 0 where
  pub session : ℕ
  pub expected : ExpectedSignIn
  pub is_open : sign_in_at session (m.old.site i).sessions ≡ Some expected
  pub response : AuthenticatorAssertionResponse
  pub row : Credential
  pub accepted : IsAccepted m i session response row
  pub fits : FitsSession m i session response row
  pub made : Contains (m.old.holder k).made row.key
  pub entry : Entry
  pub signed : Contains (m.old.holder k).signed entry
  pub rests : RestsOn m response row entry
  pub says : Says m i session response entry
  pub consented : Consented m i session entry
  pub backed : IsBacked m i session response row

-- Two at site 0 with one credential, of authenticator 0, whose counter is first 0 and then 1. And one at site 1, with the credential of another
-- key, which authenticator 1 made: neither the rp ids nor the client data have one hash. Each rests on an entry of its own. The first session names
-- nobody and lists nothing; the second names the user, lists the credential and requires verification
pub record SignIns (run : List Moment) : Type 0 where
  pub first : Moment
  pub second : Moment
  pub third : Moment
  pub again : Apart run first second
  pub elsewhere : Apart run second third
  pub on_first : Rests 0 0 first
  pub on_second : Rests 0 0 second
  pub on_third : Rests 1 1 third
  pub one_credential : on_first.response.credential ≡ on_second.response.credential
  pub counters : (on_first.row.sign_count ≡ 0) × (on_second.row.sign_count ≡ 1)
  pub kept : NoneDeleted 0 on_first.response.credential again.between
  pub texts : sha256 on_first.response.client_data ≢ sha256 on_second.response.client_data
  pub entries : on_first.entry ≢ on_second.entry
  pub parties : sha256 (second.old.site 0).rp.rp_id ≢ sha256 (third.old.site 1).rp.rp_id
  pub keys : on_second.row.key ≢ on_third.row.key
  pub texts_elsewhere : sha256 on_second.response.client_data ≢ sha256 on_third.response.client_data
  pub entries_elsewhere : on_second.entry ≢ on_third.entry
  pub for_any : (on_first.expected.user ≡ None) × (on_first.expected.allow ≡ [])
  pub for_one : (on_second.expected.user ≡ Some on_second.row.user) × (on_second.expected.allow ≡ on_second.response.credential ∷ [])
      × (on_second.expected.uv ≡ true)

-- ---- what else happens in the run

module _ (valid : Validity) (public : Keys) (world : World) (run : List Moment) (x : SignIns run) where
  -- the assertion of the first is signed at a getNextAssertion (ledger)
  pub record ByNext : Type 0 where
    pub moment : Moment
    pub apart : Apart run moment x.first
    pub channel : ℕ
    pub consent : Consent
    pub words : Words
    pub asked : IsAsked 0 channel consent words get_next_assertion moment
    pub signs : (moment.new.holder 0).signed ≡ (moment.old.holder 0).signed ++ x.on_first.entry ∷ []
    pub told : IsSignedInRun public 0 (apart.before ++ moment ∷ apart.between) x.on_first.entry

  -- the credential of the third is registered at site 1, which is of Level 3, with self attestation (registered, ledger)
  pub record Attested : Type 0 where
    pub moment : Moment
    pub apart : Apart run moment x.third
    pub session : ℕ
    pub response : AuthenticatorAttestationResponse
    pub accepted : IsAcceptedRegistration moment 1 session response
    pub profile : (moment.old.site 1).rp.profile ≡ Level3
    pub object : Attestation
    pub auth : AuthenticatorData
    pub credential : AttestedCredential
    pub attests : Attests Level3 response object auth credential
    pub key : credential.key ≡ x.on_third.row.key
    pub self_signed : IsSelfSigned valid object credential.key (sha256 response.client_data)
    pub entry : Entry
    pub signed : Contains (moment.old.holder 1).signed entry
    pub purpose : entry.purpose ≡ attestation
    pub told : FitsRegistration valid moment 1 session response

  -- The first is tried before with another signature, and its response is brought again: to its own session, and to that of the second, which is
  -- open. Each is refused (sessions; and that a try is one)
  pub record Refusals : Type 0 where
    pub wrong : Moment
    pub wrong_before : Apart run wrong x.first
    pub signature : List ℕ
    pub another : signature ≢ x.on_first.response.signature
    pub wrong_tries : Tries wrong 0 x.on_first.session (record x.on_first.response { signature = signature }) x.on_first.row
    pub wrong_refused : IsRefused valid public wrong
    pub again : Moment
    pub again_later : Apart run x.first again
    pub again_brings : Brings again.event 0 x.on_first.session x.on_first.response
    pub again_answers : AnswersSession x.first.event 0 x.on_first.session × AnswersSession again.event 0 x.on_first.session
    pub again_refused : IsRefused valid public again
    pub told : again.end ≡ Done → ⊥
    pub replayed : Moment
    pub replayed_later : Apart run x.first replayed
    pub replayed_before : Apart run replayed x.second
    pub replayed_brings : Brings replayed.event 0 x.on_second.session x.on_first.response
    pub replayed_open : sign_in_at x.on_second.session (replayed.old.site 0).sessions ≡ Some x.on_second.expected
    pub replayed_refused : IsRefused valid public replayed

  -- Another credential of site 0 is retired, with which a sign-in is tried then and refused; and it is deleted (retiring, retired, deleting, deleted)
  pub record Retirement : Type 0 where
    pub id : List ℕ
    pub other : id ≢ x.on_first.response.credential
    pub retires : Moment
    pub is_retirement : (retires.event ≡ AtSite 0 (Retires id)) × (retires.end ≡ Done)
    pub was_registered : IsSome (row_of id (retires.old.site 0).rows)
    pub tried : Moment
    pub then_tried : Apart run retires tried
    pub session : ℕ
    pub response : AuthenticatorAssertionResponse
    pub row : Credential
    pub tries : Tries tried 0 session response row
    pub by_it : response.credential ≡ id
    pub refused : IsRefused valid public tried
    pub is_retired : IsRetired (tried.old.site 0) id
    pub deletes : Moment
    pub then_deleted : Apart run deletes x.second
    pub is_deletion : IsDeleted 0 id deletes
    pub was_there : IsSome (row_of id (deletes.old.site 0).rows)
    pub is_gone : HasNone (x.second.old.site 0) id

  -- The first session is open after these moments, and would accept the response. It is open, and would accept it, after those that follow too: among
  -- them another session begins, a credential is retired, and tries are refused (begun, stays)
  pub record Waits : Type 0 where
    pub before : List Moment
    pub between : List Moment
    pub later : List Moment
    pub here : run ≡ before ++ (between ++ x.first ∷ later)
    pub begins : (m : Moment) × Contains between m × ((o : Opening) × (m.event ≡ AtSite 0 (Begins o))) × (m.end ≡ Done)
    pub no_end : All (λ m. IsEnd 0 x.on_first.session m → ⊥) between
    pub is_open : IsOpen (world_after world before) 0 x.on_first.session (ForSignIn x.on_first.expected)
    pub passes : PassesSignIn valid (judged_sign_in ((world_after world before).site 0) x.on_first.session x.on_first.response)
    pub told : IsBegun 0 x.on_first.session before (ForSignIn x.on_first.expected)
    pub still_open : IsOpen (world_after world (before ++ between)) 0 x.on_first.session (ForSignIn x.on_first.expected)
    pub still_passes : PassesSignIn valid (judged_sign_in ((world_after world (before ++ between)).site 0) x.on_first.session x.on_first.response)

  -- Authenticator 0 is asked for assertions from pages alone, and of the client data of these pages none but its own has the hash of the second: so
  -- its page is one of them (pages)
  pub record FromPages : Type 0 where
    pub pages : List (List ℕ)
    pub texts : List (List ℕ)
    pub from : All (IsFromPage pages) texts
    pub asked : AskedOver texts 0 x.elsewhere.before
    pub own : Contains texts x.on_second.response.client_data
    pub told_apart : All (λ t. sha256 t ≡ sha256 x.on_second.response.client_data → t ≡ x.on_second.response.client_data) texts
    pub told : (page : List ℕ) × Contains pages page × Contains (x.second.old.site 0).rp.origins page

  -- authenticator 0 is reset, with presence, and its credentials go (dropped, stays); one of them was made for the relying party of site 0 (ledger)
  pub record Reset : Type 0 where
    pub moment : Moment
    pub later : Apart run x.second moment
    pub channel : ℕ
    pub consent : Consent
    pub words : Words
    pub asked : IsAsked 0 channel consent words reset moment
    pub present : consent.present ≡ true
    pub credential : CredentialSource
    pub stored : credential_of credential.id (moment.old.holder 0).state.credentials ≡ Some credential
    pub own : (credential.id ≡ x.on_second.response.credential) × (credential.rp_id ≡ (x.second.old.site 0).rp.rp_id)
    pub told : IsMadeFor public 0 (later.before ++ x.second ∷ later.between) credential
    pub gone : (moment.new.holder 0).state.credentials ≡ []
    pub dropped : IsDropped 0 credential moment

-- ---- the run, from a start, in which no signature is forged

pub record TellingRun (valid : Validity) (public : Keys) : Type 0 where
  pub world : World
  pub start : IsStart world
  pub run : List Moment
  pub is_run : IsRun valid public world run
  pub ideal : All (IsIdeal valid) run
  pub sign_ins : SignIns run
  pub by_next : ByNext valid public world run sign_ins
  pub attested : Attested valid public world run sign_ins
  pub refusals : Refusals valid public world run sign_ins
  pub retirement : Retirement valid public world run sign_ins
  pub waits : Waits valid public world run sign_ins
  pub from_pages : FromPages valid public world run sign_ins
  pub reset : Reset valid public world run sign_ins
