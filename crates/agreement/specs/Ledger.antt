-- What the authenticators of a run have signed and which keys they have made: each at a request of the run, with the
-- consent that was given to it (CTAP 2.1, sections 6.1 to 6.3).
use Rattle.std.specs.Prelude.{◌≡◌, ◌≢◌, ◌⊎◌, ℕ, List, [], ◌∷◌, ◌++◌, true, Some, Contains}
use Rattle.std.specs.List.{All}
use Rattle.sha2.specs.Sha256.{sha256}
use Rattle.cose.specs.Schemes.{Validity}
use Rattle.cose.specs.declared.key.SigningAlg.{SigningAlg}
use Rattle.cose.specs.declared.key.CoseKey.{CoseKey}
use Rattle.authdata.specs.declared.profile.Profile.TheVariants.{Strict}
use Rattle.authdata.specs.Flags.{is_set, UP, UV}
use Rattle.authdata.specs.Layout.{AuthenticatorData, AuthOf}
use Rattle.ctap_requests.specs.Requests.{AssertionRequest, CreationRequest, RequestMessage, get_assertion, get_next_assertion, make_credential}
use Rattle.ctap_requests.specs.Status.{IsRequest}
use Rattle.authenticator.specs.State.{CredentialSource}
use Rattle.authenticator.specs.Credentials.{credential_of}
use Rattle.authenticator.specs.Orders.{first_supported}
use Rattle.authenticator.specs.Steps.{Entry, Keys, Purpose, assertion, attestation, key_of}
use Rattle.authenticator.specs.declared.consent.Consent.{Consent}
use Rattle.authenticator.specs.declared.consent.Words.{Words}
use Rattle.agreement.specs.World.{Asks, AtSite, Done, Event, IsRun, IsStart, Moment, Nothing, Reloads, World}

-- the world to which these moments lead
abbrev pub world_after : World → List Moment → World
world_after w [] = w
world_after w (m ∷ ms) = world_after m.new ms

-- ---- requests

-- at the moment authenticator k is asked this on the channel, given this consent and these words, and it is done
pub record IsAsked (k channel : ℕ) (consent : Consent) (words : Words) (q : RequestMessage) (m : Moment) : Type 0 where
  pub bytes : List ℕ
  pub event : m.event ≡ Asks k channel bytes consent words
  pub done : m.end ≡ Done
  pub request : IsRequest q bytes

-- the event is no request to authenticator k, which does not begin again either
abbrev pub IsElsewhere : ℕ → Event → Type 0
IsElsewhere k (AtSite i e) = Unit {0}
IsElsewhere k (Asks j channel bs consent words) = j ≢ k
IsElsewhere k (Reloads j) = j ≢ k

-- the moment does not touch authenticator k, or is a getNextAssertion to it on the channel
abbrev pub IsBetween : ℕ → ℕ → Moment → Type 0
IsBetween k channel m =
    ((m.end ≡ Nothing) ⊎ IsElsewhere k m.event) ⊎ ((consent : Consent) × (words : Words) × IsAsked k channel consent words get_next_assertion m)

-- ---- entries

-- at the moment authenticator k signs the entry and nothing else: for this purpose, under a key that it has made,
-- authenticator data with the hash of this rp id, and then this hash of client data; UP is set only if the entry's consent
-- gives presence, and UV only if it gives verification
pub record Signs (k : ℕ) (purpose : Purpose) (rp_id client_data_hash : List ℕ) (e : Entry) (m : Moment) : Type 0 where
  pub signed : (m.new.holder k).signed ≡ (m.old.holder k).signed ++ e ∷ []
  pub is_for : e.purpose ≡ purpose
  pub key : Contains (m.new.holder k).made e.key
  pub auth : AuthenticatorData
  pub bytes : List ℕ
  pub spelled : AuthOf Strict auth bytes
  pub message : e.message ≡ bytes ++ client_data_hash
  pub rp_id_hash : auth.rp_id_hash ≡ sha256 rp_id
  pub present : is_set auth.flags UP ≡ true → e.consent.present ≡ true
  pub verified : is_set auth.flags UV ≡ true → e.consent.verified ≡ true

-- the entry is under the key of a credential that the authenticator stores at the moment, and which is this relying party's
pub record IsOwn (public : Keys) (k : ℕ) (rp_id : List ℕ) (e : Entry) (m : Moment) : Type 0 where
  pub credential : CredentialSource
  pub stored : credential_of credential.id (m.old.holder k).state.credentials ≡ Some credential
  pub own : credential.rp_id ≡ rp_id
  pub key : e.key ≡ key_of public credential

-- at one of these moments authenticator k signed the entry, asked this and given the entry's consent
pub record IsSignedAt (k : ℕ) (purpose : Purpose) (q : RequestMessage) (rp_id client_data_hash : List ℕ) (past : List Moment) (e : Entry) : Type 0 where
  pub before : List Moment
  pub moment : Moment
  pub later : List Moment
  pub here : past ≡ before ++ moment ∷ later
  pub channel : ℕ
  pub words : Words
  pub asked : IsAsked k channel e.consent words q moment
  pub signs : Signs k purpose rp_id client_data_hash e moment

-- an attestation at a makeCredential, to which presence was given
pub record IsAttested (k : ℕ) (past : List Moment) (e : Entry) : Type 0 where
  pub request : CreationRequest
  pub at : IsSignedAt k attestation (make_credential request) request.rp.id request.client_data_hash past e
  pub present : e.consent.present ≡ true

-- an assertion at a getAssertion, by a credential of the relying party that it names
pub record IsAsserted (public : Keys) (k : ℕ) (past : List Moment) (e : Entry) : Type 0 where
  pub request : AssertionRequest
  pub at : IsSignedAt k assertion (get_assertion request) request.rp_id request.client_data_hash past e
  pub own : IsOwn public k request.rp_id e at.moment

-- an assertion at a getNextAssertion: the entry's consent is the one given to the getAssertion that it goes on with, on the
-- same channel, with nothing between the two but other getNextAssertions of this channel; and so is the relying party
pub record IsNextAsserted (public : Keys) (k : ℕ) (past : List Moment) (e : Entry) : Type 0 where
  pub before : List Moment
  pub first : Moment
  pub between : List Moment
  pub moment : Moment
  pub later : List Moment
  pub here : past ≡ before ++ first ∷ (between ++ moment ∷ later)
  pub channel : ℕ
  pub words : Words
  pub request : AssertionRequest
  pub asked_first : IsAsked k channel e.consent words (get_assertion request) first
  pub nothing_else : All (IsBetween k channel) between
  pub consent_now : Consent
  pub words_now : Words
  pub asked : IsAsked k channel consent_now words_now get_next_assertion moment
  pub signs : Signs k assertion request.rp_id request.client_data_hash e moment
  pub own : IsOwn public k request.rp_id e moment

-- authenticator k signed the entry at one of these moments
abbrev pub IsSignedInRun : Keys → ℕ → List Moment → Entry → Type 0
IsSignedInRun public k past e = IsAttested k past e ⊎ (IsAsserted public k past e ⊎ IsNextAsserted public k past e)

-- ---- keys

-- authenticator k made the key at one of these moments: at a makeCredential to which presence was given, of the algorithm that
-- it chose and of the secret that it was handed
pub record IsMadeIn (public : Keys) (k : ℕ) (past : List Moment) (key : CoseKey) : Type 0 where
  pub before : List Moment
  pub moment : Moment
  pub later : List Moment
  pub here : past ≡ before ++ moment ∷ later
  pub channel : ℕ
  pub consent : Consent
  pub words : Words
  pub request : CreationRequest
  pub asked : IsAsked k channel consent words (make_credential request) moment
  pub present : consent.present ≡ true
  pub alg : SigningAlg
  pub chosen : first_supported request.pub_key_cred_params ≡ Some alg
  pub is : key ≡ public alg words.secret
  pub made : (moment.new.holder k).made ≡ (moment.old.holder k).made ++ key ∷ []

-- a credential that authenticator k stores: its key was made at a makeCredential for its relying party
pub record IsMadeFor (public : Keys) (k : ℕ) (past : List Moment) (c : CredentialSource) : Type 0 where
  pub made : IsMadeIn public k past (key_of public c)
  pub for_party : made.request.rp.id ≡ c.rp_id

-- ---- the ledger

-- in this world, to which these moments lead, each entry was signed at one of them, each key was made at one of them, and
-- the key of each credential that is stored is among those made, and was made for its relying party
pub record IsLedger (public : Keys) (past : List Moment) (w : World) : Type 0 where
  pub signed : (k : ℕ) → All (IsSignedInRun public k past) (w.holder k).signed
  pub made : (k : ℕ) → All (IsMadeIn public k past) (w.holder k).made
  pub stored : (k : ℕ) → All (λ c. Contains (w.holder k).made (key_of public c)) (w.holder k).state.credentials
  pub for_party : (k : ℕ) → All (IsMadeFor public k past) (w.holder k).state.credentials

-- so it is in each world of a run, whether or not signatures can be forged
abbrev pub LedgerOfAllRuns : Validity → Keys → Type 0
LedgerOfAllRuns valid public =
    (w : World) (past later : List Moment) → IsStart w → IsRun valid public w (past ++ later) → IsLedger public past (world_after w past)
