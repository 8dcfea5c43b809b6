-- What an authenticator keeps (CTAP 2.1, sections 6.1 to 6.3 and 6.6).
use Rattle.std.specs.Prelude.{ℕ, List, [], Bool, Option, None}
use Rattle.cose.specs.declared.key.SigningAlg.{SigningAlg}
use Rattle.authdata.specs.declared.statement.AttestationType.{AttestationType}
use Rattle.authenticator.specs.declared.consent.Consent.{Consent}

-- a public key credential source (WebAuthn Level 2, section 4): its id, its relying party's id, the user
-- handle, the secret that its key is made of, the key's algorithm, whether it is resident, and its signature
-- counter
pub record CredentialSource : Type 0 where
  pub id : List ℕ
  pub rp_id : List ℕ
  pub user : List ℕ
  pub secret : List ℕ
  pub alg : SigningAlg
  pub resident : Bool
  pub sign_count : ℕ

-- what a getAssertion asked (section 6.2): on which channel, for which hash of client data, with which of the
-- flags UP and UV; and the consent that was given to it
pub record Asked : Type 0 where
  pub channel : ℕ
  pub client_data_hash : List ℕ
  pub up : Bool
  pub uv : Bool
  pub consent : Consent

-- a getAssertion with credentials still to come (section 6.3): the id of the next one, and those of the later
-- ones in their order
pub record Remembered : Type 0 where
  pub asked : Asked
  pub next : List ℕ
  pub later : List (List ℕ)

-- the authenticator's aaguid, whether it is configured to verify its user, how it attests, its credentials in
-- order of creation, and at most one getAssertion that is remembered
pub record AuthenticatorState : Type 0 where
  pub aaguid : List ℕ
  pub uv : Bool
  pub attest : AttestationType
  pub credentials : List CredentialSource
  pub remembered : Option Remembered

-- a new authenticator stores and remembers nothing
abbrev pub new_state : List ℕ → Bool → AttestationType → AuthenticatorState
new_state aaguid uv attest =
    record { aaguid = aaguid; uv = uv; attest = attest; credentials = []; remembered = None }

-- the same credentials, and nothing remembered
abbrev pub forgotten : AuthenticatorState → AuthenticatorState
forgotten a = record a { remembered = None }
