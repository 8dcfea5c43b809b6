-- What holds of each step, from a state in which it held: the laws that an account of whole runs needs.
use Rattle.std.specs.Prelude.{◌≡◌, ◌≤◌, ◌⊎◌, ℕ, ◌+◌, List, [], ◌∷◌, ◌++◌, length, Bool, true, Some, None, All, Contains, IfSome}
use Rattle.cose.specs.Schemes.{Validity}
use Rattle.cose.specs.declared.key.CoseKey.{CoseKey}
use Rattle.authdata.specs.Flags.{is_set, UP, UV}
use Rattle.authdata.specs.declared.profile.Profile.TheVariants.{Strict}
use Rattle.authdata.specs.Layout.{AttestedCredential, AuthenticatorData, AuthOf}
use Rattle.authdata.specs.declared.statement.AttestationType.{AttestationType}
use Rattle.authenticator.specs.State.{CredentialSource, Asked, Remembered, AuthenticatorState, new_state}
use Rattle.authenticator.specs.Credentials.{credential_of}
use Rattle.authenticator.specs.Steps.{Entry, Outcome, Keys, Step, assertion, attestation, key_of}
use Rattle.authenticator.specs.declared.consent.Consent.{Consent}
use Rattle.authenticator.specs.declared.consent.Words.{Words}

-- ---- states

-- each id stands once
abbrev pub IsUnique : List CredentialSource → Type 0
IsUnique [] = Unit {0}
IsUnique (c ∷ cs) = (credential_of c.id cs ≡ None) × IsUnique cs

-- the id is that of a resident credential
abbrev pub IsResident : List CredentialSource → List ℕ → Type 0
IsResident cs id = (c : CredentialSource) × (credential_of id cs ≡ Some c) × (c.resident ≡ true)

-- the flags follow the consent that was given to the request
pub record FollowsConsent (asked : Asked) : Type 0 where
  pub client_data_hash : length asked.client_data_hash ≡ 32
  pub present : asked.up ≡ true → asked.consent.present ≡ true
  pub verified : asked.uv ≡ true → asked.consent.verified ≡ true

pub record SoundRemembered (cs : List CredentialSource) (r : Remembered) : Type 0 where
  pub asked : FollowsConsent r.asked
  pub next : IsResident cs r.next
  pub later : All (IsResident cs) r.later

-- there are at most 256 credentials, no two of one id
pub record SoundState (a : AuthenticatorState) : Type 0 where
  pub most : length a.credentials ≤ 256
  pub unique : IsUnique a.credentials
  pub remembered : IfSome a.remembered (SoundRemembered a.credentials)

-- ---- entries

-- an assertion: its message is 37 bytes of authenticator data and a hash; its counter is at least 1; UP is set
-- only if presence was given to the request, UV only if verification was
pub record SoundAssertion (e : Entry) : Type 0 where
  pub purpose : e.purpose ≡ assertion
  pub auth : AuthenticatorData
  pub bytes : List ℕ
  pub client_data_hash : List ℕ
  pub spelled : AuthOf Strict auth bytes
  pub bare : auth.attested ≡ None
  pub message : e.message ≡ bytes ++ client_data_hash
  pub hash_length : length client_data_hash ≡ 32
  pub size : length e.message ≡ 69
  pub counts : 1 ≤ auth.sign_count
  pub present : is_set auth.flags UP ≡ true → e.consent.present ≡ true
  pub verified : is_set auth.flags UV ≡ true → e.consent.verified ≡ true

-- an attestation: its message is authenticator data that attest a credential, and a hash; presence was given to the
-- request, and UV is set only if verification was
pub record SoundAttestation (e : Entry) : Type 0 where
  pub purpose : e.purpose ≡ attestation
  pub auth : AuthenticatorData
  pub attested : AttestedCredential
  pub bytes : List ℕ
  pub client_data_hash : List ℕ
  pub spelled : AuthOf Strict auth bytes
  pub full : auth.attested ≡ Some attested
  pub message : e.message ≡ bytes ++ client_data_hash
  pub hash_length : length client_data_hash ≡ 32
  pub size : 161 ≤ length e.message
  pub present : e.consent.present ≡ true
  pub verified : is_set auth.flags UV ≡ true → e.consent.verified ≡ true

abbrev pub IsSound : Entry → Type 0
IsSound e = SoundAssertion e ⊎ SoundAttestation e

-- an assertion's counter is one above that of a stored credential, which has it from then on
pub record Counted (public : Keys) (old new : List CredentialSource) (e : Entry) : Type 0 where
  pub credential : CredentialSource
  pub found : credential_of credential.id old ≡ Some credential
  pub key : e.key ≡ key_of public credential
  pub auth : AuthenticatorData
  pub bytes : List ℕ
  pub client_data_hash : List ℕ
  pub spelled : AuthOf Strict auth bytes
  pub message : e.message ≡ bytes ++ client_data_hash
  pub count : auth.sign_count ≡ credential.sign_count + 1
  pub after : credential_of credential.id new ≡ Some (record credential { sign_count = credential.sign_count + 1 })

abbrev pub IsCounted : Keys → List CredentialSource → List CredentialSource → Entry → Type 0
IsCounted public old new e = e.purpose ≡ assertion → Counted public old new e

-- ---- credentials

-- a credential that is still stored is the same, and its counter has not fallen
abbrev pub Keeps : List CredentialSource → List CredentialSource → Type 0
Keeps old new = (id : List ℕ) (c : CredentialSource) → credential_of id old ≡ Some c
    → (credential_of id new ≡ None)
    ⊎ ((d : CredentialSource) × (credential_of id new ≡ Some d) × (c.sign_count ≤ d.sign_count) × (record d { sign_count = c.sign_count } ≡ c))

-- a key that is made is that of a stored credential
abbrev pub IsStored : Keys → List CredentialSource → CoseKey → Type 0
IsStored public cs key = (id : List ℕ) × (c : CredentialSource) × (credential_of id cs ≡ Some c) × (key ≡ key_of public c)

-- ---- steps

pub record SoundOutcome (public : Keys) (old : AuthenticatorState) (out : Outcome) : Type 0 where
  pub state : SoundState out.state
  pub keeps : Keeps old.credentials out.state.credentials
  pub entries : All IsSound out.signed
  pub counted : All (IsCounted public old.credentials out.state.credentials) out.signed
  pub made : All (IsStored public out.state.credentials) out.made

pub record StepLaws (valid : Validity) (public : Keys) : Type 0 where
  -- a new authenticator's state is sound
  pub begins : (aaguid : List ℕ) (uv : Bool) (attest : AttestationType) → SoundState (new_state aaguid uv attest)
  -- and each step keeps it so
  pub sound : (old : AuthenticatorState) (channel : ℕ) (bs : List ℕ) (consent : Consent) (words : Words) (out : Outcome)
      → SoundState old → length words.id ≡ 32 → Step valid public old channel bs consent words out
      → SoundOutcome public old out
  -- no key is made without presence
  pub consented : (old : AuthenticatorState) (channel : ℕ) (bs : List ℕ) (consent : Consent) (words : Words) (out : Outcome) (key : CoseKey)
      → Step valid public old channel bs consent words out → Contains out.made key → consent.present ≡ true
