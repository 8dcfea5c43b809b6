-- The steps that register a credential (WebAuthn Level 2, section 7.1), and those of Level 3, section 7.1.
use Rattle.std.specs.Prelude.{◌≡◌, ◌⊎◌, ℕ, List, [], ◌∷◌, ◌++◌, Option, Some, IsSome, Bool, true, false, Contains, codes, if◌then◌else◌}
use Rattle.std.specs.Option.{ForSome}
use Rattle.sha2.specs.Sha256.{sha256}
use Rattle.refusal_order.specs.Lines.{Each, FirstFailing}
use Rattle.cose.specs.Keys.{alg_of}
use Rattle.cose.specs.declared.key.CoseKey.{CoseKey}
use Rattle.clientdata.specs.Reading.{seen_of}
use Rattle.clientdata.specs.declared.record.CeremonyType.TheVariants.{Create}
use Rattle.authdata.specs.declared.profile.Profile.{Profile}
use Rattle.authdata.specs.declared.profile.Profile.TheVariants.{Level3}
use Rattle.authdata.specs.Layout.{AuthenticatorData, AttestedCredential, AuthOf}
use Rattle.authdata.specs.Objects.{Attestation, ObjectOf}
use Rattle.authdata.specs.Responses as responses
use Rattle.authdata.specs.Statements.{IsKnownFormat, IsNone, IsSelfSigned, none_statement}
use Rattle.verification.specs.Records.{RelyingParty, ExpectedRegistration}
use Rattle.cose.specs.Schemes.{Validity}
use Rattle.verification.specs.Shared.{HasType, HasChallenge, HasOrigin, HasNoBinding, HasTopOrigin, MayBeFramed, IsFor, IsPresent, IsVerifiedAs}
use Rattle.verification.specs.declared.party.Policy.{Policy}
use Rattle.verification.specs.declared.refusal.RegistrationRefusal.{RegistrationRefusal}
use Rattle.verification.specs.declared.refusal.RegistrationRefusal.TheVariants as step

-- a registration as it is judged: the relying party and the attestations that it accepts; what the session
-- expects, where one is open for registration; the response; the ids that are registered already, retired or
-- not; and whether there is no room for another credential
pub record JudgedRegistration : Type 0 where
  pub rp : RelyingParty
  pub policy : Policy
  pub session : Option ExpectedRegistration
  pub response : responses.AuthenticatorAttestationResponse
  pub is_registered : List ℕ → Bool
  pub is_full : Bool

-- the response's attestation object, its authenticator data, and the credential that they attest, as the profile
-- has them
pub record Attests (profile : Profile) (r : responses.AuthenticatorAttestationResponse) (o : Attestation) (a : AuthenticatorData)
    (c : AttestedCredential) : Type 0 where
  pub object : ObjectOf o r.object
  pub auth_data : AuthOf profile a o.auth_data
  pub attested : a.attested ≡ Some c

-- whatever the response attests has this property
abbrev pub Attested : Profile → responses.AuthenticatorAttestationResponse → (Attestation → AuthenticatorData → AttestedCredential → Type 0) → Type 0
Attested profile r P = (o : Attestation) (a : AuthenticatorData) (c : AttestedCredential) → Attests profile r o a c → P o a c

-- the hash of the client data
abbrev pub hash_in : responses.AuthenticatorAttestationResponse → List ℕ
hash_in r = sha256 r.client_data

-- in Level 3, of a conditional create (7.1, "User Present")
abbrev pub NeedsNoPresence : Profile → ExpectedRegistration → Type 0
NeedsNoPresence profile e = (profile ≡ Level3) × (e.conditional ≡ true)

-- the statement counts as none, whatever it is: in Level 3, where none was asked for (5.4.7, "none")
abbrev pub CountsAsNone : Profile → Bool → Type 0
CountsAsNone profile asked = (profile ≡ Level3) × (asked ≡ false)

-- the object with no attestation
abbrev pub unattested : Attestation → Attestation
unattested o = record { fmt = codes "none"; statement = none_statement; auth_data = o.auth_data }

-- the object as it counts
abbrev pub counted : Profile → Bool → Attestation → Attestation
counted Level3 asked o = if asked then o else unattested o
counted profile asked o = o

-- the statement shows no attestation, or self attestation
abbrev pub IsStated : Validity → Attestation → CoseKey → List ℕ → Type 0
IsStated valid o key hash = IsNone o ⊎ IsSelfSigned valid o key hash

-- the policy accepts what it shows
abbrev pub IsAccepted : Validity → Policy → Attestation → CoseKey → List ℕ → Type 0
IsAccepted valid policy o key hash = (IsNone o → policy.accept_none ≡ true) × (IsSelfSigned valid o key hash → policy.accept_self ≡ true)

-- the response passes a step, where it passes the earlier ones
abbrev pub PassesRegistrationStep : Validity → JudgedRegistration → RegistrationRefusal → Type 0
-- the session is open, for registration
PassesRegistrationStep valid x step.SessionNotOpen = IsSome x.session
-- the client data can be read
PassesRegistrationStep valid x step.UnreadableClientData = IsSome (seen_of x.response.client_data)
-- their type is webauthn.create
PassesRegistrationStep valid x step.WrongType = ForSome (seen_of x.response.client_data) (HasType Create)
-- their challenge is the session's
PassesRegistrationStep valid x step.WrongChallenge = ForSome x.session (λ e. ForSome (seen_of x.response.client_data) (HasChallenge e.challenge))
-- their origin is one of the relying party's
PassesRegistrationStep valid x step.WrongOrigin = ForSome (seen_of x.response.client_data) (HasOrigin x.rp)
-- in Level 3, its page is in no frame of another site, unless the relying party allows that
PassesRegistrationStep valid x step.CrossOrigin = ForSome (seen_of x.response.client_data) (MayBeFramed x.rp)
-- and then the page at the top is one of those that it names
PassesRegistrationStep valid x step.WrongTopOrigin = ForSome (seen_of x.response.client_data) (HasTopOrigin x.rp)
-- token binding is not used; Level 3 does not look at it
PassesRegistrationStep valid x step.TokenBinding = ForSome (seen_of x.response.client_data) (HasNoBinding x.rp.profile)
-- the bytes are an attestation object, whose authenticator data attest a credential
PassesRegistrationStep valid x step.BadAttestationObject = (o : Attestation) × (a : AuthenticatorData) × (c : AttestedCredential)
    × Attests x.rp.profile x.response o a c
-- rpIdHash is the hash of the rp id
PassesRegistrationStep valid x step.WrongRelyingParty = Attested x.rp.profile x.response (λ o a c. IsFor x.rp a)
-- UP is set; in Level 3, unless the session was begun as conditional
PassesRegistrationStep valid x step.UserNotPresent = ForSome x.session
    (λ e. Attested x.rp.profile x.response (λ o a c. IsPresent a ⊎ NeedsNoPresence x.rp.profile e))
-- UV is set, where the session requires it
PassesRegistrationStep valid x step.UserNotVerified = ForSome x.session (λ e. Attested x.rp.profile x.response (λ o a c. IsVerifiedAs e.uv a))
-- the key's algorithm is one of those offered
PassesRegistrationStep valid x step.AlgorithmNotOffered = ForSome x.session
    (λ e. Attested x.rp.profile x.response (λ o a c. Contains e.algorithms (alg_of c.key)))
-- the client names the credential that is attested, where its id is passed
PassesRegistrationStep valid x step.OtherId =
    ForSome x.response.raw_id (λ raw_id. Attested x.rp.profile x.response (λ o a c. raw_id ≡ c.id))
-- the statement's format is known, of what counts as the object
PassesRegistrationStep valid x step.UnknownFormat = ForSome x.session
    (λ e. Attested x.rp.profile x.response (λ o a c. IsKnownFormat (counted x.rp.profile e.attestation o).fmt))
-- the statement shows no attestation, or self attestation
PassesRegistrationStep valid x step.BadStatement = ForSome x.session
    (λ e. Attested x.rp.profile x.response (λ o a c. IsStated valid (counted x.rp.profile e.attestation o) c.key (hash_in x.response)))
-- the relying party accepts that
PassesRegistrationStep valid x step.AttestationNotAccepted = ForSome x.session
    (λ e. Attested x.rp.profile x.response (λ o a c. IsAccepted valid x.policy (counted x.rp.profile e.attestation o) c.key (hash_in x.response)))
-- the credential is not registered, to anyone
PassesRegistrationStep valid x step.CredentialRegistered = Attested x.rp.profile x.response (λ o a c. x.is_registered c.id ≡ false)
-- there is room for it
PassesRegistrationStep valid x step.TableFull = x.is_full ≡ false

-- the steps in their order: on the session and the client data; on the authenticator data; on the attestation;
-- on the table
abbrev pub client_data_steps : List RegistrationRefusal
client_data_steps =
    step.SessionNotOpen ∷ step.UnreadableClientData ∷ step.WrongType ∷ step.WrongChallenge ∷ step.WrongOrigin ∷ step.CrossOrigin ∷ step.WrongTopOrigin
    ∷ step.TokenBinding ∷ []

abbrev pub auth_data_steps : List RegistrationRefusal
auth_data_steps =
    step.BadAttestationObject ∷ step.WrongRelyingParty ∷ step.UserNotPresent ∷ step.UserNotVerified ∷ step.AlgorithmNotOffered ∷ step.OtherId
    ∷ []

abbrev pub attestation_steps : List RegistrationRefusal
attestation_steps = step.UnknownFormat ∷ step.BadStatement ∷ step.AttestationNotAccepted ∷ []

abbrev pub table_steps : List RegistrationRefusal
table_steps = step.CredentialRegistered ∷ step.TableFull ∷ []

-- those on the response alone, and all
abbrev pub response_steps : List RegistrationRefusal
response_steps = client_data_steps ++ (auth_data_steps ++ attestation_steps)

abbrev pub steps : List RegistrationRefusal
steps = response_steps ++ table_steps

abbrev pub PassesRegistration : Validity → JudgedRegistration → Type 0
PassesRegistration valid x = Each (PassesRegistrationStep valid x) steps

-- the first step that the response does not pass: it passes each earlier one
abbrev pub IsFirstFailing : Validity → JudgedRegistration → RegistrationRefusal → Type 0
IsFirstFailing valid x w = FirstFailing (PassesRegistrationStep valid x) steps w
