-- Which signature a host is to verify: of a sign-in the response's own (WebAuthn Level 2, section 7.2, step 20), of a
-- registration that of self attestation (section 8.2).
use Rattle.std.specs.Prelude.{◌≡◌, ◌++◌, ◌<◌, ℕ, Bool, true, false, List, None, Some, length}
use Rattle.sha2.specs.Sha256.{sha256}
use Rattle.refusal_order.specs.Lines.{Each}
use Rattle.cose.specs.Keys.{lent_key_view}
use Rattle.cose.specs.declared.key.CoseKey.{CoseKey}
use Rattle.authdata.specs.declared.profile.Profile.{Profile}
use Rattle.authdata.specs.Layout.{AttestedCredential, AuthenticatorData}
use Rattle.authdata.specs.Objects.{Attestation}
use Rattle.authdata.specs.Responses.{AuthenticatorAttestationResponse}
use Rattle.authdata.specs.Statements.{IsSelfSignedBy}
use Rattle.verification.specs.Registration.{Attests, counted, hash_in}
use Rattle.passkey_c.specs.declared.answers.Limit.{Limit}
use Rattle.passkey_c.specs.declared.answers.Limit.TheVariants as limits
use Rattle.passkey_c.specs.declared.asked.AskedSignature.{AskedSignature}
use Rattle.passkey_c.specs.declared.asked.AskError.{AskError}
use Rattle.passkey_c.specs.declared.asked.AskError.TheVariants as errors
use Rattle.passkey_c.specs.declared.input.KeyLimit.TheVariants as key_limits
use Rattle.passkey_c.specs.declared.parts.AttestationParts.{AttestationParts}
use Rattle.passkey_c.specs.declared.parts.SignatureCall.{SignatureCall}
use Rattle.passkey_c.specs.declared.parts.SignatureOut.{SignatureOut}
use Rattle.passkey_c.specs.Limits.{KeyKeeps, key_order}
use Rattle.passkey_c.specs.Parts.{Fills, IsProfile, TellsKey, flag_of, key_of, profile_of}

abbrev pub response_of : AttestationParts → AuthenticatorAttestationResponse
response_of parts = record { object = parts.object.now; client_data = parts.client_data.now; raw_id = None }

abbrev pub IsNotSelfSigned : Attestation → CoseKey → Type 0
IsNotSelfSigned o key = (signature : List ℕ) → IsSelfSignedBy o key signature → ⊥

-- a registration asks for this signature: of the authenticator data as they came, then the hash of the client data,
-- under the key that they attest; where an attestation was asked for or not
abbrev pub SelfAsks : Profile → Bool → AuthenticatorAttestationResponse → CoseKey → List ℕ → List ℕ → Type 0
SelfAsks profile asked r key message signature =
    (o : Attestation) × (a : AuthenticatorData) × (c : AttestedCredential) × Attests profile r o a c
    × (c.key ≡ key) × IsSelfSignedBy (counted profile asked o) c.key signature × (message ≡ o.auth_data ++ hash_in r)

-- it asks for none
abbrev pub AsksNothing : Profile → Bool → AuthenticatorAttestationResponse → Type 0
AsksNothing profile asked r =
    (o : Attestation) × (a : AuthenticatorData) × (c : AttestedCredential) × Attests profile r o a c
    × IsNotSelfSigned (counted profile asked o) c.key

-- it attests nothing
abbrev pub IsUnread : Profile → AuthenticatorAttestationResponse → Type 0
IsUnread profile r = (o : Attestation) (a : AuthenticatorData) (c : AttestedCredential) → Attests profile r o a c → ⊥

-- a sign-in asks for the response's signature, of the authenticator data as they came, then the hash of the client data,
-- under the credential's key
abbrev pub Asks : Bool → SignatureCall → CoseKey → List ℕ → List ℕ → Type 0
Asks true call = SelfAsks (profile_of call.profile) (flag_of call.attestation) (response_of call.registration)
Asks false call = λ key message signature.
    (key_of call.key ≡ Some key) × (message ≡ call.assertion.auth_data.now ++ sha256 call.assertion.client_data.now)
    × (signature ≡ call.assertion.signature.now)

-- what the host gets: this signature, or that there is none
abbrev pub Tells : SignatureCall → SignatureOut → List ℕ → List ℕ → Bool → Type 0
Tells call out message signature true =
    (key : CoseKey) × (m : List ℕ) × (s : List ℕ) × Asks (flag_of call.is_registration) call key m s
    × TellsKey out.key key × Fills out.message_size message m × Fills out.signature_size signature s
Tells call out message signature false =
    (flag_of call.is_registration ≡ true) × AsksNothing (profile_of call.profile) (flag_of call.attestation) (response_of call.registration)

-- the signature that is asked does not fit
abbrev pub IsRoom : SignatureCall → (List ℕ → List ℕ → Type 0) → Type 0
IsRoom call P =
    (key : CoseKey) × (message : List ℕ) × (signature : List ℕ) × Asks (flag_of call.is_registration) call key message signature
    × P message signature

-- a limit that is not kept, with rooms of these lengths: of a sign-in's key, of a registration's profile, or of a room
abbrev pub IsBroken : SignatureCall → ℕ → ℕ → Limit → Type 0
IsBroken call m s limits.KeyAlgorithm = (flag_of call.is_registration ≡ false) × (KeyKeeps call.key key_limits.Algorithm → ⊥)
IsBroken call m s limits.KeyX = (flag_of call.is_registration ≡ false) × (KeyKeeps call.key key_limits.X → ⊥)
IsBroken call m s limits.KeyY = (flag_of call.is_registration ≡ false) × (KeyKeeps call.key key_limits.Y → ⊥)
IsBroken call m s limits.Profile = (flag_of call.is_registration ≡ true) × (IsProfile call.profile → ⊥)
IsBroken call m s limits.MessageRoom = IsRoom call (λ message _. m < length message)
IsBroken call m s limits.SignatureRoom = IsRoom call (λ _ signature. s < length signature)
IsBroken call m s _ = ⊥

-- the limits of what is passed are kept: of a registration that of the profile, of a sign-in those of its key
abbrev pub AskKeeps : Bool → SignatureCall → Type 0
AskKeeps true call = IsProfile call.profile
AskKeeps false call = Each (KeyKeeps call.key) key_order

-- why nothing is answered: a registration attests nothing, or a limit is not kept
abbrev pub IsUntold : SignatureCall → ℕ → ℕ → AskError → Type 0
IsUntold call m s errors.Unreadable = (flag_of call.is_registration ≡ true) × IsUnread (profile_of call.profile) (response_of call.registration)
IsUntold call m s (errors.Limit limit) = IsBroken call m s limit

-- what private functions are proved against

abbrev pub TellsAs : SignatureOut → List ℕ → List ℕ → AskedSignature → Type 0
TellsAs out message signature asked =
    (out.is_asked ≡ true) × TellsKey out.key (lent_key_view asked.key) × Fills out.message_size message (asked.auth_data.now ++ asked.hash)
    × Fills out.signature_size signature asked.signature.now

abbrev pub IsSmall : ℕ → ℕ → AskedSignature → Limit → Type 0
IsSmall m s asked limits.MessageRoom = m < length (asked.auth_data.now ++ asked.hash)
IsSmall m s asked limits.SignatureRoom = s < length asked.signature.now
IsSmall m s asked _ = ⊥
