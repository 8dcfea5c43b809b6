-- The text of each answer: English, in ASCII.
use Rattle.std.specs.Prelude.{◌≡◌, ◌⊎◌, ℕ, Bool, true, false, List, codes}
use Rattle.verification.specs.Numbers.{registration_number, sign_in_number}
use Rattle.verification.specs.declared.refusal.SignInRefusal.{SignInRefusal}
use Rattle.verification.specs.declared.refusal.SignInRefusal.TheVariants as sign_in
use Rattle.verification.specs.declared.refusal.RegistrationRefusal.{RegistrationRefusal}
use Rattle.verification.specs.declared.refusal.RegistrationRefusal.TheVariants as registration
use Rattle.passkey_c.specs.declared.answers.Limit.{Limit}
use Rattle.passkey_c.specs.declared.answers.Limit.TheVariants as limits
use Rattle.passkey_c.specs.Numbers.{limit_number}

abbrev pub sign_in_text : SignInRefusal → List ℕ
sign_in_text sign_in.SessionNotOpen = codes "the session is not open for sign-in"
sign_in_text sign_in.CredentialNotAllowed = codes "the credential is not one that the session allows"
sign_in_text sign_in.UnknownCredential = codes "no credential with this id is registered"
sign_in_text sign_in.OtherUser = codes "the credential is not the user's"
sign_in_text sign_in.UnreadableClientData = codes "the client data cannot be read"
sign_in_text sign_in.WrongType = codes "the client data are not of a sign-in"
sign_in_text sign_in.WrongChallenge = codes "the challenge is not the session's"
sign_in_text sign_in.WrongOrigin = codes "the origin is not the relying party's"
sign_in_text sign_in.CrossOrigin = codes "the page is in another site's frame"
sign_in_text sign_in.WrongTopOrigin = codes "the page at the top is none that the relying party names"
sign_in_text sign_in.TokenBinding = codes "token binding is used"
sign_in_text sign_in.BadAuthenticatorData = codes "the authenticator data cannot be read, or they attest a credential"
sign_in_text sign_in.WrongRelyingParty = codes "the authenticator data are for another relying party"
sign_in_text sign_in.UserNotPresent = codes "the user was not present"
sign_in_text sign_in.UserNotVerified = codes "the user was not verified"
sign_in_text sign_in.BadSignature = codes "the signature is not valid"
sign_in_text sign_in.CounterNotGreater = codes "the signature counter is not greater than the one stored"
sign_in_text sign_in.EligibilityChanged = codes "the credential's eligibility for backup has changed"

abbrev pub registration_text : RegistrationRefusal → List ℕ
registration_text registration.SessionNotOpen = codes "the session is not open for registration"
registration_text registration.UnreadableClientData = codes "the client data cannot be read"
registration_text registration.WrongType = codes "the client data are not of a registration"
registration_text registration.WrongChallenge = codes "the challenge is not the session's"
registration_text registration.WrongOrigin = codes "the origin is not the relying party's"
registration_text registration.CrossOrigin = codes "the page is in another site's frame"
registration_text registration.WrongTopOrigin = codes "the page at the top is none that the relying party names"
registration_text registration.TokenBinding = codes "token binding is used"
registration_text registration.BadAttestationObject = codes "the attestation object cannot be read, or attests no credential"
registration_text registration.WrongRelyingParty = codes "the authenticator data are for another relying party"
registration_text registration.UserNotPresent = codes "the user was not present"
registration_text registration.UserNotVerified = codes "the user was not verified"
registration_text registration.AlgorithmNotOffered = codes "the key's algorithm was not offered"
registration_text registration.UnknownFormat = codes "the attestation statement's format is unknown"
registration_text registration.BadStatement = codes "the attestation statement is not valid"
registration_text registration.AttestationNotAccepted = codes "the attestation is not accepted"
registration_text registration.CredentialRegistered = codes "the credential is registered"
registration_text registration.TableFull = codes "there is no room for another credential"
registration_text registration.OtherId = codes "the response's id is not the attested credential's"

abbrev pub limit_text : Limit → List ℕ
limit_text limits.RpId = codes "the rp id is not UTF-8"
limit_text limits.Origin = codes "an origin is not UTF-8"
limit_text limits.Challenge = codes "the challenge is not of 32 bytes"
limit_text limits.KeyAlgorithm = codes "the algorithm of the credential's key is not known"
limit_text limits.KeyX = codes "the x of the credential's key is out of its limits"
limit_text limits.KeyY = codes "the y of the credential's key is out of its limits"
limit_text limits.VerifiedAlgorithm = codes "the algorithm of the verified key is not known"
limit_text limits.VerifiedX = codes "the x of the verified key is out of its limits"
limit_text limits.VerifiedY = codes "the y of the verified key is out of its limits"
limit_text limits.MessageRoom = codes "the room for the message is too small"
limit_text limits.SignatureRoom = codes "the room for the signature is too small"
limit_text limits.Profile = codes "the profile is not known"
limit_text limits.TopOrigin = codes "a top origin is not UTF-8"

-- the text is that of a step, of a registration or a sign-in
abbrev pub IsStepText : Bool → ℕ → List ℕ → Type 0
IsStepText true n text = (step : RegistrationRefusal) × (registration_number step ≡ n) × (text ≡ registration_text step)
IsStepText false n text = (step : SignInRefusal) × (sign_in_number step ≡ n) × (text ≡ sign_in_text step)

-- the text is that of a limit
abbrev pub IsLimitText : ℕ → List ℕ → Type 0
IsLimitText n text = (limit : Limit) × (limit_number limit ≡ n) × (text ≡ limit_text limit)

-- the text is that of the answer; other numbers have none
abbrev pub IsText : Bool → ℕ → List ℕ → Type 0
IsText is_registration n text =
    ((n ≡ 0) × (text ≡ codes "accepted")) ⊎ ((n ≡ 127) × (text ≡ codes "out of memory")) ⊎ IsLimitText n text ⊎ IsStepText is_registration n text
