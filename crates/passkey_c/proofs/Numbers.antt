-- A step is known by its number, and so is a limit.
use Rattle.std.specs.Prelude.{find, ◌==◌}
use Rattle.verification.specs.SignIn as sign_ins
use Rattle.verification.specs.Registration as registrations
use Rattle.std.proofs.Common.{◌≡◌, ◌≤◌, ℕ, List, [], ◌∷◌, Option, Some, refl, ap, sym, ◌∙◌, arith}
use Rattle.verification.specs.Numbers.{registration_number, sign_in_number}
use Rattle.verification.specs.declared.refusal.RegistrationRefusal.{RegistrationRefusal}
use Rattle.verification.specs.declared.refusal.RegistrationRefusal.TheVariants as registration
use Rattle.verification.specs.declared.refusal.SignInRefusal.{SignInRefusal}
use Rattle.verification.specs.declared.refusal.SignInRefusal.TheVariants as sign_in
use Rattle.passkey_c.specs.declared.answers.Limit.{Limit}
use Rattle.passkey_c.specs.declared.answers.Limit.TheVariants as limits
use Rattle.passkey_c.specs.Numbers.{limit_number}

abbrev step_at : ℕ → Option SignInRefusal
step_at n = find (λ step. sign_in_number step == n) sign_ins.steps

step_back : (step : SignInRefusal) → step_at (sign_in_number step) ≡ Some step
step_back sign_in.SessionNotOpen = refl
step_back sign_in.CredentialNotAllowed = refl
step_back sign_in.UnknownCredential = refl
step_back sign_in.OtherUser = refl
step_back sign_in.UnreadableClientData = refl
step_back sign_in.WrongType = refl
step_back sign_in.WrongChallenge = refl
step_back sign_in.WrongOrigin = refl
step_back sign_in.CrossOrigin = refl
step_back sign_in.WrongTopOrigin = refl
step_back sign_in.TokenBinding = refl
step_back sign_in.BadAuthenticatorData = refl
step_back sign_in.WrongRelyingParty = refl
step_back sign_in.UserNotPresent = refl
step_back sign_in.UserNotVerified = refl
step_back sign_in.BadSignature = refl
step_back sign_in.CounterNotGreater = refl
step_back sign_in.EligibilityChanged = refl

pub same_step : (v w : SignInRefusal) → sign_in_number v ≡ sign_in_number w → v ≡ w
same_step v w e =
    let there : Some v ≡ Some w = sym (step_back v) ∙ (ap step_at e ∙ step_back w) in cc

pub step_range : (step : SignInRefusal) → (1 ≤ sign_in_number step) × (sign_in_number step ≤ 18)
step_range sign_in.SessionNotOpen = (omega arith, omega arith)
step_range sign_in.CredentialNotAllowed = (omega arith, omega arith)
step_range sign_in.UnknownCredential = (omega arith, omega arith)
step_range sign_in.OtherUser = (omega arith, omega arith)
step_range sign_in.UnreadableClientData = (omega arith, omega arith)
step_range sign_in.WrongType = (omega arith, omega arith)
step_range sign_in.WrongChallenge = (omega arith, omega arith)
step_range sign_in.WrongOrigin = (omega arith, omega arith)
step_range sign_in.CrossOrigin = (omega arith, omega arith)
step_range sign_in.WrongTopOrigin = (omega arith, omega arith)
step_range sign_in.TokenBinding = (omega arith, omega arith)
step_range sign_in.BadAuthenticatorData = (omega arith, omega arith)
step_range sign_in.WrongRelyingParty = (omega arith, omega arith)
step_range sign_in.UserNotPresent = (omega arith, omega arith)
step_range sign_in.UserNotVerified = (omega arith, omega arith)
step_range sign_in.BadSignature = (omega arith, omega arith)
step_range sign_in.CounterNotGreater = (omega arith, omega arith)
step_range sign_in.EligibilityChanged = (omega arith, omega arith)

abbrev limits_all : List Limit
limits_all =
    limits.RpId ∷ limits.Origin ∷ limits.Challenge ∷ limits.KeyAlgorithm ∷ limits.KeyX ∷ limits.KeyY
    ∷ limits.VerifiedAlgorithm ∷ limits.VerifiedX ∷ limits.VerifiedY ∷ limits.MessageRoom ∷ limits.SignatureRoom ∷ limits.Profile
    ∷ limits.TopOrigin ∷ []

abbrev limit_at : ℕ → Option Limit
limit_at n = find (λ limit. limit_number limit == n) limits_all

limit_back : (limit : Limit) → limit_at (limit_number limit) ≡ Some limit
limit_back limits.RpId = refl
limit_back limits.Origin = refl
limit_back limits.Challenge = refl
limit_back limits.KeyAlgorithm = refl
limit_back limits.KeyX = refl
limit_back limits.KeyY = refl
limit_back limits.VerifiedAlgorithm = refl
limit_back limits.VerifiedX = refl
limit_back limits.VerifiedY = refl
limit_back limits.MessageRoom = refl
limit_back limits.SignatureRoom = refl
limit_back limits.Profile = refl
limit_back limits.TopOrigin = refl

pub same_limit : (l m : Limit) → limit_number l ≡ limit_number m → l ≡ m
same_limit l m e =
    let there : Some l ≡ Some m = sym (limit_back l) ∙ (ap limit_at e ∙ limit_back m) in cc

pub limit_range : (limit : Limit) → (100 ≤ limit_number limit) × (limit_number limit ≤ 126)
limit_range limits.RpId = (omega arith, omega arith)
limit_range limits.Origin = (omega arith, omega arith)
limit_range limits.Challenge = (omega arith, omega arith)
limit_range limits.KeyAlgorithm = (omega arith, omega arith)
limit_range limits.KeyX = (omega arith, omega arith)
limit_range limits.KeyY = (omega arith, omega arith)
limit_range limits.VerifiedAlgorithm = (omega arith, omega arith)
limit_range limits.VerifiedX = (omega arith, omega arith)
limit_range limits.VerifiedY = (omega arith, omega arith)
limit_range limits.MessageRoom = (omega arith, omega arith)
limit_range limits.SignatureRoom = (omega arith, omega arith)
limit_range limits.Profile = (omega arith, omega arith)
limit_range limits.TopOrigin = (omega arith, omega arith)

abbrev registration_at : ℕ → Option RegistrationRefusal
registration_at n = find (λ step. registration_number step == n) registrations.steps

registration_back : (step : RegistrationRefusal) → registration_at (registration_number step) ≡ Some step
registration_back registration.SessionNotOpen = refl
registration_back registration.UnreadableClientData = refl
registration_back registration.WrongType = refl
registration_back registration.WrongChallenge = refl
registration_back registration.WrongOrigin = refl
registration_back registration.CrossOrigin = refl
registration_back registration.WrongTopOrigin = refl
registration_back registration.TokenBinding = refl
registration_back registration.BadAttestationObject = refl
registration_back registration.WrongRelyingParty = refl
registration_back registration.UserNotPresent = refl
registration_back registration.UserNotVerified = refl
registration_back registration.AlgorithmNotOffered = refl
registration_back registration.UnknownFormat = refl
registration_back registration.BadStatement = refl
registration_back registration.AttestationNotAccepted = refl
registration_back registration.CredentialRegistered = refl
registration_back registration.TableFull = refl
registration_back registration.OtherId = refl

pub same_registration_step : (v w : RegistrationRefusal) → registration_number v ≡ registration_number w → v ≡ w
same_registration_step v w e =
    let there : Some v ≡ Some w = sym (registration_back v) ∙ (ap registration_at e ∙ registration_back w) in cc

pub registration_range : (step : RegistrationRefusal) → (1 ≤ registration_number step) × (registration_number step ≤ 19)
registration_range registration.SessionNotOpen = (omega arith, omega arith)
registration_range registration.UnreadableClientData = (omega arith, omega arith)
registration_range registration.WrongType = (omega arith, omega arith)
registration_range registration.WrongChallenge = (omega arith, omega arith)
registration_range registration.WrongOrigin = (omega arith, omega arith)
registration_range registration.CrossOrigin = (omega arith, omega arith)
registration_range registration.WrongTopOrigin = (omega arith, omega arith)
registration_range registration.TokenBinding = (omega arith, omega arith)
registration_range registration.BadAttestationObject = (omega arith, omega arith)
registration_range registration.WrongRelyingParty = (omega arith, omega arith)
registration_range registration.UserNotPresent = (omega arith, omega arith)
registration_range registration.UserNotVerified = (omega arith, omega arith)
registration_range registration.AlgorithmNotOffered = (omega arith, omega arith)
registration_range registration.UnknownFormat = (omega arith, omega arith)
registration_range registration.BadStatement = (omega arith, omega arith)
registration_range registration.AttestationNotAccepted = (omega arith, omega arith)
registration_range registration.CredentialRegistered = (omega arith, omega arith)
registration_range registration.TableFull = (omega arith, omega arith)
registration_range registration.OtherId = (omega arith, omega arith)
