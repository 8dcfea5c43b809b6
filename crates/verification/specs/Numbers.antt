-- The product's numbers of the steps, in the order in which they are tested; but 17 and 18, of Level 3, are tested right
-- after the origin, and 19 before 12.
use Rattle.std.specs.Prelude.{ℕ}
use Rattle.verification.specs.declared.refusal.SignInRefusal.{SignInRefusal}
use Rattle.verification.specs.declared.refusal.SignInRefusal.TheVariants as sign_in
use Rattle.verification.specs.declared.refusal.RegistrationRefusal.{RegistrationRefusal}
use Rattle.verification.specs.declared.refusal.RegistrationRefusal.TheVariants as registration

abbrev pub sign_in_number : SignInRefusal → ℕ
sign_in_number sign_in.SessionNotOpen = 1
sign_in_number sign_in.CredentialNotAllowed = 2
sign_in_number sign_in.UnknownCredential = 3
sign_in_number sign_in.OtherUser = 4
sign_in_number sign_in.UnreadableClientData = 5
sign_in_number sign_in.WrongType = 6
sign_in_number sign_in.WrongChallenge = 7
sign_in_number sign_in.WrongOrigin = 8
sign_in_number sign_in.TokenBinding = 9
sign_in_number sign_in.BadAuthenticatorData = 10
sign_in_number sign_in.WrongRelyingParty = 11
sign_in_number sign_in.UserNotPresent = 12
sign_in_number sign_in.UserNotVerified = 13
sign_in_number sign_in.BadSignature = 14
sign_in_number sign_in.CounterNotGreater = 15
sign_in_number sign_in.EligibilityChanged = 16
sign_in_number sign_in.CrossOrigin = 17
sign_in_number sign_in.WrongTopOrigin = 18

abbrev pub registration_number : RegistrationRefusal → ℕ
registration_number registration.SessionNotOpen = 1
registration_number registration.UnreadableClientData = 2
registration_number registration.WrongType = 3
registration_number registration.WrongChallenge = 4
registration_number registration.WrongOrigin = 5
registration_number registration.TokenBinding = 6
registration_number registration.BadAttestationObject = 7
registration_number registration.WrongRelyingParty = 8
registration_number registration.UserNotPresent = 9
registration_number registration.UserNotVerified = 10
registration_number registration.AlgorithmNotOffered = 11
registration_number registration.UnknownFormat = 12
registration_number registration.BadStatement = 13
registration_number registration.AttestationNotAccepted = 14
registration_number registration.CredentialRegistered = 15
registration_number registration.TableFull = 16
registration_number registration.CrossOrigin = 17
registration_number registration.WrongTopOrigin = 18
registration_number registration.OtherId = 19
