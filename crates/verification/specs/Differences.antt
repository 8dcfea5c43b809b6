-- What Level 3 asks otherwise than the open profile, step by step, of one response.
use Rattle.std.specs.Prelude.{◌≡◌, ◌≢◌, ◌↔◌, ◌⊎◌, [], true, false}
use Rattle.std.specs.Option.{ForSome}
use Rattle.cose.specs.Schemes.{Validity}
use Rattle.clientdata.specs.Reading.{seen_of}
use Rattle.clientdata.specs.declared.seen.CrossOrigin.TheVariants as cross
use Rattle.clientdata.specs.declared.seen.Seen.{Seen}
use Rattle.authdata.specs.declared.profile.Profile.{Profile}
use Rattle.authdata.specs.declared.profile.Profile.TheVariants.{Level3, Open}
use Rattle.verification.specs.Records.{RelyingParty}
use Rattle.verification.specs.Registration.{Attested, JudgedRegistration, PassesRegistrationStep}
use Rattle.verification.specs.Shared.{IsFramedBy, IsUnframed}
use Rattle.verification.specs.SignIn.{JudgedSignIn, PassesSignInStep}
use Rattle.verification.specs.declared.refusal.RegistrationRefusal.{RegistrationRefusal}
use Rattle.verification.specs.declared.refusal.RegistrationRefusal.TheVariants as registration
use Rattle.verification.specs.declared.refusal.SignInRefusal.{SignInRefusal}
use Rattle.verification.specs.declared.refusal.SignInRefusal.TheVariants as sign_in

-- the same before a relying party of this profile
abbrev pub sign_in_of : Profile → JudgedSignIn → JudgedSignIn
sign_in_of profile x = record x { rp = record x.rp { profile = profile } }

abbrev pub registration_of : Profile → JudgedRegistration → JudgedRegistration
registration_of profile x = record x { rp = record x.rp { profile = profile } }

-- no frame, or the relying party names pages and crossOrigin is a truth value
abbrev pub IsAllowed : RelyingParty → Seen → Type 0
IsAllowed rp seen = IsUnframed seen ⊎ ((rp.top_origins ≢ []) × (seen.cross_origin ≢ cross.Other))

-- no frame, or that of a page that it names
abbrev pub IsNamed : RelyingParty → Seen → Type 0
IsNamed rp seen = IsUnframed seen ⊎ IsFramedBy rp.top_origins seen

-- the open profile passes each frame, and Level 3 these; Level 3 passes each token binding; of the other steps both ask the same
abbrev pub SignInsDiffer : Validity → JudgedSignIn → SignInRefusal → Type 0
SignInsDiffer valid x sign_in.CrossOrigin =
    PassesSignInStep valid (sign_in_of Open x) sign_in.CrossOrigin
    × (PassesSignInStep valid (sign_in_of Level3 x) sign_in.CrossOrigin ↔ ForSome (seen_of x.response.client_data) (IsAllowed x.rp))
SignInsDiffer valid x sign_in.WrongTopOrigin =
    PassesSignInStep valid (sign_in_of Open x) sign_in.WrongTopOrigin
    × (PassesSignInStep valid (sign_in_of Level3 x) sign_in.WrongTopOrigin ↔ ForSome (seen_of x.response.client_data) (IsNamed x.rp))
SignInsDiffer valid x sign_in.TokenBinding = PassesSignInStep valid (sign_in_of Level3 x) sign_in.TokenBinding
SignInsDiffer valid x w = PassesSignInStep valid (sign_in_of Level3 x) w ↔ PassesSignInStep valid (sign_in_of Open x) w

-- a step of a registration asks the same for both
abbrev pub IsSame : Validity → JudgedRegistration → RegistrationRefusal → Type 0
IsSame valid x w = PassesRegistrationStep valid (registration_of Level3 x) w ↔ PassesRegistrationStep valid (registration_of Open x) w

-- so it is of a registration; and Level 3 asks for no presence where the session is conditional, and for no statement where no
-- attestation was asked for: then no attestation is what the policy judges
abbrev pub RegistrationsDiffer : Validity → JudgedRegistration → RegistrationRefusal → Type 0
RegistrationsDiffer valid x registration.CrossOrigin =
    PassesRegistrationStep valid (registration_of Open x) registration.CrossOrigin
    × (PassesRegistrationStep valid (registration_of Level3 x) registration.CrossOrigin ↔ ForSome (seen_of x.response.client_data) (IsAllowed x.rp))
RegistrationsDiffer valid x registration.WrongTopOrigin =
    PassesRegistrationStep valid (registration_of Open x) registration.WrongTopOrigin
    × (PassesRegistrationStep valid (registration_of Level3 x) registration.WrongTopOrigin ↔ ForSome (seen_of x.response.client_data) (IsNamed x.rp))
RegistrationsDiffer valid x registration.TokenBinding = PassesRegistrationStep valid (registration_of Level3 x) registration.TokenBinding
RegistrationsDiffer valid x registration.UserNotPresent = ForSome x.session
    (λ e. (e.conditional ≡ true → PassesRegistrationStep valid (registration_of Level3 x) registration.UserNotPresent)
    × (e.conditional ≡ false → IsSame valid x registration.UserNotPresent))
RegistrationsDiffer valid x registration.UnknownFormat = ForSome x.session
    (λ e. (e.attestation ≡ false → PassesRegistrationStep valid (registration_of Level3 x) registration.UnknownFormat)
    × (e.attestation ≡ true → IsSame valid x registration.UnknownFormat))
RegistrationsDiffer valid x registration.BadStatement = ForSome x.session
    (λ e. (e.attestation ≡ false → PassesRegistrationStep valid (registration_of Level3 x) registration.BadStatement)
    × (e.attestation ≡ true → IsSame valid x registration.BadStatement))
RegistrationsDiffer valid x registration.AttestationNotAccepted = ForSome x.session
    (λ e. (e.attestation ≡ false → PassesRegistrationStep valid (registration_of Level3 x) registration.AttestationNotAccepted
    ↔ Attested Level3 x.response (λ o a c. x.policy.accept_none ≡ true))
    × (e.attestation ≡ true → IsSame valid x registration.AttestationNotAccepted))
RegistrationsDiffer valid x w = IsSame valid x w
