-- A verdict on what is judged holds of what it stands for.
use Rattle.std.proofs.Common.{◌≡◌, ◌∙◌, ℕ, Bool, List, Option, ap, subst}
use Rattle.refusal_order.specs.Lines.{Each}
use Rattle.authdata.specs.Responses as responses
use Rattle.verification.specs.Records.{Credential, ExpectedRegistration, ExpectedSignIn, RelyingParty}
use Rattle.verification.specs.Registration as registrations
use Rattle.verification.specs.Registration.{JudgedRegistration, PassesRegistrationStep, response_steps}
use Rattle.verification.specs.SignIn as sign_ins
use Rattle.verification.specs.SignIn.{JudgedSignIn, PassesSignIn}
use Rattle.verification.specs.declared.party.Policy.{Policy}
use Rattle.verification.specs.declared.refusal.RegistrationRefusal.{RegistrationRefusal}
use Rattle.verification.specs.declared.refusal.SignInRefusal.{SignInRefusal}
use Rattle.verification.specs.Signed.{Signed, only_verified}

-- ---- sign-in

abbrev sign_in_with : RelyingParty → Option ExpectedSignIn → Option Credential → responses.AuthenticatorAssertionResponse → JudgedSignIn
sign_in_with rp session credential r = record { rp = rp; session = session; credential = credential; response = r }

pub same_sign_in : (p q : RelyingParty) (s t : Option ExpectedSignIn) (c d : Option Credential) (r u : responses.AuthenticatorAssertionResponse)
    → p ≡ q → s ≡ t → c ≡ d → r ≡ u → sign_in_with p s c r ≡ sign_in_with q t d u
same_sign_in p q s t c d r u parties sessions credentials answers =
    ap (λ x. sign_in_with x s c r) parties ∙ ap (λ x. sign_in_with q x c r) sessions ∙ ap (λ x. sign_in_with q t x r) credentials
    ∙ ap (λ x. sign_in_with q t d x) answers

pub sign_in_passes : (v u : Option Signed) (x y : JudgedSignIn) → v ≡ u → x ≡ y
    → PassesSignIn (only_verified v) x → PassesSignIn (only_verified u) y
sign_in_passes v u x y signatures same passes =
    subst (PassesSignIn (only_verified u)) same (subst (λ s. PassesSignIn (only_verified s) x) signatures passes)

pub sign_in_fails : (v u : Option Signed) (x y : JudgedSignIn) (w : SignInRefusal) → v ≡ u → x ≡ y
    → sign_ins.IsFirstFailing (only_verified v) x w → sign_ins.IsFirstFailing (only_verified u) y w
sign_in_fails v u x y w signatures same fails =
    subst (λ z. sign_ins.IsFirstFailing (only_verified u) z w) same (subst (λ s. sign_ins.IsFirstFailing (only_verified s) x w) signatures fails)

-- ---- registration

abbrev registration_with : RelyingParty → Policy → Option ExpectedRegistration → responses.AuthenticatorAttestationResponse → (List ℕ → Bool) → Bool
    → JudgedRegistration
registration_with rp policy session r is_registered is_full =
    record { rp = rp; policy = policy; session = session; response = r; is_registered = is_registered; is_full = is_full }

pub same_registration : (p q : RelyingParty) (policy : Policy) (s t : Option ExpectedRegistration) (r : responses.AuthenticatorAttestationResponse)
    (is_registered : List ℕ → Bool) (is_full : Bool) → p ≡ q → s ≡ t
    → registration_with p policy s r is_registered is_full ≡ registration_with q policy t r is_registered is_full
same_registration p q policy s t r is_registered is_full parties sessions =
    ap (λ x. registration_with x policy s r is_registered is_full) parties ∙ ap (λ x. registration_with q policy x r is_registered is_full) sessions

pub response_passes : (v u : Option Signed) (x y : JudgedRegistration) → v ≡ u → x ≡ y
    → Each (PassesRegistrationStep (only_verified v) x) response_steps → Each (PassesRegistrationStep (only_verified u) y) response_steps
response_passes v u x y signatures same passes =
    subst (λ z. Each (PassesRegistrationStep (only_verified u) z) response_steps) same
    (subst (λ s. Each (PassesRegistrationStep (only_verified s) x) response_steps) signatures passes)

pub registration_fails : (v u : Option Signed) (x y : JudgedRegistration) (w : RegistrationRefusal) → v ≡ u → x ≡ y
    → registrations.IsFirstFailing (only_verified v) x w → registrations.IsFirstFailing (only_verified u) y w
registration_fails v u x y w signatures same fails =
    subst (λ z. registrations.IsFirstFailing (only_verified u) z w) same (subst (λ s. registrations.IsFirstFailing (only_verified s) x w) signatures fails)
