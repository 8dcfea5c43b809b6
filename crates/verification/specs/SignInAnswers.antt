-- What a judgement answers.
use Rattle.std.specs.Option.{ForSome}
use Rattle.refusal_order.specs.Lines.{Each}
use Rattle.authdata.specs.Layout.{AuthOf, lent_auth_view}
use Rattle.clientdata.specs.declared.record.CeremonyType.TheVariants.{Get}
use Rattle.verification.specs.ClientData.{IsSerialised}
use Rattle.cose.specs.Schemes.{Validity}
use Rattle.verification.specs.SignIn.{JudgedSignIn, PassesSignInStep, IsFirstFailing, credential_steps}
use Rattle.verification.specs.declared.signing_in.VerifiedAssertion.{VerifiedAssertion}
use Rattle.verification.specs.declared.client_data.ClientDataStep.{ClientDataStep}
use Rattle.verification.specs.declared.client_data.ClientDataStep.TheVariants as line
use Rattle.verification.specs.declared.refusal.VerificationError.{VerificationError}
use Rattle.verification.specs.declared.refusal.VerificationError.TheVariants as errors
use Rattle.verification.specs.declared.refusal.SignInRefusal.{SignInRefusal}
use Rattle.verification.specs.declared.refusal.SignInRefusal.TheVariants as step

-- what the authenticator data say
abbrev pub IsVerifiedSignIn : JudgedSignIn → VerifiedAssertion → Type 0
IsVerifiedSignIn x v = AuthOf x.rp.profile (lent_auth_view v.auth_data) x.response.auth_data

-- the first step that fails is named; running out of memory comes only where the steps on the session and the
-- credential are passed
abbrev pub IsRefused : Validity → JudgedSignIn → VerificationError SignInRefusal → Type 0
IsRefused valid x (errors.Refused w) = IsFirstFailing valid x w
IsRefused valid x errors.Memory = Each (PassesSignInStep valid x) credential_steps

-- the client data are the serialised text (section 5.8.1.1) of the session's challenge for one of the origins
abbrev pub IsExpected : JudgedSignIn → Type 0
IsExpected x = ForSome x.session (λ e. IsSerialised Get e.challenge x.rp x.response.client_data)

-- the step of this ceremony that a step on client data is
abbrev pub step_of : ClientDataStep → SignInRefusal
step_of line.Readable = step.UnreadableClientData
step_of line.Type = step.WrongType
step_of line.Challenge = step.WrongChallenge
step_of line.Origin = step.WrongOrigin
step_of line.CrossOrigin = step.CrossOrigin
step_of line.TopOrigin = step.WrongTopOrigin
step_of line.TokenBinding = step.TokenBinding
