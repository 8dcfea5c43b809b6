-- From lines and groups of steps to the steps of a sign-in.
use Rattle.std.proofs.Common.{◌≡◌, ℕ, List, ◌++◌, Some, refl, subst, sym, false}
use Rattle.refusal_order.proofs.Laws.{each_joined, first_along, first_at, first_before, first_behind, first_image}
use Rattle.refusal_order.specs.Lines.{Each, FirstFailing}
use Rattle.clientdata.specs.declared.record.CeremonyType.TheVariants.{Get}
use Rattle.std.specs.Prelude.{Option}
use Rattle.std.specs.Option.{ForSome}
use Rattle.sha2.specs.Sha256.{sha256}
use Rattle.authdata.specs.Flags.{is_set, AT, BE}
use Rattle.authdata.specs.declared.profile.Profile.{Profile}
use Rattle.authdata.specs.Layout.{AuthenticatorData, AuthOf}
use Rattle.authdata.proofs.Unique.{one_value}
use Rattle.verification.specs.Records.{Credential, ExpectedSignIn}
use Rattle.cose.specs.Schemes.{Validity}
use Rattle.verification.specs.Shared.{FailsIn, IsFor, IsPresent, IsVerifiedAs, never}
use Rattle.verification.specs.SignIn.{JudgedSignIn, PassesSignInStep, PassesSignIn, IsCounted, credential_steps, client_data_steps, auth_data_steps}
use Rattle.verification.specs.SignIn.{signature_steps}
use Rattle.verification.specs.ClientData.{PassesClientDataStep, client_data_order}
use Rattle.verification.specs.SignInAnswers.{IsRefused, step_of}
use Rattle.verification.specs.declared.client_data.ClientDataStep.{ClientDataStep}
use Rattle.verification.specs.declared.client_data.ClientDataStep.TheVariants as line
use Rattle.verification.specs.declared.refusal.VerificationError.{VerificationError}
use Rattle.verification.specs.declared.refusal.VerificationError.TheVariants as errors
use Rattle.verification.specs.declared.refusal.SignInRefusal.{SignInRefusal}
use Rattle.verification.specs.declared.refusal.SignInRefusal.TheVariants as step

-- a step on client data is the step of its name
line_passes : (x : JudgedSignIn) (e : ExpectedSignIn) → x.session ≡ Some e → (l : ClientDataStep)
    → PassesClientDataStep Get e.challenge x.rp x.response.client_data l → PassesSignInStep never x (step_of l)
line_passes x e is line.Readable says = says
line_passes x e is line.Type says = says
line_passes x e is line.Challenge says = λ other other_is. let same : e ≡ other = cc in rw (sym same) says
line_passes x e is line.Origin says = says
line_passes x e is line.CrossOrigin says = says
line_passes x e is line.TopOrigin says = says
line_passes x e is line.TokenBinding says = says

line_says : (x : JudgedSignIn) (e : ExpectedSignIn) → x.session ≡ Some e → (l : ClientDataStep) → PassesSignInStep never x (step_of l)
    → PassesClientDataStep Get e.challenge x.rp x.response.client_data l
line_says x e is line.Readable passes = passes
line_says x e is line.Type passes = passes
line_says x e is line.Challenge passes = passes e is
line_says x e is line.Origin passes = passes
line_says x e is line.CrossOrigin passes = passes
line_says x e is line.TopOrigin passes = passes
line_says x e is line.TokenBinding passes = passes

pub client_data_fails : (x : JudgedSignIn) (e : ExpectedSignIn) (l : ClientDataStep) → x.session ≡ Some e
    → FirstFailing (PassesClientDataStep Get e.challenge x.rp x.response.client_data) client_data_order l
    → FirstFailing (PassesSignInStep never x) client_data_steps (step_of l)
client_data_fails x e l is first = first_image step_of (line_passes x e is) (λ m no passes. no (line_says x e is m passes)) first

-- what holds of authenticator data holds of all that the bytes are
pub of_all : {q : Profile} (P : AuthenticatorData → Type 0) (a : AuthenticatorData) (bs : List ℕ) → AuthOf q a bs → P a → (b : AuthenticatorData)
    → AuthOf q b bs → P b
of_all {q} P a bs h p b k = subst P (one_value q q a b bs h k) p

-- what holds of a session's expectation holds of whatever is expected
pub of_some : {A : Type 0} (P : A → Type 0) (o : Option A) (x : A) → o ≡ Some x → P x → (y : A) → o ≡ Some y → P y
of_some P o x is p y other = let same : x ≡ y = cc in subst P same p

-- ---- the authenticator data

-- the response's authenticator data are these, with AT clear
pub record HasBare (x : JudgedSignIn) (a : AuthenticatorData) : Type 0 where
  pub spelled : AuthOf x.rp.profile a x.response.auth_data
  pub bare : is_set a.flags AT ≡ false

pub unbare : (x : JudgedSignIn) → ((a : AuthenticatorData) → AuthOf x.rp.profile a x.response.auth_data → is_set a.flags AT ≡ false → ⊥)
    → FirstFailing (PassesSignInStep never x) auth_data_steps step.BadAuthenticatorData
unbare x none = first_at 0 refl tt (λ passes. none passes.0 passes.1 passes.2)

pub wrong_party : (x : JudgedSignIn) (a : AuthenticatorData) → HasBare x a → (IsFor x.rp a → ⊥)
    → FirstFailing (PassesSignInStep never x) auth_data_steps step.WrongRelyingParty
wrong_party x a has other = first_at 1 refl ((a, has.spelled, has.bare), tt) (λ passes. other (passes a has.spelled))

pub not_present : (x : JudgedSignIn) (a : AuthenticatorData) → HasBare x a → IsFor x.rp a → (IsPresent a → ⊥)
    → FirstFailing (PassesSignInStep never x) auth_data_steps step.UserNotPresent
not_present x a has party absent =
    first_at 2 refl ((a, has.spelled, has.bare), (of_all (IsFor x.rp) a _ has.spelled party, tt)) (λ passes. absent (passes a has.spelled))

pub not_verified : (x : JudgedSignIn) (e : ExpectedSignIn) (a : AuthenticatorData) → x.session ≡ Some e → HasBare x a → IsFor x.rp a → IsPresent a
    → (IsVerifiedAs e.uv a → ⊥)
    → FirstFailing (PassesSignInStep never x) auth_data_steps step.UserNotVerified
not_verified x e a is has party present unverified =
    first_at 3 refl ((a, has.spelled, has.bare), (of_all (IsFor x.rp) a _ has.spelled party, (of_all IsPresent a _ has.spelled present, tt)))
    (λ passes. unverified (passes e is a has.spelled))

pub data_passes : (x : JudgedSignIn) (e : ExpectedSignIn) (a : AuthenticatorData) → x.session ≡ Some e → HasBare x a → IsFor x.rp a → IsPresent a
    → IsVerifiedAs e.uv a
    → Each (PassesSignInStep never x) auth_data_steps
data_passes x e a is has party present verified =
    let Verified : ExpectedSignIn → Type 0 = λ f. (b : AuthenticatorData) → AuthOf x.rp.profile b x.response.auth_data → IsVerifiedAs f.uv b in (
      (a, has.spelled, has.bare),
      (
        of_all (IsFor x.rp) a _ has.spelled party,
        (
          of_all IsPresent a _ has.spelled present,
          (of_some Verified x.session e is (of_all (IsVerifiedAs e.uv) a _ has.spelled verified), tt),
        ),
      ),
    )

-- ---- the signature, the counter and the mark of eligibility

-- the credential that the response is judged by, and the authenticator data
pub record HasBoth (x : JudgedSignIn) (c : Credential) (a : AuthenticatorData) : Type 0 where
  pub credential : x.credential ≡ Some c
  pub spelled : AuthOf x.rp.profile a x.response.auth_data

-- the message that is signed
abbrev pub message_of : JudgedSignIn → List ℕ
message_of x = x.response.auth_data ++ sha256 x.response.client_data

module _ (valid : Validity) (x : JudgedSignIn) (c : Credential) (a : AuthenticatorData) (has : HasBoth x c a) where
  abbrev IsValid : Credential → Type 0
  IsValid d = valid d.key (message_of x) x.response.signature

  abbrev IsCountedFor : Credential → Type 0
  IsCountedFor d = (b : AuthenticatorData) → AuthOf x.rp.profile b x.response.auth_data → IsCounted d.sign_count b.sign_count

  abbrev IsEligibleFor : Credential → Type 0
  IsEligibleFor d = ForSome d.eligible (λ e. (b : AuthenticatorData) → AuthOf x.rp.profile b x.response.auth_data → is_set b.flags BE ≡ e)

  signed : IsValid c → PassesSignInStep valid x step.BadSignature
  signed v = of_some IsValid x.credential c has.credential v

  counted : IsCounted c.sign_count a.sign_count → PassesSignInStep valid x step.CounterNotGreater
  counted k = of_some IsCountedFor x.credential c has.credential (of_all (λ b. IsCounted c.sign_count b.sign_count) a _ has.spelled k)

  eligible : ForSome c.eligible (λ e. is_set a.flags BE ≡ e) → PassesSignInStep valid x step.EligibilityChanged
  eligible k = of_some IsEligibleFor x.credential c has.credential (λ e is. of_all (λ b. is_set b.flags BE ≡ e) a _ has.spelled (k e is))

  pub bad_signature : (IsValid c → ⊥) → FirstFailing (PassesSignInStep valid x) signature_steps step.BadSignature
  bad_signature invalid = first_at 0 refl tt (λ passes. invalid (passes c has.credential))

  pub not_greater : IsValid c → (IsCounted c.sign_count a.sign_count → ⊥) → FirstFailing (PassesSignInStep valid x) signature_steps step.CounterNotGreater
  not_greater v uncounted = first_at 1 refl (signed v, tt) (λ passes. uncounted (passes c has.credential a has.spelled))

  pub changed : IsValid c → IsCounted c.sign_count a.sign_count → (ForSome c.eligible (λ e. is_set a.flags BE ≡ e) → ⊥)
      → FirstFailing (PassesSignInStep valid x) signature_steps step.EligibilityChanged
  changed v k other = first_at 2 refl (signed v, (counted k, tt)) (λ passes. other (λ e is. passes c has.credential e is a has.spelled))

  pub signature_passes : IsValid c → IsCounted c.sign_count a.sign_count → ForSome c.eligible (λ e. is_set a.flags BE ≡ e)
      → Each (PassesSignInStep valid x) signature_steps
  signature_passes v k e = (signed v, (counted k, (eligible e, tt)))

-- ---- the groups joined

-- the steps that do not look at the signature are passed whatever is valid
as_any : (valid : Validity) (x : JudgedSignIn)
    → Each (λ w. (PassesSignInStep never x w → PassesSignInStep valid x w) × ((PassesSignInStep never x w → ⊥) → PassesSignInStep valid x w → ⊥))
    credential_steps
as_any valid x =
    ((λ h. h, λ h. h), ((λ h. h, λ h. h), ((λ h. h, λ h. h), ((λ h. h, λ h. h), tt))))

client_as_any : (valid : Validity) (x : JudgedSignIn)
    → Each (λ w. (PassesSignInStep never x w → PassesSignInStep valid x w) × ((PassesSignInStep never x w → ⊥) → PassesSignInStep valid x w → ⊥))
    client_data_steps
client_as_any valid x =
    ((λ h. h, λ h. h), ((λ h. h, λ h. h), ((λ h. h, λ h. h), ((λ h. h, λ h. h), ((λ h. h, λ h. h), ((λ h. h, λ h. h), ((λ h. h, λ h. h), tt)))))))

data_as_any : (valid : Validity) (x : JudgedSignIn)
    → Each (λ w. (PassesSignInStep never x w → PassesSignInStep valid x w) × ((PassesSignInStep never x w → ⊥) → PassesSignInStep valid x w → ⊥))
    auth_data_steps
data_as_any valid x =
    ((λ h. h, λ h. h), ((λ h. h, λ h. h), ((λ h. h, λ h. h), ((λ h. h, λ h. h), tt))))

module _ (valid : Validity) (x : JudgedSignIn) where
  pub credential_fails : (w : SignInRefusal) → FirstFailing (PassesSignInStep never x) credential_steps w → IsRefused valid x (errors.Refused w)
  credential_fails w first = first_before _ (first_along (as_any valid x) first)

  pub client_fails : Each (PassesSignInStep never x) credential_steps → (e : VerificationError SignInRefusal)
      → FailsIn (PassesSignInStep never x) client_data_steps e → IsRefused valid x e
  client_fails a (errors.Refused w) first = first_behind credential_steps a (first_before _ (first_along (client_as_any valid x) first))
  client_fails a errors.Memory first = a

  pub data_fails : Each (PassesSignInStep never x) credential_steps → Each (PassesSignInStep never x) client_data_steps
      → (w : SignInRefusal) → FirstFailing (PassesSignInStep never x) auth_data_steps w → IsRefused valid x (errors.Refused w)
  data_fails a b w first = first_behind credential_steps a (first_behind client_data_steps b (first_before _ (first_along (data_as_any valid x) first)))

  pub signature_fails : Each (PassesSignInStep never x) credential_steps → Each (PassesSignInStep never x) client_data_steps
      → Each (PassesSignInStep never x) auth_data_steps
      → (w : SignInRefusal) → FirstFailing (PassesSignInStep valid x) signature_steps w → IsRefused valid x (errors.Refused w)
  signature_fails a b c w first = first_behind credential_steps a (first_behind client_data_steps b (first_behind auth_data_steps c first))

  pub all_pass : Each (PassesSignInStep never x) credential_steps → Each (PassesSignInStep never x) client_data_steps
      → Each (PassesSignInStep never x) auth_data_steps
      → Each (PassesSignInStep valid x) signature_steps → PassesSignIn valid x
  all_pass a b c d =
      each_joined (PassesSignInStep valid x) credential_steps (client_data_steps ++ (auth_data_steps ++ signature_steps)) a
      (each_joined (PassesSignInStep valid x) client_data_steps (auth_data_steps ++ signature_steps) b
      (each_joined (PassesSignInStep valid x) auth_data_steps signature_steps c d))
