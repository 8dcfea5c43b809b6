-- What Level 3 asks otherwise than the open profile.
use Rattle.std.proofs.Common.{◌≡◌, ◌∙◌, inl, inr, Bool, true, false, Some, refl, sym, ap}
use Rattle.std.specs.Prelude.{codes}
use Rattle.cose.specs.Schemes.{Validity}
use Rattle.authdata.specs.declared.profile.Profile.TheVariants.{Level3, Open}
use Rattle.authdata.specs.Layout.{AttestedCredential, AuthenticatorData}
use Rattle.authdata.specs.Objects.{Attestation}
use Rattle.authdata.specs.Responses as responses
use Rattle.authdata.proofs.NoRefusal.{level3}
use Rattle.verification.specs.Records.{ExpectedRegistration}
use Rattle.verification.specs.Differences.{RegistrationsDiffer, SignInsDiffer}
use Rattle.verification.specs.Registration.{Attested, Attests, JudgedRegistration, counted}
use Rattle.verification.specs.SignIn.{JudgedSignIn}
use Rattle.verification.specs.declared.refusal.RegistrationRefusal.{RegistrationRefusal}
use Rattle.verification.specs.declared.refusal.RegistrationRefusal.TheVariants as registration
use Rattle.verification.specs.declared.refusal.SignInRefusal.{SignInRefusal}
use Rattle.verification.specs.declared.refusal.SignInRefusal.TheVariants as sign_in
use Rattle.verification.proofs.Registrations.{counted_none}

other : Open ≡ Level3 → ⊥
other bad = absurd cc

pub sign_ins_differ : (valid : Validity) (x : JudgedSignIn) (w : SignInRefusal) → SignInsDiffer valid x w
sign_ins_differ valid x sign_in.CrossOrigin = (λ seen is bad. absurd (other bad), (λ p seen is. p seen is refl, λ p seen is _. p seen is))
sign_ins_differ valid x sign_in.WrongTopOrigin = (λ seen is bad. absurd (other bad), (λ p seen is. p seen is refl, λ p seen is _. p seen is))
sign_ins_differ valid x sign_in.TokenBinding = λ seen is. inr (inr (inr refl))
sign_ins_differ valid x sign_in.SessionNotOpen = (λ p. p, λ p. p)
sign_ins_differ valid x sign_in.CredentialNotAllowed = (λ p. p, λ p. p)
sign_ins_differ valid x sign_in.UnknownCredential = (λ p. p, λ p. p)
sign_ins_differ valid x sign_in.OtherUser = (λ p. p, λ p. p)
sign_ins_differ valid x sign_in.UnreadableClientData = (λ p. p, λ p. p)
sign_ins_differ valid x sign_in.WrongType = (λ p. p, λ p. p)
sign_ins_differ valid x sign_in.WrongChallenge = (λ p. p, λ p. p)
sign_ins_differ valid x sign_in.WrongOrigin = (λ p. p, λ p. p)
sign_ins_differ valid x sign_in.BadAuthenticatorData =
    (λ p. (p.0, (level3 p.0 x.response.auth_data).0 p.1, p.2), λ p. (p.0, (level3 p.0 x.response.auth_data).1 p.1, p.2))
sign_ins_differ valid x sign_in.WrongRelyingParty =
    (λ p a of. p a ((level3 a x.response.auth_data).1 of), λ p a of. p a ((level3 a x.response.auth_data).0 of))
sign_ins_differ valid x sign_in.UserNotPresent =
    (λ p a of. p a ((level3 a x.response.auth_data).1 of), λ p a of. p a ((level3 a x.response.auth_data).0 of))
sign_ins_differ valid x sign_in.UserNotVerified =
    (λ p e is a of. p e is a ((level3 a x.response.auth_data).1 of), λ p e is a of. p e is a ((level3 a x.response.auth_data).0 of))
sign_ins_differ valid x sign_in.BadSignature = (λ p. p, λ p. p)
sign_ins_differ valid x sign_in.CounterNotGreater =
    (λ p c is a of. p c is a ((level3 a x.response.auth_data).1 of), λ p c is a of. p c is a ((level3 a x.response.auth_data).0 of))
sign_ins_differ valid x sign_in.EligibilityChanged =
    (λ p c is e known a of. p c is e known a ((level3 a x.response.auth_data).1 of), λ p c is e known a of. p c is e known a ((level3 a x.response.auth_data).0 of))

-- ---- a registration

-- what is attested is the same in both
opened : (r : responses.AuthenticatorAttestationResponse) (o : Attestation) (a : AuthenticatorData) (c : AttestedCredential) → Attests Level3 r o a c
    → Attests Open r o a c
opened r o a c h = record { object = h.object; auth_data = (level3 a o.auth_data).0 h.auth_data; attested = h.attested }

closed : (r : responses.AuthenticatorAttestationResponse) (o : Attestation) (a : AuthenticatorData) (c : AttestedCredential) → Attests Open r o a c
    → Attests Level3 r o a c
closed r o a c h = record { object = h.object; auth_data = (level3 a o.auth_data).1 h.auth_data; attested = h.attested }

module _ (r : responses.AuthenticatorAttestationResponse) (P : Attestation → AuthenticatorData → AttestedCredential → Type 0) where
  to_open : Attested Level3 r P → Attested Open r P
  to_open p o a c h = p o a c (closed r o a c h)

  from_open : Attested Open r P → Attested Level3 r P
  from_open p o a c h = p o a c (opened r o a c h)

-- where an attestation was asked for, what counts is the object in both
counted_asked : (asked : Bool) (o : Attestation) → asked ≡ true → counted Level3 asked o ≡ o
counted_asked true o is = refl
counted_asked false o is = absurd cc

module _ (valid : Validity) (x : JudgedRegistration) (e : ExpectedRegistration) (is : x.session ≡ Some e) where
  one : (f : ExpectedRegistration) → x.session ≡ Some f → e ≡ f
  one f also = cc

  -- a session's flag is that of whatever is expected
  flag : (P : ExpectedRegistration → Bool) (b : Bool) → P e ≡ b → (f : ExpectedRegistration) → x.session ≡ Some f → P f ≡ b
  flag P b here f also = ap P (sym (one f also)) ∙ here

  asked_of : e.attestation ≡ true → (f : ExpectedRegistration) → x.session ≡ Some f → (o : Attestation) → counted Level3 f.attestation o ≡ o
  asked_of asked f also o = counted_asked f.attestation o (flag (λ (k : ExpectedRegistration). k.attestation) true asked f also)

  none_of : e.attestation ≡ false → (f : ExpectedRegistration) → x.session ≡ Some f → f.attestation ≡ false
  none_of asked f also = flag (λ (k : ExpectedRegistration). k.attestation) false asked f also

pub registrations_differ : (valid : Validity) (x : JudgedRegistration) (w : RegistrationRefusal) → RegistrationsDiffer valid x w
registrations_differ valid x registration.CrossOrigin = (λ seen is bad. absurd (other bad), (λ p seen is. p seen is refl, λ p seen is _. p seen is))
registrations_differ valid x registration.WrongTopOrigin = (λ seen is bad. absurd (other bad), (λ p seen is. p seen is refl, λ p seen is _. p seen is))
registrations_differ valid x registration.TokenBinding = λ seen is. inr (inr (inr refl))
registrations_differ valid x registration.SessionNotOpen = (λ p. p, λ p. p)
registrations_differ valid x registration.UnreadableClientData = (λ p. p, λ p. p)
registrations_differ valid x registration.WrongType = (λ p. p, λ p. p)
registrations_differ valid x registration.WrongChallenge = (λ p. p, λ p. p)
registrations_differ valid x registration.WrongOrigin = (λ p. p, λ p. p)
registrations_differ valid x registration.BadAttestationObject =
    (λ p. (p.0, p.1, p.2, opened x.response p.0 p.1 p.2 p.3), λ p. (p.0, p.1, p.2, closed x.response p.0 p.1 p.2 p.3))
registrations_differ valid x registration.WrongRelyingParty = (to_open x.response _, from_open x.response _)
registrations_differ valid x registration.UserNotPresent = λ e is. (
  λ conditional f also o a c h. inr (refl, flag valid x e is (λ (k : ExpectedRegistration). k.conditional) true conditional f also),
  λ usual. (
    λ p f also o a c h. elim (p f also o a c (closed x.response o a c h)) [
      | inl up ↦ inl up
      | inr free ↦
          let not_so = flag valid x e is (λ (k : ExpectedRegistration). k.conditional) false usual f also in
          let so = free.1 in absurd cc
    ],
    λ p f also o a c h. elim (p f also o a c (opened x.response o a c h)) [
      | inl up ↦ inl up
      | inr free ↦ absurd (other free.0)
    ],
  ),
)
registrations_differ valid x registration.UserNotVerified =
    (λ p e is. to_open x.response _ (p e is), λ p e is. from_open x.response _ (p e is))
registrations_differ valid x registration.AlgorithmNotOffered =
    (λ p e is. to_open x.response _ (p e is), λ p e is. from_open x.response _ (p e is))
registrations_differ valid x registration.OtherId =
    (λ p raw_id is. to_open x.response _ (p raw_id is), λ p raw_id is. from_open x.response _ (p raw_id is))
registrations_differ valid x registration.UnknownFormat = λ e is. (
  λ unasked f also o a c h. inl (counted_none Level3 f.attestation o (refl, none_of valid x e is unasked f also)).0,
  λ asked. (
    λ p f also o a c h. rw (sym (asked_of valid x e is asked f also o)) (p f also o a c (closed x.response o a c h)),
    λ p f also o a c h. rw (asked_of valid x e is asked f also o) (p f also o a c (opened x.response o a c h)),
  ),
)
registrations_differ valid x registration.BadStatement = λ e is. (
  λ unasked f also o a c h. inl (counted_none Level3 f.attestation o (refl, none_of valid x e is unasked f also)),
  λ asked. (
    λ p f also o a c h. rw (sym (asked_of valid x e is asked f also o)) (p f also o a c (closed x.response o a c h)),
    λ p f also o a c h. rw (asked_of valid x e is asked f also o) (p f also o a c (opened x.response o a c h)),
  ),
)
registrations_differ valid x registration.AttestationNotAccepted = λ e is. (
  λ unasked. (
    λ p o a c h. (p e is o a c h).0 (counted_none Level3 e.attestation o (refl, unasked)),
    λ p f also o a c h. (
      λ none. p o a c h,
      λ self.
          let none = counted_none Level3 f.attestation o (refl, none_of valid x e is unasked f also) in
          let same : codes "none" ≡ codes "packed" = sym none.0 ∙ self.0 in absurd cc,
    ),
  ),
  λ asked. (
    λ p f also o a c h. rw (sym (asked_of valid x e is asked f also o)) (p f also o a c (closed x.response o a c h)),
    λ p f also o a c h. rw (asked_of valid x e is asked f also o) (p f also o a c (opened x.response o a c h)),
  ),
)
registrations_differ valid x registration.CredentialRegistered = (to_open x.response _, from_open x.response _)
registrations_differ valid x registration.TableFull = (λ p. p, λ p. p)
