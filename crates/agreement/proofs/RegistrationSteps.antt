-- A response passes each step of a registration.
use Rattle.std.proofs.Common.{◌≡◌, inl, false, Some, refl, sym, ◌∙◌, ap, subst, get_or, Contains}
use Rattle.refusal_order.specs.Lines.{Each}
use Rattle.clientdata.specs.declared.record.CeremonyType.TheVariants.{Create}
use Rattle.cose.specs.Keys.{alg_of}
use Rattle.authdata.specs.declared.profile.Profile.{Profile}
use Rattle.authdata.specs.Layout.{AttestedCredential, AuthenticatorData, AuthOf}
use Rattle.authdata.specs.Objects.{Attestation}
use Rattle.authdata.specs.Responses as responses
use Rattle.authdata.specs.Statements.{IsKnownFormat}
use Rattle.verification.specs.ClientData.{PassesClientDataStep, client_data_order}
use Rattle.verification.specs.Records.{ExpectedRegistration}
use Rattle.verification.specs.Registration.{Attested, Attests, IsAccepted, IsStated, JudgedRegistration, PassesRegistrationStep, PassesRegistration, counted, hash_in, steps}
use Rattle.verification.specs.declared.refusal.RegistrationRefusal.{RegistrationRefusal}
use Rattle.verification.specs.declared.refusal.RegistrationRefusal.TheVariants as step
use Rattle.std.specs.Option.{ForSome}
use Rattle.std.proofs.lemmas.List.Elements.{recursion_from_All}
use Rattle.cose.specs.Schemes.{Validity}
use Rattle.verification.specs.Shared.{IsFor, IsPresent, IsVerifiedAs}
use Rattle.verification.proofs.Steps.{of_some}
use Rattle.agreement.specs.Below.{Readings}

-- at most one object, one authenticator's data and one credential are attested
pub record Same (o p : Attestation) (a b : AuthenticatorData) (c d : AttestedCredential) : Type 0 where
  pub object : o ≡ p
  pub auth_data : a ≡ b
  pub credential : c ≡ d

pub one_attested : Readings → (q : Profile) (r : responses.AuthenticatorAttestationResponse) (o p : Attestation) (a b : AuthenticatorData)
    (c d : AttestedCredential)
    → Attests q r o a c → Attests q r p b d → Same o p a b c d
one_attested readings q r o p a b c d x y =
    let object = readings.one_object o p r.object x.object y.object in
    let auth = readings.one_value q q a b p.auth_data (subst (λ (z : Attestation). AuthOf q a z.auth_data) object x.auth_data) y.auth_data in
    let some : Some c ≡ Some d = sym x.attested ∙ ap (λ (e : AuthenticatorData). e.attested) auth ∙ y.attested in
    record { object = object; auth_data = auth; credential = cc }

module _ (readings : Readings) (valid : Validity) (x : JudgedRegistration) (e : ExpectedRegistration) (o : Attestation) (a : AuthenticatorData)
    (c : AttestedCredential) where
  -- what holds of what the response attests
  all : (P : Attestation → AuthenticatorData → AttestedCredential → Type 0) → Attests x.rp.profile x.response o a c → P o a c
      → Attested x.rp.profile x.response P
  all P is h p b d other =
      let same = one_attested readings x.rp.profile x.response o p a b c d is other in
      subst (λ (k : AttestedCredential). P p b k) same.credential
      (subst (λ (k : AuthenticatorData). P p k c) same.auth_data (subst (λ (k : Attestation). P k a c) same.object h))

  pub record MeetsSteps : Type 0 where
    pub is_open : x.session ≡ Some e
    pub says : Each (PassesClientDataStep Create e.challenge x.rp x.response.client_data) client_data_order
    pub attests : Attests x.rp.profile x.response o a c
    pub party : IsFor x.rp a
    pub present : IsPresent a
    pub verified : IsVerifiedAs e.uv a
    pub offered : Contains e.algorithms (alg_of c.key)
    pub named : ForSome x.response.raw_id (λ raw_id. raw_id ≡ c.id)
    pub known : IsKnownFormat (counted x.rp.profile e.attestation o).fmt
    pub statement : IsStated valid (counted x.rp.profile e.attestation o) c.key (hash_in x.response)
    pub accepted : IsAccepted valid x.policy (counted x.rp.profile e.attestation o) c.key (hash_in x.response)
    pub not_registered : x.is_registered c.id ≡ false
    pub not_full : x.is_full ≡ false

  passed : MeetsSteps → (w : RegistrationRefusal) → PassesRegistrationStep valid x w
  passed h step.SessionNotOpen = rw h.is_open refl
  passed h step.UnreadableClientData = h.says.0
  passed h step.WrongType = h.says.1.0
  passed h step.WrongChallenge = of_some _ x.session e h.is_open h.says.1.1.0
  passed h step.WrongOrigin = h.says.1.1.1.0
  passed h step.CrossOrigin = h.says.1.1.1.1.0
  passed h step.WrongTopOrigin = h.says.1.1.1.1.1.0
  passed h step.TokenBinding = h.says.1.1.1.1.1.1.0
  passed h step.BadAttestationObject = (o, a, c, h.attests)
  passed h step.WrongRelyingParty = all _ h.attests h.party
  passed h step.UserNotPresent = of_some _ x.session e h.is_open (all _ h.attests (inl h.present))
  passed h step.UserNotVerified = of_some _ x.session e h.is_open (all _ h.attests h.verified)
  passed h step.AlgorithmNotOffered = of_some _ x.session e h.is_open (all _ h.attests h.offered)
  passed h step.OtherId = λ raw_id is. all _ h.attests (h.named raw_id is)
  passed h step.UnknownFormat = of_some _ x.session e h.is_open (all _ h.attests h.known)
  passed h step.BadStatement = of_some _ x.session e h.is_open (all _ h.attests h.statement)
  passed h step.AttestationNotAccepted = of_some _ x.session e h.is_open (all _ h.attests h.accepted)
  passed h step.CredentialRegistered = all _ h.attests h.not_registered
  passed h step.TableFull = h.not_full

  pub meets_steps : MeetsSteps → PassesRegistration valid x
  meets_steps h = recursion_from_All (PassesRegistrationStep valid x) steps (λ k w lt. passed h (get_or steps k w))
