-- From lines and groups of steps to the steps of a registration.
use Rattle.std.proofs.Common.{◌≡◌, ◌⊎◌, inl, inr, ℕ, List, [], ◌∷◌, ◌++◌, Some, None, refl, subst, sym, Bool, true, false, Contains, codes, ◌∙◌}
use Rattle.refusal_order.proofs.Laws.{each_joined, first_along, first_at, first_before, first_behind, first_image}
use Rattle.refusal_order.specs.Lines.{Each, FirstFailing}
use Rattle.clientdata.specs.declared.record.CeremonyType.TheVariants.{Create}
use Rattle.std.specs.Option.{ForSome}
use Rattle.cose.specs.Keys.{alg_of}
use Rattle.cose.specs.declared.key.CoseKey.{CoseKey}
use Rattle.authdata.specs.declared.profile.Profile.{Profile}
use Rattle.authdata.specs.declared.profile.Profile.TheVariants.{Level3, Open, Strict}
use Rattle.authdata.specs.Layout.{AuthenticatorData, AttestedCredential, AuthOf}
use Rattle.authdata.specs.Objects.{Attestation, ObjectOf}
use Rattle.authdata.specs.Statements.{IsKnownFormat, IsNone}
use Rattle.authdata.specs.declared.statement.AttestationType.{AttestationType}
use Rattle.authdata.specs.declared.statement.AttestationType.TheVariants as types
use Rattle.authdata.proofs.Objects.{one_object}
use Rattle.authdata.proofs.Unique.{one_value}
use Rattle.verification.specs.Records.{ExpectedRegistration}
use Rattle.cose.specs.Schemes.{Validity}
use Rattle.verification.specs.Shared.{FailsIn, IsFor, IsPresent, IsVerifiedAs, never}
use Rattle.verification.specs.Registration.{Attested, Attests, CountsAsNone, IsAccepted, IsFirstFailing, IsStated, JudgedRegistration, NeedsNoPresence}
use Rattle.verification.specs.Registration.{PassesRegistration, PassesRegistrationStep, attestation_steps, auth_data_steps, counted}
use Rattle.verification.specs.Registration.{client_data_steps, hash_in, response_steps, table_steps}
use Rattle.verification.specs.ClientData.{PassesClientDataStep, client_data_order}
use Rattle.verification.specs.RegistrationAnswers.{AcceptsAttestation, IsRefused, AttestsAs, AttestsAsNothing}
use Rattle.verification.specs.RegistrationAnswers.{IsVerifiedRegistration, step_of}
use Rattle.verification.specs.declared.client_data.ClientDataStep.{ClientDataStep}
use Rattle.verification.specs.declared.client_data.ClientDataStep.TheVariants as line
use Rattle.verification.specs.declared.refusal.VerificationError.{VerificationError}
use Rattle.verification.specs.declared.refusal.VerificationError.TheVariants as errors
use Rattle.verification.specs.declared.refusal.RegistrationRefusal.{RegistrationRefusal}
use Rattle.verification.specs.declared.refusal.RegistrationRefusal.TheVariants as step
use Rattle.verification.specs.Records.{AttestedRegistration}
use Rattle.verification.proofs.Steps.{of_some}

-- ---- client data

line_passes : (x : JudgedRegistration) (e : ExpectedRegistration) → x.session ≡ Some e → (l : ClientDataStep)
    → PassesClientDataStep Create e.challenge x.rp x.response.client_data l → PassesRegistrationStep never x (step_of l)
line_passes x e is line.Readable says = says
line_passes x e is line.Type says = says
line_passes x e is line.Challenge says = λ other other_is. let same : e ≡ other = cc in rw (sym same) says
line_passes x e is line.Origin says = says
line_passes x e is line.CrossOrigin says = says
line_passes x e is line.TopOrigin says = says
line_passes x e is line.TokenBinding says = says

line_says : (x : JudgedRegistration) (e : ExpectedRegistration) → x.session ≡ Some e → (l : ClientDataStep) → PassesRegistrationStep never x (step_of l)
    → PassesClientDataStep Create e.challenge x.rp x.response.client_data l
line_says x e is line.Readable passes = passes
line_says x e is line.Type passes = passes
line_says x e is line.Challenge passes = passes e is
line_says x e is line.Origin passes = passes
line_says x e is line.CrossOrigin passes = passes
line_says x e is line.TopOrigin passes = passes
line_says x e is line.TokenBinding passes = passes

pub client_data_fails : (x : JudgedRegistration) (e : ExpectedRegistration) (l : ClientDataStep) → x.session ≡ Some e
    → FirstFailing (PassesClientDataStep Create e.challenge x.rp x.response.client_data) client_data_order l
    → FirstFailing (PassesRegistrationStep never x) client_data_steps (step_of l)
client_data_fails x e l is first =
    let open_session : PassesRegistrationStep never x step.SessionNotOpen = rw is refl in
    first_behind (step.SessionNotOpen ∷ []) (open_session, tt)
    (first_image step_of (line_passes x e is) (λ m other passes. other (line_says x e is m passes)) first)

-- ---- what is attested

-- the response attests just one credential
one_attested : (x : JudgedRegistration) (o p : Attestation) (a b : AuthenticatorData) (c d : AttestedCredential) → Attests x.rp.profile x.response o a c
    → Attests x.rp.profile x.response p b d
    → (o ≡ p) × (a ≡ b) × (c ≡ d)
one_attested x o p a b c d h k =
    let objects : o ≡ p = one_object o p x.response.object h.object k.object in
    let here : AuthOf x.rp.profile a p.auth_data = subst (λ (q : Attestation). AuthOf x.rp.profile a q.auth_data) objects h.auth_data in
    let readings : a ≡ b = one_value x.rp.profile x.rp.profile a b p.auth_data here k.auth_data in
    let first : a.attested ≡ Some c = h.attested in
    let second : b.attested ≡ Some d = k.attested in
    (objects, readings, cc)

module _ (x : JudgedRegistration) (o : Attestation) (a : AuthenticatorData) (c : AttestedCredential) (h : Attests x.rp.profile x.response o a c) where
  -- what holds of it holds of whatever the response attests
  pub of_attested : (P : Attestation → AuthenticatorData → AttestedCredential → Type 0) → P o a c → Attested x.rp.profile x.response P
  of_attested P p = λ q b d k.
      let same = one_attested x o q a b c d h k in
      subst (λ (e : AttestedCredential). P q b e) same.2 (subst (λ (e : AuthenticatorData). P q e c) same.1 (subst (λ (e : Attestation). P e a c) same.0 p))

  pub found : PassesRegistrationStep never x step.BadAttestationObject
  found = (o, a, c, h)

  pub wrong_party : (IsFor x.rp a → ⊥) → FirstFailing (PassesRegistrationStep never x) auth_data_steps step.WrongRelyingParty
  wrong_party other = first_at 1 refl (found, tt) (λ passes. other (passes o a c h))

  module _ (party : IsFor x.rp a) where
    for_party : PassesRegistrationStep never x step.WrongRelyingParty
    for_party = of_attested (λ q b d. IsFor x.rp b) party

    module _ (e : ExpectedRegistration) (is : x.session ≡ Some e) where
      abbrev PresentFor : ExpectedRegistration → Type 0
      PresentFor f = Attested x.rp.profile x.response (λ q b d. IsPresent b ⊎ NeedsNoPresence x.rp.profile f)

      pub not_present : (IsPresent a ⊎ NeedsNoPresence x.rp.profile e → ⊥)
          → FirstFailing (PassesRegistrationStep never x) auth_data_steps step.UserNotPresent
      not_present absent = first_at 2 refl (found, (for_party, tt)) (λ passes. absent (passes e is o a c h))

      module _ (present : IsPresent a ⊎ NeedsNoPresence x.rp.profile e) where
        is_present : PassesRegistrationStep never x step.UserNotPresent
        is_present = of_some PresentFor x.session e is (of_attested (λ q b d. IsPresent b ⊎ NeedsNoPresence x.rp.profile e) present)

        pub not_verified : (IsVerifiedAs e.uv a → ⊥) → FirstFailing (PassesRegistrationStep never x) auth_data_steps step.UserNotVerified
        not_verified unverified = first_at 3 refl (found, (for_party, (is_present, tt))) (λ passes. unverified (passes e is o a c h))

        module _ (verified : IsVerifiedAs e.uv a) where
          abbrev Verified : ExpectedRegistration → Type 0
          Verified f = Attested x.rp.profile x.response (λ q b d. IsVerifiedAs f.uv b)

          is_verified : PassesRegistrationStep never x step.UserNotVerified
          is_verified = of_some Verified x.session e is (of_attested (λ q b d. IsVerifiedAs e.uv b) verified)

          pub not_offered : (Contains e.algorithms (alg_of c.key) → ⊥) → FirstFailing (PassesRegistrationStep never x) auth_data_steps step.AlgorithmNotOffered
          not_offered other = first_at 4 refl (found, (for_party, (is_present, (is_verified, tt)))) (λ passes. other (passes e is o a c h))

          module _ (offered : Contains e.algorithms (alg_of c.key)) where
            abbrev Offered : ExpectedRegistration → Type 0
            Offered f = Attested x.rp.profile x.response (λ q b d. Contains f.algorithms (alg_of d.key))

            is_offered : PassesRegistrationStep never x step.AlgorithmNotOffered
            is_offered = of_some Offered x.session e is (of_attested (λ q b d. Contains e.algorithms (alg_of d.key)) offered)

            pub not_named : (ForSome x.response.raw_id (λ raw_id. raw_id ≡ c.id) → ⊥)
                → FirstFailing (PassesRegistrationStep never x) auth_data_steps step.OtherId
            not_named other = first_at 5 refl (found, (for_party, (is_present, (is_verified, (is_offered, tt)))))
                (λ passes. other (λ raw_id named. passes raw_id named o a c h))

            pub data_passes : ForSome x.response.raw_id (λ raw_id. raw_id ≡ c.id) → Each (PassesRegistrationStep never x) auth_data_steps
            data_passes named = (
              found,
              (
                for_party,
                (
                  is_present,
                  (
                    is_verified,
                    (is_offered, ((λ raw_id there. of_attested (λ q b d. raw_id ≡ d.id) (named raw_id there)), tt)),
                  ),
                ),
              ),
            )

-- bytes that are no object fail at the object
pub no_object : (x : JudgedRegistration) → ((o : Attestation) → ObjectOf o x.response.object → ⊥)
    → FirstFailing (PassesRegistrationStep never x) auth_data_steps step.BadAttestationObject
no_object x none = first_at 0 refl tt (λ passes. none passes.0 passes.3.object)

-- so does an object whose authenticator data attest nothing
pub no_credential : (x : JudgedRegistration) (o : Attestation) → ObjectOf o x.response.object
    → ((a : AuthenticatorData) (c : AttestedCredential) → AuthOf x.rp.profile a o.auth_data → a.attested ≡ Some c → ⊥)
    → FirstFailing (PassesRegistrationStep never x) auth_data_steps step.BadAttestationObject
no_credential x o spelled none = first_at 0 refl tt (λ passes.
    let same : passes.0 ≡ o = one_object passes.0 o x.response.object passes.3.object spelled in
    none passes.1 passes.2 (subst (λ (q : Attestation). AuthOf x.rp.profile passes.1 q.auth_data) same passes.3.auth_data) passes.3.attested)

-- authenticator data that attest nothing attest no credential
pub bare : (p : Profile) (a : AuthenticatorData) (bs : List ℕ) → AuthOf p a bs → a.attested ≡ None
    → (b : AuthenticatorData) (c : AttestedCredential) → AuthOf p b bs → b.attested ≡ Some c → ⊥
bare p a bs read none b c other some = let same : a ≡ b = one_value p p a b bs read other in cc

-- ---- the attestation

-- no statement is of both formats
two_formats : (fmt : List ℕ) → fmt ≡ codes "none" → fmt ≡ codes "packed" → ⊥
two_formats fmt none packed = let same : codes "none" ≡ codes "packed" = sym none ∙ packed in cc

-- what counts as the object: one with no attestation, where none was asked for, and else the object
pub counted_none : (p : Profile) (asked : Bool) (o : Attestation) → CountsAsNone p asked → IsNone (counted p asked o)
counted_none p asked o unasked = rw (unasked.0, unasked.1) (refl, refl)

pub counted_whole : (p : Profile) (asked : Bool) (o : Attestation) → (CountsAsNone p asked → ⊥) → counted p asked o ≡ o
counted_whole Strict asked o any = refl
counted_whole Open asked o any = refl
counted_whole Level3 true o any = refl
counted_whole Level3 false o any = absurd (any (refl, refl))

module _ (valid : Validity) (x : JudgedRegistration) (o : Attestation) (a : AuthenticatorData) (c : AttestedCredential)
    (h : Attests x.rp.profile x.response o a c) (e : ExpectedRegistration) (is : x.session ≡ Some e) where
  abbrev count : ExpectedRegistration → Attestation → Attestation
  count f q = counted x.rp.profile f.attestation q

  abbrev ShownAs : AttestationType → Type 0
  ShownAs kind = AttestsAs valid (count e o) c.key (hash_in x.response) kind

  -- what holds of the object as it counts is what a step on it asks
  of_counted : (P : Attestation → CoseKey → Type 0) → P (count e o) c.key
      → ForSome x.session (λ f. Attested x.rp.profile x.response (λ q b d. P (count f q) d.key))
  of_counted P p = of_some (λ (f : ExpectedRegistration). Attested x.rp.profile x.response (λ q b d. P (count f q) d.key)) x.session e is
      (of_attested x o a c h (λ q b d. P (count e q) d.key) p)

  known : (kind : AttestationType) → ShownAs kind → PassesRegistrationStep valid x step.UnknownFormat
  known types.None shown = of_counted (λ q key. IsKnownFormat q.fmt) (inl shown.0)
  known types.SelfSigned shown = of_counted (λ q key. IsKnownFormat q.fmt) (inr shown.0)

  stated : (kind : AttestationType) → ShownAs kind → PassesRegistrationStep valid x step.BadStatement
  stated types.None shown = of_counted (λ q key. IsStated valid q key (hash_in x.response)) (inl shown)
  stated types.SelfSigned shown = of_counted (λ q key. IsStated valid q key (hash_in x.response)) (inr shown)

  pub statement_fails : (w : RegistrationRefusal) → AttestsAsNothing valid (count e o) c.key (hash_in x.response) w
      → FirstFailing (PassesRegistrationStep valid x) attestation_steps w
  statement_fails step.UnknownFormat none = first_at 0 refl tt (λ passes. none (passes e is o a c h))
  statement_fails step.BadStatement none =
      first_at 1 refl (of_counted (λ q key. IsKnownFormat q.fmt) none.0, tt)
      (λ passes. elim (passes e is o a c h) [ inl p ↦ none.1 p | inr p ↦ none.2 p ])
  statement_fails w none = absurd none

  pub not_accepted : (kind : AttestationType) → ShownAs kind → (AcceptsAttestation x.policy kind → ⊥)
      → FirstFailing (PassesRegistrationStep valid x) attestation_steps step.AttestationNotAccepted
  not_accepted types.None shown other =
      first_at 2 refl (known types.None shown, (stated types.None shown, tt)) (λ passes. other ((passes e is o a c h).0 shown))
  not_accepted types.SelfSigned shown other =
      first_at 2 refl (known types.SelfSigned shown, (stated types.SelfSigned shown, tt)) (λ passes. other ((passes e is o a c h).1 shown))

  accepted_as : (kind : AttestationType) → ShownAs kind → AcceptsAttestation x.policy kind
      → IsAccepted valid x.policy (count e o) c.key (hash_in x.response)
  accepted_as types.None shown accepts = (λ none. accepts, λ self. absurd (two_formats (count e o).fmt shown.0 self.0))
  accepted_as types.SelfSigned shown accepts = (λ none. absurd (two_formats (count e o).fmt none.0 shown.0), λ self. accepts)

  pub attestation_passes : (kind : AttestationType) → ShownAs kind → AcceptsAttestation x.policy kind → Each (PassesRegistrationStep valid x) attestation_steps
  attestation_passes kind shown accepts = (
    known kind shown,
    (stated kind shown, (of_counted (λ q key. IsAccepted valid x.policy q key (hash_in x.response)) (accepted_as kind shown accepts), tt)),
  )

-- ---- the groups joined

-- the same registration before another table
abbrev before : JudgedRegistration → (List ℕ → Bool) → Bool → JudgedRegistration
before x is_registered is_full = record {
  rp = x.rp;
  policy = x.policy;
  session = x.session;
  response = x.response;
  is_registered = is_registered;
  is_full = is_full;
}

-- a step says the same for both
abbrev Same : Validity → JudgedRegistration → Validity → JudgedRegistration → RegistrationRefusal → Type 0
Same valid x other y w = (PassesRegistrationStep valid x w → PassesRegistrationStep other y w)
    × ((PassesRegistrationStep valid x w → ⊥) → PassesRegistrationStep other y w → ⊥)

module _ (valid : Validity) (x : JudgedRegistration) (is_registered : List ℕ → Bool) (is_full : Bool) where
  client_same : Each (Same never x valid (before x is_registered is_full)) client_data_steps
  client_same = (
    (λ h. h, λ h. h),
    (
      (λ h. h, λ h. h),
      (
        (λ h. h, λ h. h),
        (
          (λ h. h, λ h. h),
          (
            (λ h. h, λ h. h),
            (
              (λ h. h, λ h. h),
              ((λ h. h, λ h. h), ((λ h. h, λ h. h), tt)),
            ),
          ),
        ),
      ),
    ),
  )

  data_same : Each (Same never x valid (before x is_registered is_full)) auth_data_steps
  data_same = ((λ h. h, λ h. h), ((λ h. h, λ h. h), ((λ h. h, λ h. h), ((λ h. h, λ h. h), ((λ h. h, λ h. h), ((λ h. h, λ h. h), tt))))))

  attestation_same : Each (Same valid x valid (before x is_registered is_full)) attestation_steps
  attestation_same = ((λ h. h, λ h. h), ((λ h. h, λ h. h), ((λ h. h, λ h. h), tt)))

  pub client_fails : (e : VerificationError RegistrationRefusal) → FailsIn (PassesRegistrationStep never x) client_data_steps e
      → IsRefused valid (before x is_registered is_full) e
  client_fails (errors.Refused w) first = first_before table_steps (first_before (auth_data_steps ++ attestation_steps) (first_along client_same first))
  client_fails errors.Memory first = tt

  pub data_fails : Each (PassesRegistrationStep never x) client_data_steps → (e : VerificationError RegistrationRefusal)
      → FailsIn (PassesRegistrationStep never x) auth_data_steps e
      → IsRefused valid (before x is_registered is_full) e
  data_fails a (errors.Refused w) first =
      first_before table_steps (first_behind client_data_steps a (first_before attestation_steps (first_along data_same first)))
  data_fails a errors.Memory first = tt

  pub attestation_fails : Each (PassesRegistrationStep never x) client_data_steps → Each (PassesRegistrationStep never x) auth_data_steps
      → (w : RegistrationRefusal)
      → FirstFailing (PassesRegistrationStep valid x) attestation_steps w → IsRefused valid (before x is_registered is_full) (errors.Refused w)
  attestation_fails a b w first =
      first_before table_steps (first_behind client_data_steps a (first_behind auth_data_steps b (first_along attestation_same first)))

  pub response_passes : Each (PassesRegistrationStep never x) client_data_steps → Each (PassesRegistrationStep never x) auth_data_steps
      → Each (PassesRegistrationStep valid x) attestation_steps
      → Each (PassesRegistrationStep valid (before x is_registered is_full)) response_steps
  response_passes a b c =
      each_joined (PassesRegistrationStep valid (before x is_registered is_full)) client_data_steps (auth_data_steps ++ attestation_steps) a
      (each_joined (PassesRegistrationStep valid (before x is_registered is_full)) auth_data_steps attestation_steps b c)

-- ---- the table

module _ (x : JudgedRegistration) (v : AttestedRegistration) (tells : IsVerifiedRegistration x v) where
  -- the table says this of the credential
  abbrev IsSaid : Bool → Attestation → AuthenticatorData → AttestedCredential → Type 0
  IsSaid said q b d = x.is_registered d.id ≡ said

  of_id : (said : Bool) → x.is_registered v.credential.id ≡ said → Attested x.rp.profile x.response (IsSaid said)
  of_id said e = of_attested x tells.0 v.auth_data v.credential tells.1 (IsSaid said) e

  pub registered : x.is_registered v.credential.id ≡ true → FirstFailing (PassesRegistrationStep never x) table_steps step.CredentialRegistered
  registered e = first_at 0 refl tt (λ passes. let no_one = passes tells.0 v.auth_data v.credential tells.1 in absurd cc)

  pub full : x.is_registered v.credential.id ≡ false → x.is_full ≡ true → FirstFailing (PassesRegistrationStep never x) table_steps step.TableFull
  full e f = first_at 1 refl (of_id false e, tt) (λ passes. absurd cc)

  pub admitted : x.is_registered v.credential.id ≡ false → x.is_full ≡ false → Each (PassesRegistrationStep never x) table_steps
  admitted e f = (of_id false e, (f, tt))

-- the steps on the table do not look at signatures
table_same : (valid : Validity) (x : JudgedRegistration) → Each (Same never x valid x) table_steps
table_same valid x = ((λ h. h, λ h. h), ((λ h. h, λ h. h), tt))

pub table_fails : (valid : Validity) (x : JudgedRegistration) (w : RegistrationRefusal) → Each (PassesRegistrationStep valid x) response_steps
    → FirstFailing (PassesRegistrationStep never x) table_steps w → IsFirstFailing valid x w
table_fails valid x w passes first = first_behind response_steps passes (first_along (table_same valid x) first)

pub all_pass : (valid : Validity) (x : JudgedRegistration) → Each (PassesRegistrationStep valid x) response_steps
    → Each (PassesRegistrationStep never x) table_steps → PassesRegistration valid x
all_pass valid x passes table = each_joined (PassesRegistrationStep valid x) response_steps table_steps passes table
