-- A site accepts a registration, and a sign-in.
use Rattle.std.proofs.Common.{◌≡◌, ◌<◌, ◌+◌, ◌^◌, ◌⊎◌, ◌++◌, ℕ, List, [], ◌∷◌, Bool, true, false, None, Some, refl, sym, ◌∙◌, ap, inr, Contains, IsUtf8, is_some}
use Rattle.clientdata.specs.Serialised.{client_data_text}
use Rattle.clientdata.specs.declared.record.CeremonyType.TheVariants.{Create, Get}
use Rattle.cose.specs.Bench.{bench_public, bench_valid}
use Rattle.cose.specs.declared.key.Alg.TheVariants as algs
use Rattle.authdata.specs.declared.statement.AttestationType.{AttestationType}
use Rattle.authdata.specs.Flags.{is_set, BE}
use Rattle.authdata.specs.Layout.{AuthOf}
use Rattle.authdata.specs.Responses.{AuthenticatorAssertionResponse, AuthenticatorAttestationResponse}
use Rattle.ctap_replies.specs.Replies.{Creation}
use Rattle.verification.specs.Records.{ExpectedRegistration, ExpectedSignIn}
use Rattle.verification.specs.Registration.{Attests, JudgedRegistration}
use Rattle.verification.specs.RegistrationAnswers.{AcceptsAttestation}
use Rattle.verification.specs.SignIn.{AreUser, PassesSignIn}
use Rattle.verification.proofs.Expected.{expected_says}
use Rattle.site_state.specs.Sessions.{closed, registration_at, sign_in_at}
use Rattle.site_state.specs.Table.{row_of, signed_in, with_row}
use Rattle.site.specs.State.{SiteState, judged_registration, judged_sign_in, registered}
use Rattle.authenticator.specs.Steps.{up_bit, uv_bit}
use Rattle.client.specs.Responses.{object_of, response_of}
use Rattle.ceremony.specs.Registration as registration
use Rattle.ceremony.proofs.Objects.{has_object}
use Rattle.agreement.specs.Below.{Below}
use Rattle.agreement.specs.Honest.{counts_as}
use Rattle.agreement.specs.Lived.{attested_by}
use Rattle.agreement.specs.World.{Registers, SignsIn, SiteActs, with_room}
use Rattle.agreement.proofs.Registering.{stated_as}
use Rattle.agreement.proofs.RegistrationSteps.{MeetsSteps, meets_steps}
use Rattle.agreement.proofs.SigningIn.{Signs, signs}
use Rattle.shown_runs.proofs.Answering.{bits, shown, signed, signed_bytes, signed_spelled}
use Rattle.shown_runs.proofs.Making.{attested, attested_bytes, attested_spelled, attesting, creation, creation_bytes, creation_spelled, states}
use Rattle.shown_runs.proofs.Values.{credential, filled, key, row}
use Rattle.shown_runs.proofs.Values as given

-- ---- client data, responses, and the site afterwards

abbrev pub creating_text : List ℕ → List ℕ → List ℕ
creating_text page challenge = client_data_text Create challenge page false

abbrev pub getting_text : List ℕ → List ℕ → List ℕ
getting_text page challenge = client_data_text Get challenge page false

abbrev pub created : AttestationType → List ℕ → ℕ → List ℕ → AuthenticatorAttestationResponse
created attest rp_id n text = registration.response (creation attest rp_id n text) text

abbrev pub got : List ℕ → ℕ → ℕ → Bool → List ℕ → AuthenticatorAssertionResponse
got rp_id n count uv text = response_of (shown rp_id n count uv text None) text

abbrev pub after_registration : SiteState → ℕ → ExpectedRegistration → ℕ → SiteState
after_registration s session e n =
    record s { rows = s.rows ++ registered e (attested s.rp.rp_id n) (credential n) ∷ []; sessions = closed session s.sessions }

abbrev pub after_sign_in : SiteState → ℕ → ℕ → ℕ → Bool → SiteState
after_sign_in s session n count uv =
    record s { rows = with_row (filled n) (signed_in count (is_set (up_bit true + uv_bit uv) BE)) s.rows; sessions = closed session s.sessions }

module _ (b : Below bench_valid bench_public) (s : SiteState) (session : ℕ) (page : List ℕ) (there : Contains s.rp.origins page) (page_text : IsUtf8 page) where
  -- ---- a registration of credential n

  module _ (e : ExpectedRegistration) (attest : AttestationType) (n : ℕ) (is_open : registration_at session s.sessions ≡ Some e)
      (offers : Contains e.algorithms algs.EdDsa) (unverified : e.uv ≡ false) (new : row_of (filled n) s.rows ≡ None)
      (accepts : AcceptsAttestation s.policy (counts_as s.rp.profile e.attestation attest)) where
    abbrev text : List ℕ
    text = creating_text page e.challenge

    abbrev made : Creation
    made = creation attest s.rp.rp_id n text

    abbrev judged : JudgedRegistration
    judged = with_room (judged_registration s session (created attest s.rp.rp_id n text))

    pub attests : Attests s.rp.profile (created attest s.rp.rp_id n text) (object_of made) (attested s.rp.rp_id n) (credential n)
    attests = record {
      object = has_object made (creation_bytes attest s.rp.rp_id n text) (creation_spelled attest s.rp.rp_id n text);
      auth_data = b.readings.taken s.rp.profile (attested s.rp.rp_id n) (attested_bytes s.rp.rp_id n) (attested_spelled s.rp.rp_id n);
      attested = refl;
    }

    meets : MeetsSteps b.readings bench_valid judged e (object_of made) (attested s.rp.rp_id n) (credential n)
    meets =
        let says_how = stated_as bench_valid s.policy s.rp.profile e.attestation attest (key n) _ given.consent made
        (attested_by attest (attesting s.rp.rp_id n text)) accepts (states attest s.rp.rp_id n text) in
        record {
          is_open = is_open;
          says = expected_says Create e.challenge text s.rp (page, false, λ _. refl, there, page_text, refl);
          attests = attests;
          party = refl;
          present = refl;
          verified = λ is. let bad : false ≡ true = sym unverified ∙ is in absurd cc;
          offered = offers;
          named = λ raw_id is. absurd cc;
          known = says_how.known;
          statement = says_how.statement;
          accepted = says_how.accepted;
          not_registered = ap is_some new;
          not_full = refl;
        }

    pub registers : SiteActs bench_valid s (Registers session (created attest s.rp.rp_id n text)) (after_registration s session e n)
    registers = (
      meets_steps b.readings bench_valid judged e (object_of made) (attested s.rp.rp_id n) (credential n) meets,
      (e, object_of made, attested s.rp.rp_id n, credential n, is_open, attests, refl),
    )

  -- ---- a sign-in by credential n

  module _ (e : ExpectedSignIn) (n seen count : ℕ) (uv : Bool) (is_open : sign_in_at session s.sessions ≡ Some e)
      (found : row_of (filled n) s.rows ≡ Some (row n seen)) (allowed : (e.allow ≡ []) ⊎ Contains e.allow (filled n))
      (user : AreUser e.user (Some (n ∷ [])) (n ∷ [])) (asks : e.uv ≡ true → uv ≡ true) (less : seen < count) (low : count < 2 ^ 32) where
    abbrev get_text : List ℕ
    get_text = getting_text page e.challenge

    abbrev response : AuthenticatorAssertionResponse
    response = got s.rp.rp_id n count uv get_text

    spelled : AuthOf s.rp.profile (signed s.rp.rp_id count uv) (signed_bytes s.rp.rp_id count uv)
    spelled = b.readings.taken s.rp.profile (signed s.rp.rp_id count uv) (signed_bytes s.rp.rp_id count uv) (signed_spelled s.rp.rp_id count uv low)

    meets_all : Signs b.readings bench_valid (judged_sign_in s session response) e (row n seen) (signed s.rp.rp_id count uv)
    meets_all = record {
      is_open = is_open;
      registered = found;
      allowed = allowed;
      same_id = refl;
      not_retired = refl;
      user = user;
      says = expected_says Get e.challenge get_text s.rp (page, false, λ _. refl, there, page_text, refl);
      spelled = spelled;
      bare = (bits uv).bare;
      party = refl;
      present = (bits uv).present;
      verified = λ is. (bits uv).verified (asks is);
      signature = refl;
      counted = inr less;
      eligible = λ known is. let same : false ≡ known = cc in (bits uv).eligible ∙ same;
    }

    pub passes : PassesSignIn bench_valid (judged_sign_in s session response)
    passes = signs b.readings bench_valid (judged_sign_in s session response) e (row n seen) (signed s.rp.rp_id count uv) meets_all

    pub signs_in : SiteActs bench_valid s (SignsIn session response) (after_sign_in s session n count uv)
    signs_in = (passes, (signed s.rp.rp_id count uv, spelled, refl))
