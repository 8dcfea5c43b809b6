-- The responses of the run that is written out, as a site over a store judges them.
use Rattle.std.proofs.Common.{◌≡◌, ◌<◌, ◌^◌, inl, inr, ℕ, Bool, true, false, List, [], ◌∷◌, length, codes, refl, sym, ap, ◌∙◌, subst, arith}
use Rattle.std.proofs.lemmas.Option.{same_Some}
use Rattle.std.proofs.lemmas.Slice.Eq.{bytes_eq-Decides}
use native.Mathlib.Nat.{le_refl}
use denote.RawPtr.{null_ptr}
use Rattle.std.specs.Global.{Global, Vec}
use Rattle.std.specs.Prelude.{IsUtf8, None, Some, String, if◌then◌else◌}
use Rattle.std.specs.Str.{bytes_eq}
use Rattle.sha2.proofs.Facts256.{length-sha256}
use Rattle.cose.specs.Bench.{bench_keeps_alg, bench_public, bench_valid}
use Rattle.ctap_replies.proofs.Texts.{plain}
use Rattle.authdata.specs.Flags.{is_set, BE}
use Rattle.authdata.specs.Layout.{AttestedCredential, AuthenticatorData, AuthOf}
use Rattle.authdata.specs.Objects.{Attestation}
use Rattle.authdata.specs.Statements.{IsKnownFormat}
use Rattle.authdata.specs.Responses as responses
use Rattle.verification.specs.Records.{Credential, ExpectedRegistration, ExpectedSignIn}
use Rattle.verification.specs.Registration.{Attests, JudgedRegistration, PassesRegistration}
use Rattle.verification.specs.SignIn.{JudgedSignIn, PassesSignIn}
use Rattle.site_rows.specs.Rows.{IsStored}
use Rattle.site_state.specs.RowViews.{row_view}
use Rattle.site_state.specs.Table.{retired, row_of, signed_in}
use Rattle.site_state.specs.Sessions.{registration_at, sign_in_at}
use Rattle.site.specs.State as site
use Rattle.site_stored.specs.Summaries.{Summarises}
use Rattle.site_stored.specs.declared.finish.SignedIn.{SignedIn}
use Rattle.site_stored.specs.declared.registration.Registered.{Registered}
use Rattle.agreement.specs.Agreement.{WasSigned, message_of}
use Rattle.agreement.specs.Below.{Below}
use Rattle.agreement.specs.Lived.{with_holder}
use Rattle.agreement.specs.World.{Done, Event, EventEffect, World}
use Rattle.agreement.proofs.Everything as everything
use Rattle.agreement.proofs.Given as given
use Rattle.agreement.proofs.OneRun as one
use Rattle.agreement.proofs.OneStep as step

-- the credential that is registered
abbrev pub new_row : Credential
new_row = record { id = given.zeros; user = given.user; key = step.key; sign_count = 0; eligible = Some false; retired = false }

pub stored_new : IsStored new_row
stored_new = record { key = length-sha256 given.zeros; sign_count = omega arith }

-- the one row of a list is the one that is found
only_row : (id : List ℕ) (c d : Credential) → row_of id (c ∷ []) ≡ Some d → (c ≡ d) × (bytes_eq id c.id ≡ true)
only_row id c d is = go (bytes_eq id c.id) refl
  where
    go : (b : Bool) → bytes_eq id c.id ≡ b → (c ≡ d) × (bytes_eq id c.id ≡ true)
    go true t = (same_Some c d (sym (ap (λ x. if x then Some c else None) t) ∙ is), t)
    go false t = let no : None ≡ Some d = sym (ap (λ x. if x then Some c else None) t) ∙ is in absurd cc

same_bytes : (x y : List ℕ) → bytes_eq x y ≡ true → x ≡ y
same_bytes x y t = (bytes_eq-Decides x y).0 t

abbrev head_row : Credential → List Credential → Credential
head_row none [] = none
head_row none (c ∷ cs) = c

-- ---- values of the program

abbrev vec : (bs : List ℕ) → length bs < 2 ^ 63 → Vec ℕ
vec bs small = record { ptr = null_ptr; len = length bs; cap = length bs; alloc = record { memory = record { seal = tt } }; items = bs; ok = (refl, le_refl (length bs)); small = small }

abbrev text : (bs : List ℕ) → IsUtf8 bs → length bs < 2 ^ 63 → String Global
text bs is small = record { bytes = vec bs small; ok = ∣ is ∣₁ }

module _ (b : Below bench_valid bench_public) where
  -- ---- a registration

  abbrev pub created : responses.AuthenticatorAttestationResponse
  created = (everything.by_response bench_valid bench_public b bench_keeps_alg (one.run b) (one.honest b) (one.place b) (one.takes_place b)).0

  abbrev pub expected : ExpectedRegistration
  expected = (one.registering b).expected

  expects : registration_at 1 (one.registering b).site.sessions ≡ Some expected
  expects = (one.honest b).honest_registration.is_open

  -- what was read of it
  pub record NewReading : Type 0 where
    pub object : Attestation
    pub auth : AuthenticatorData
    pub credential : AttestedCredential
    pub attests : Attests one.at_first.rp.profile created object auth credential
    pub row : site.registered expected auth credential ≡ new_row

  pub reads : NewReading
  reads =
      let after = (everything.by_response bench_valid bench_public b bench_keeps_alg (one.run b) (one.honest b) (one.place b) (one.takes_place b)).1.after in
      let e : expected ≡ after.0 = same_Some expected after.0 (sym expects ∙ after.4) in
      record {
        object = after.1;
        auth = after.2;
        credential = after.3;
        attests = after.5;
        row = ap (λ (x : ExpectedRegistration). site.registered x after.2 after.3) e ∙ ap (head_row new_row) (ap (λ (s : site.SiteState). s.rows) (sym after.6));
      }

  pub passes_new : (ids : List ℕ → Bool) → ((id : List ℕ) → ids id ≡ false) → PassesRegistration bench_valid
      (record { rp = one.at_first.rp; policy = one.at_first.policy; session = Some expected; response = created; is_registered = ids; is_full = false })
  passes_new ids none =
      subst (λ (x : JudgedRegistration). PassesRegistration bench_valid x)
      (λ k. record {
        rp = one.at_first.rp;
        policy = one.at_first.policy;
        session = expects k;
        response = created;
        is_registered = λ id. sym (none id) k;
        is_full = false;
      })
      (everything.by_response bench_valid bench_public b bench_keeps_alg (one.run b) (one.honest b) (one.place b) (one.takes_place b)).1.passes

  -- ---- a sign-in

  abbrev pub response : responses.AuthenticatorAssertionResponse
  response = everything.response bench_valid bench_public b bench_keeps_alg (one.run b) (one.honest b) (one.place b) (one.takes_place b)

  abbrev pub expected_then : ExpectedSignIn
  expected_then = (one.signing_in b).expected

  expects_then : sign_in_at 2 (one.signing_in b).site.sessions ≡ Some expected_then
  expects_then = (one.honest b).honest_sign_in.is_open

  found_row : row_of response.credential (new_row ∷ [])
      ≡ Some (everything.row bench_valid bench_public b bench_keeps_alg (one.run b) (one.honest b) (one.place b) (one.takes_place b))
  found_row = everything.found bench_valid bench_public b bench_keeps_alg (one.run b) (one.honest b) (one.place b) (one.takes_place b)

  pub row_is : new_row ≡ everything.row bench_valid bench_public b bench_keeps_alg (one.run b) (one.honest b) (one.place b) (one.takes_place b)
  row_is = (only_row response.credential new_row _ found_row).0

  pub has_id : new_row.id ≡ response.credential
  has_id = sym (same_bytes response.credential new_row.id (only_row response.credential new_row _ found_row).1)

  -- what was read of it
  pub record SignedReading : Type 0 where
    pub auth : AuthenticatorData
    pub read : AuthOf one.at_first.rp.profile auth response.auth_data

  pub reads_signed : SignedReading
  reads_signed =
      let after = (everything.signs_by_response bench_valid bench_public b bench_keeps_alg (one.run b) (one.honest b) (one.place b) (one.takes_place b)).after in
      record { auth = after.0; read = after.1 }

  -- the credential then
  abbrev pub counted_row : Credential
  counted_row = signed_in reads_signed.auth.sign_count (is_set reads_signed.auth.flags BE) new_row

  pub stored_counted : IsStored counted_row
  stored_counted = record { key = length-sha256 given.zeros; sign_count = reads_signed.read.0.sign_count }

  pub stored_retired : IsStored (retired counted_row)
  stored_retired = record { key = length-sha256 given.zeros; sign_count = reads_signed.read.0.sign_count }

  pub passes_then : PassesSignIn bench_valid (record { rp = one.at_first.rp; session = Some expected_then; credential = Some new_row; response = response })
  passes_then =
      subst (λ (x : JudgedSignIn). PassesSignIn bench_valid x)
      (λ k. record {
        rp = one.at_first.rp;
        session = expects_then k;
        credential = (found_row ∙ ap Some (sym row_is)) k;
        response = response;
      })
      (everything.signs_by_response bench_valid bench_public b bench_keeps_alg (one.run b) (one.honest b) (one.place b) (one.takes_place b)).passes

  -- ---- what is answered

  pub known_format : IsKnownFormat reads.object.fmt
  known_format =
      (passes_new (λ id. false) (λ id. refl)).1.1.1.1.1.1.1.1.1.1.1.1.1.1.0 expected refl reads.object reads.auth reads.credential reads.attests

  abbrev format : String Global
  format = text reads.object.fmt (elim known_format [
    | inl none ↦ subst IsUtf8 (sym none) (plain (codes "none") refl)
    | inr packed ↦ subst IsUtf8 (sym packed) (plain (codes "packed") refl)
  ]) (elim known_format [
    | inl none ↦ subst (λ (bs : List ℕ). length bs < 2 ^ 63) (sym none) (omega arith)
    | inr packed ↦ subst (λ (bs : List ℕ). length bs < 2 ^ 63) (sym packed) (omega arith)
  ])

  abbrev pub told_new : Registered
  told_new = record {
    credential = record { id = vec given.zeros (omega arith); user = vec given.user (omega arith); key = step.key; sign_count = 0; eligible = Some false; retired = false };
    summary = record { sign_count = reads.auth.sign_count; flags = reads.auth.flags; extensions = None };
    aaguid = reads.credential.aaguid;
    format = format;
  }

  abbrev pub told_signed : SignedIn
  told_signed = record {
    user = vec given.user (omega arith);
    credential = vec response.credential (subst (λ (bs : List ℕ). length bs < 2 ^ 63) has_id (omega arith));
    summary = record { sign_count = reads_signed.auth.sign_count; flags = reads_signed.auth.flags; extensions = None };
  }

  pub summarises_new : Summarises told_new.summary reads.auth
  summarises_new = record { sign_count = refl; flags = refl; extensions = sym (reads.attests.auth_data.0.no_extensions refl) }

  pub summarises_signed : Summarises told_signed.summary reads_signed.auth
  summarises_signed = record { sign_count = refl; flags = refl; extensions = sym (reads_signed.read.0.no_extensions refl) }

  pub tells_new : row_view told_new.credential ≡ site.registered expected reads.auth reads.credential
  tells_new = sym reads.row

  -- ---- the authenticator

  abbrev pub first_world : World
  first_world = one.world b

  abbrev pub made : World
  made = with_holder 0 (everything.made_holder bench_valid bench_public b bench_keeps_alg (one.run b) (one.honest b) (one.place b) (one.takes_place b)) first_world

  abbrev pub signed : World
  signed = with_holder 0 (everything.signed_holder bench_valid bench_public b bench_keeps_alg (one.run b) (one.honest b) (one.place b) (one.takes_place b)) made

  abbrev pub makes : Event
  makes = everything.asks_first bench_valid bench_public b bench_keeps_alg (one.run b) (one.honest b) (one.place b) (one.takes_place b) 0

  abbrev pub signs : Event
  signs = everything.asks_then bench_valid bench_public b bench_keeps_alg (one.run b) (one.honest b) (one.place b) (one.takes_place b) 0

  pub is_made : EventEffect bench_valid bench_public first_world makes made
  is_made = everything.makes bench_valid bench_public b bench_keeps_alg (one.run b) (one.honest b) (one.place b) (one.takes_place b) 0 first_world refl

  pub is_signed : EventEffect bench_valid bench_public made signs signed
  is_signed = everything.asserts bench_valid bench_public b bench_keeps_alg (one.run b) (one.honest b) (one.place b) (one.takes_place b) 0 made refl

  pub was_signed : WasSigned signed new_row.key (message_of response)
  was_signed =
      subst (λ (c : Credential). WasSigned signed c.key (message_of response)) (sym row_is)
      (everything.was_signed bench_valid bench_public b bench_keeps_alg (one.run b) (one.honest b) (one.place b) (one.takes_place b)
      (record { old = signed; event = makes; end = Done; new = signed }) 0 refl)
