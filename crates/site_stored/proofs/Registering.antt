-- A registration that is finished.
use Rattle.std.proofs.Common.{◌≡◌, ◌+◌, ℕ, List, Bool, ◌∙◌, sym, ap, subst, inr}
use Rattle.std.proofs.lemmas.Option.{same_Some}
use Rattle.std.specs.FinMap as finite
use Rattle.std.specs.Borrow.{Bor}
use Rattle.std.specs.Prelude.{Option, Some, None, option_map, string_bytes}
use Rattle.sqlite_trees.specs.View.{IsClean, IsStorableRow, View}
use Rattle.cose.specs.Schemes.{Validity}
use Rattle.authdata.specs.Responses as responses
use Rattle.verification.specs.Records.{AttestedRegistration, ExpectedRegistration, RelyingParty}
use Rattle.verification.specs.declared.party.Policy.{Policy}
use Rattle.site_seal.specs.Seal.{Ceremony, registration}
use Rattle.site_state.specs.RowViews.{row_view}
use Rattle.site_state.specs.declared.row.Row.{Row as StoredRow}
use Rattle.site_rows.specs.Endings.{Endings}
use Rattle.verification.specs.Registration.{PassesRegistration}
use Rattle.verification.specs.RegistrationAnswers as registrations
use Rattle.verification.specs.Views.{registration_view}
use Rattle.verification.specs.declared.refusal.RegistrationRefusal.{RegistrationRefusal}
use Rattle.verification.specs.declared.refusal.VerificationError.{VerificationError}
use Rattle.verification.specs.declared.refusal.VerificationError.TheVariants as errors
use Rattle.verification.specs.declared.record.RegistrationSession.{RegistrationSession}
use Rattle.site_stored.specs.Sessions.{ExpectsRegistration, IsCutOff, IsGiven}
use Rattle.site_stored.specs.declared.session.Given.{Given}
use Rattle.site_rows.specs.Held.{HasNone, Holds, IsWritten, Placed}
use Rattle.site_rows.specs.Causes.{IsRefused}
use Rattle.site_rows.specs.Details.{detail_row}
use Rattle.site_state.specs.Details.{Detail}
use Rattle.site_stored.specs.Calls.{RefusesRegistration, Registers, TellsIds, is_full, judged_registration, registered}
use Rattle.site_stored.specs.Causes.{RefusesNew, RefusesRegistered}
use Rattle.site_stored.specs.Private.{Admits, AwaitsAs, IsRegistrationIn, admitted_as, judged_by}
use Rattle.site_stored.specs.Summaries.{Summarises, with_aaguid}
use Rattle.verification.specs.RegistrationAnswers.{new_credential}
use Rattle.site_stored.specs.State.{IsHeld, StoredState}
use Rattle.site_stored.specs.declared.registration.Registered.{Registered}
use Rattle.site_stored.proofs.Finishing.{the_some}
use Rattle.site_stored.proofs.Held.{free, held_added}

-- the row that is added stands last
pub written_last : {S : Type 0} (valid : Validity) (placed : Placed) (s : StoredState S) (asked : Option ExpectedRegistration) (r : responses.AuthenticatorAttestationResponse) (x : StoredRow)
    (v : AttestedRegistration) (first mid new : View)
    → Admits valid s.rp s.policy asked r (is_full s) v first mid
    → ((e : ExpectedRegistration) → asked ≡ Some e → row_view x ≡ admitted_as e.user (new_credential v))
    → (IsClean new → (placed : Placed) → Holds placed mid.trees
    → finite.get placed (s.last + 1) ≡ None → HasNone placed (row_view x).id → IsWritten mid new (finite.insert placed (s.last + 1) (row_view x)))
    → mid.trees ≡ first.trees → IsClean mid → IsClean new → IsHeld placed s first.trees
    → IsWritten mid new (finite.insert placed (s.last + 1) (row_view x))
written_last valid placed s asked r x v first mid new i tells written same clean_mid clean h =
    let session = the_some asked i.open_session in
    let held : IsHeld placed s mid.trees = subst (IsHeld placed s) (sym same) h in
    let fresh = i.fresh clean_mid placed h.holds.credentials in
    let row : row_view x ≡ registered session.0 v.auth_data v.credential = tells session.0 session.1 in
    let none = subst (HasNone placed) (sym (ap (λ k. k.id) row)) fresh in
    written clean placed held.holds.credentials (free placed s mid.trees held) none

pub registers : {S : Type 0} (valid : Validity) (placed : Placed) (s t : StoredState S) (ended users : Endings) (asked : Option ExpectedRegistration) (now : ℕ) (text : List ℕ)
    (r : responses.AuthenticatorAttestationResponse) (x : Registered)
    (v : AttestedRegistration) (first mid new : View)
    → ExpectsRegistration s ended users now text asked
    → Admits valid s.rp s.policy asked r (is_full s) v first mid
    → ((e : ExpectedRegistration) → asked ≡ Some e → row_view x.credential ≡ admitted_as e.user (new_credential v))
    → Summarises x.summary v.auth_data × (x.aaguid ≡ v.credential.aaguid) × (string_bytes x.format ≡ v.format)
    → (IsClean new → (placed : Placed) → Holds placed mid.trees
    → finite.get placed (s.last + 1) ≡ None → HasNone placed (row_view x.credential).id → IsWritten mid new (finite.insert placed (s.last + 1) (row_view x.credential)))
    → mid.trees ≡ first.trees → IsClean mid → IsClean new → IsHeld placed s first.trees → t.rp ≡ s.rp → t.reserved ≡ s.reserved → t.count ≡ s.count + 1
    → t.last ≡ s.last + 1
    → (after : Placed) × Registers valid placed ended users s now text r x after × IsHeld after t new.trees
registers valid placed s t ended users asked now text r x v first mid new expects i tells told written same clean_mid clean h rp reserved count last =
    let session = the_some asked i.open_session in
    let held : IsHeld placed s mid.trees = subst (IsHeld placed s) (sym same) h in
    let fresh = i.fresh clean_mid placed h.holds.credentials in
    let row : row_view x.credential ≡ registered session.0 v.auth_data v.credential = tells session.0 session.1 in
    let w = written_last valid placed s asked r x.credential v first mid new i tells written same clean_mid clean h in (
      finite.insert placed (s.last + 1) (row_view x.credential),
      record {
        expected = session.0;
        object = i.attests.0;
        data_read = v.auth_data;
        credential = v.credential;
        session = subst (ExpectsRegistration s ended users now text) session.1 expects;
        attests = i.attests.1;
        passes = λ is_registered told. subst (λ (k : Option ExpectedRegistration). PassesRegistration valid (judged_by s.rp s.policy k r is_registered (is_full s))) session.1
            (i.passes clean_mid placed h.holds.credentials is_registered told);
        fresh = fresh;
        tells = row;
        tells_data = told.0;
        tells_aaguid = told.1;
        tells_format = told.2 ∙ i.attests.2 session.0 session.1;
        after_is = ap (finite.insert placed (s.last + 1)) row;
      },
      held_added placed s t mid new (row_view x.credential) held w rp reserved count last,
    )

-- the row that no store takes is that of the credential that the response attests
pub refuses_new : {S : Type 0} (valid : Validity) (s : StoredState S) (asked : Option ExpectedRegistration) (r : responses.AuthenticatorAttestationResponse) (x : StoredRow) (v : AttestedRegistration)
    (first mid : View)
    → Admits valid s.rp s.policy asked r (is_full s) v first mid
    → ((e : ExpectedRegistration) → asked ≡ Some e → row_view x ≡ admitted_as e.user (new_credential v))
    → mid.reals ≡ first.reals → IsRefused mid.reals (s.last + 1) (row_view x) → RefusesNew first s r
refuses_new valid s asked r x v first mid i tells reals refused =
    let session = the_some asked i.open_session in
    let row : row_view x ≡ registered session.0 v.auth_data v.credential = tells session.0 session.1 in
    record {
      expected = session.0;
      object = i.attests.0;
      data_read = v.auth_data;
      credential = v.credential;
      attests = i.attests.1;
      row = subst (λ (k : ℕ → ℕ). IsRefused k (s.last + 1) (registered session.0 v.auth_data v.credential)) reals (subst (IsRefused mid.reals (s.last + 1)) row refused);
    }

-- the detail that no store takes has the aaguid that the response attests
pub refuses_detail : {S : Type 0} (valid : Validity) (s : StoredState S) (asked : Option ExpectedRegistration) (r : responses.AuthenticatorAttestationResponse) (v : AttestedRegistration)
    (d kept : Detail) (first mid last : View)
    → Admits valid s.rp s.policy asked r (is_full s) v first mid → kept ≡ with_aaguid v.credential.aaguid d
    → last.reals ≡ first.reals → ¬ IsStorableRow (last.reals 5) (detail_row (s.last + 1) kept) → RefusesRegistered first s r d
refuses_detail valid s asked r v d kept first mid last i is reals refused =
    inr (
      i.attests.0,
      v.auth_data,
      v.credential,
      i.attests.1,
      subst (λ (x : Detail). ¬ IsStorableRow (first.reals 5) (detail_row (s.last + 1) x)) is
          (subst (λ (k : ℕ → ℕ). ¬ IsStorableRow (k 5) (detail_row (s.last + 1) kept)) reals refused),
    )

-- ---- the session of its text

the_expected : (e f : ExpectedRegistration) → registration e ≡ registration f → e ≡ f
the_expected e f same = cc

-- what the session of a text expects, by what it says
pub awaits : {S : Type 0} (s : StoredState S) (ended users : Endings) (now : ℕ) (text : List ℕ) (given : Option Given) (e : Option ExpectedRegistration)
    → IsRegistrationIn s.key s.rp.rp_id s.next ended users now text given → AwaitsAs given e → ExpectsRegistration s ended users now text e
awaits s ended users now text None e is none =
    subst (ExpectsRegistration s ended users now text) (sym none) (λ n ends f going stays. is n ends f going.0 going.1 stays)
awaits s ended users now text (Some g) (Some e) is says =
    let same : is.0 ≡ e = the_expected is.0 e (sym is.1 ∙ says) in (
      g.number,
      g.opened.ends,
      (
        subst (λ (c : Ceremony). IsGiven s.key s.rp.rp_id s.next now text g.number (record { ends = g.opened.ends; ceremony = c })) says is.2,
        is.3,
      ),
      subst (λ (x : ExpectedRegistration). IsCutOff s.key users g.number x.user → ⊥) same is.4,
    )
awaits s ended users now text (Some g) None is none = absurd (none is.0 is.1)

pub the_session : (o : Option (Bor RegistrationSession)) (u : Bor RegistrationSession) (e : ExpectedRegistration) → o ≡ Some u
    → option_map (λ x. registration_view x.now) o ≡ Some e → registration_view u.now ≡ e
the_session o u e is asked =
    same_Some (registration_view u.now) e (sym (ap (option_map (λ (x : Bor RegistrationSession). registration_view x.now)) is) ∙ asked)

-- what was read before it was judged is as at first
pub admits_since : (valid : Validity) (rp : RelyingParty) (policy : Policy) (asked : Option ExpectedRegistration) (r : responses.AuthenticatorAttestationResponse)
    (full : Bool) (v : AttestedRegistration) (first old new : View) → old.trees ≡ first.trees → Admits valid rp policy asked r full v old new
    → Admits valid rp policy asked r full v first new
admits_since valid rp policy asked r full v first old new same i = record {
  open_session = i.open_session;
  room = i.room;
  attests = i.attests;
  fresh = λ clean placed h. i.fresh clean placed (subst (Holds placed) (sym same) h);
  passes = λ clean placed h. i.passes clean placed (subst (Holds placed) (sym same) h);
}

-- the step that is named is that of the session of the text
pub refuses_registration : {S : Type 0} (valid : Validity) (placed : Placed) (ended users : Endings) (s : StoredState S) (now : ℕ) (text : List ℕ)
    (asked : Option ExpectedRegistration) (r : responses.AuthenticatorAttestationResponse) (why : VerificationError RegistrationRefusal)
    → ExpectsRegistration s ended users now text asked
    → ((is_registered : List ℕ → Bool) → TellsIds placed is_registered → registrations.IsRefused valid (judged_registration s asked is_registered r) why)
    → RefusesRegistration valid placed ended users s now text r why
refuses_registration valid placed ended users s now text asked r errors.Memory expects refused = tt
refuses_registration valid placed ended users s now text asked r (errors.Refused step) expects refused = (asked, expects, refused)
