-- By what the contracts of a site's and an authenticator's calls say, each is an event.
use Rattle.std.proofs.Common.{◌≡◌, ℕ, List, refl, sym, ap, ◌∙◌, subst}
use Rattle.std.specs.Prelude.{Err, IfOk, Ok, OnOk, Result}
use Rattle.base64.specs.GeneralPurpose.{IsBytes}
use Rattle.hidframe.specs.declared.Packet.{Packet}
use Rattle.cose.specs.Schemes.{Validity}
use Rattle.authdata.specs.Responses.{AuthenticatorAssertionResponse, AuthenticatorAttestationResponse}
use Rattle.verification.specs.Records.{Credential, RelyingParty}
use Rattle.verification.specs.Registration.{PassesRegistration}
use Rattle.verification.specs.SignIn.{PassesSignIn}
use Rattle.verification.specs.declared.party.Policy.{Policy}
use Rattle.site_state.specs.Sessions.{OpenSessions, Opening, PassesOpening}
use Rattle.site.specs.Laws.{after_begin}
use Rattle.site.specs.State.{IsAfterRegistration, IsAfterSignIn, IsLoaded, SiteState, judged_registration, judged_sign_in}
use Rattle.authenticator.specs.Saved.{SavedOf}
use Rattle.authenticator.specs.State.{AuthenticatorState}
use Rattle.authenticator.specs.Steps.{Keys, Outcome, Step, Steps}
use Rattle.authenticator.specs.declared.consent.Consent.{Consent}
use Rattle.authenticator.specs.declared.consent.Words.{Words}
use Rattle.ceremony.specs.Registration as registering
use Rattle.ceremony.specs.SignIn as by_packets
use Rattle.ceremony.specs.declared.registration.Enrolled.{Enrolled}
use Rattle.ceremony.specs.declared.signing_in.Accepted.{Accepted}
use Rattle.agreement.specs.Acting.{Acts, Answers, Loads, Reloads, Restores}
use Rattle.agreement.specs.Lived.{with_holder}
use Rattle.agreement.specs.World.{Begins, Holder, Registers, RegistersBy, SignsIn, SignsInBy, SiteActs, after_call, after_restart, words_of}
use Rattle.agreement.proofs.CallsActed.{loaded_as}
use Rattle.agreement.proofs.Lived.{changes_holder, holder_there}
use Rattle.agreement.proofs.Sites.{passes_with_room, succeeds_with_room}

-- ---- at a site

pub begins : {T E : Type 0} (old new : SiteState) (o : Opening) (result : Result T E) → IsBytes (words_of o) → OnOk result (PassesOpening old.rp.profile old.sessions o)
    → OnOk result (new ≡ after_begin old o) → OnOk result (Acts old (Begins o) new)
begins old new o (Err e) bytes passes after = tt
begins old new o (Ok x) bytes passes after = (bytes, passes.1.1.0, after)

pub signs_in : {T E : Type 0} (valid : Validity) (old new : SiteState) (n : ℕ) (r : AuthenticatorAssertionResponse) (Q : T → Type 0) (result : Result T E)
    → IfOk result (λ x. PassesSignIn valid (judged_sign_in old n r) × Q x) → OnOk result (IsAfterSignIn old n r new)
    → OnOk result (SiteActs valid old (SignsIn n r) new)
signs_in valid old new n r Q (Err e) passes after = tt
signs_in valid old new n r Q (Ok x) passes after = (passes.0, after)

pub registers : {T E : Type 0} (valid : Validity) (old new : SiteState) (n : ℕ) (r : AuthenticatorAttestationResponse) (Q : T → Type 0) (result : Result T E)
    → IfOk result (λ x. PassesRegistration valid (judged_registration old n r) × Q x) → OnOk result (IsAfterRegistration old n r new)
    → OnOk result (SiteActs valid old (Registers n r) new)
registers valid old new n r Q (Err e) passes after = tt
registers valid old new n r Q (Ok x) passes after = (passes_with_room valid (judged_registration old n r) passes.0, after)

pub signs_in_by : {E : Type 0} (valid : Validity) (old new : SiteState) (n c : ℕ) (ps : List Packet) (d : List ℕ) (result : Result Accepted E)
    → IfOk result (by_packets.AcceptsSignIn valid old n d c ps) → OnOk result (by_packets.IsAfter old n d c ps new)
    → OnOk result (SiteActs valid old (SignsInBy n c ps d) new)
signs_in_by valid old new n c ps d (Err e) accepts after = tt
signs_in_by valid old new n c ps d (Ok x) accepts after = ((x.used, accepts.0, accepts.1), after)

pub registers_by : {E : Type 0} (valid : Validity) (old new : SiteState) (n c : ℕ) (ps : List Packet) (d : List ℕ) (result : Result Enrolled E)
    → IfOk result (registering.AcceptsRegistration valid old n d c ps) → OnOk result (registering.IsAfter old n d c ps new)
    → OnOk result (SiteActs valid old (RegistersBy n c ps d) new)
registers_by valid old new n c ps d (Err e) accepts after = tt
registers_by valid old new n c ps d (Ok x) accepts after = (succeeds_with_room valid old n c x.used ps d accepts.0 accepts.1, after)

pub loads : {E : Type 0} (rp : RelyingParty) (policy : Policy) (bytes : List ℕ) (result : Result SiteState E) → IfOk result (IsLoaded rp policy bytes)
    → IfOk result (Loads rp.rp_id bytes)
loads rp policy bytes (Err e) is = tt
loads rp policy bytes (Ok new) is = λ old saved same. loaded_as old new rp policy bytes same saved is

pub restores : (old new : SiteState) (rows : List Credential) (sessions : OpenSessions) → new ≡ record old { rows = rows; sessions = sessions }
    → Restores old.rp.rp_id rows sessions new
restores old new rows sessions is = λ s same_id same_rows same_sessions. record {
  rp_id = ap (λ (z : SiteState). z.rp.rp_id) is ∙ same_id;
  rows = ap (λ (z : SiteState). z.rows) is ∙ same_rows;
  sessions = subst (λ (z : OpenSessions). z ≡ record s.sessions { max_open = z.max_open }) (sym (ap (λ (z : SiteState). z.sessions) is)) same_sessions;
}

-- ---- at an authenticator

module _ (valid : Validity) (public : Keys) (old new : AuthenticatorState) (channel : ℕ) (bs : List ℕ) (consent : Consent) (words : Words) where
  answered : (reply : List ℕ) → Steps valid public old channel bs consent words reply new → Answers valid public old channel bs consent words new
  answered reply (signed, made, step) w k size is =
      let out : Outcome = record { reply = reply; state = new; signed = signed; made = made } in
      let then = after_call (w.holder k) out in (
        with_holder k then w,
        (out, size, subst (λ (s : AuthenticatorState). Step valid public s channel bs consent words out) (sym is) step, changes_holder k then then w refl),
        ap (λ (h : Holder). h.state) (holder_there k then w),
      )

pub answers : {T E : Type 0} (valid : Validity) (public : Keys) (old new : AuthenticatorState) (channel : ℕ) (bs : List ℕ) (consent : Consent) (words : Words)
    (reply_of : T → List ℕ) (result : Result T E)
    → IfOk result (λ x. Steps valid public old channel bs consent words (reply_of x) new) → OnOk result (Answers valid public old channel bs consent words new)
answers valid public old new channel bs consent words reply_of (Err e) steps = tt
answers valid public old new channel bs consent words reply_of (Ok x) steps = answered valid public old new channel bs consent words (reply_of x) steps

pub reloads : {E : Type 0} (bytes : List ℕ) (result : Result AuthenticatorState E) → IfOk result (λ a. SavedOf a bytes) → IfOk result (Reloads bytes)
reloads bytes (Err e) is = tt
reloads bytes (Ok new) is = λ public w k saved.
    let then = after_restart (w.holder k) new in (
      with_holder k then w,
      (new, record { bytes = bytes; saved = saved; loaded = is }, changes_holder k then then w refl),
      ap (λ (h : Holder). h.state) (holder_there k then w),
    )
