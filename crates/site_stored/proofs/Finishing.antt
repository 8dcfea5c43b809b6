-- A ceremony that is finished.
use Rattle.std.proofs.Common.{◌≡◌, ◌≤◌, ◌∙◌, ℕ, List, Bool, inl, inr, refl, sym, ap, subst, true, false}
use Rattle.std.specs.FinMap as finite
use Rattle.std.specs.Prelude.{◌≢◌, Result, Ok, Err, IfErr, IsErrAnd, Option, Some, None, IsSome, ℤ}
use Rattle.sqlite_trees.specs.View.{IsClean, IsStorableRow, View}
use Rattle.cose.specs.Schemes.{Validity}
use Rattle.authdata.specs.Flags.{is_set, BE}
use Rattle.authdata.specs.Responses.{AuthenticatorAssertionResponse}
use Rattle.authdata.specs.declared.profile.Profile.{Profile}
use Rattle.verification.specs.SignIn.{PassesSignIn}
use Rattle.verification.specs.SignInAnswers.{IsRefused}
use Rattle.verification.specs.declared.refusal.VerificationError.{VerificationError}
use Rattle.verification.specs.declared.refusal.VerificationError.TheVariants as errors
use Rattle.verification.specs.declared.refusal.SignInRefusal.{SignInRefusal}
use Rattle.site_state.specs.Table.{signed_in}
use Rattle.site_state.specs.RowViews.{row_view}
use Rattle.site_rows.specs.Held.{HasNone, Holds, IsAt, IsSameView, IsWritten, Placed}
use Rattle.site_rows.specs.Rows.{credential_row}
use Rattle.site_rows.specs.declared.finding.Found.{Found}
use Rattle.verification.specs.Records.{Credential, ExpectedSignIn, RelyingParty}
use Rattle.site_stored.specs.Calls.{IsNotFinished, IsSame, RefusesSignIn, SignsIn, TellsIds, TellsUsed}
use Rattle.site_rows.specs.Details.{Details, HoldsDetails, detail_row, used}
use Rattle.site_rows.specs.Endings.{Endings, HoldsEndings}
use Rattle.site_stored.specs.Causes.{RefusesSignedIn}
use Rattle.site_stored.specs.Sessions.{ExpectsSignIn}
use Rattle.site_stored.specs.Private.{IsFoundAs, IsStopped, IsUntold, KeepsNumbers, RefusesFound, SignsInAs, TellsHad, credential_of, finish_refusal, judged}
use Rattle.site_stored.specs.declared.failure.Failure.TheVariants as failures
use Rattle.site_stored.specs.declared.failure.FinishFailure.{FinishFailure}
use Rattle.site_stored.specs.declared.failure.FinishFailure.TheVariants as finishes
use Rattle.site_stored.specs.State.{FitsColumn, IsHeld, IsReady, IsSound, StoredState}
use Rattle.site_stored.specs.declared.finish.SignedIn.{SignedIn}
use Rattle.site_stored.specs.declared.session.SessionFailure.{SessionFailure}
use Rattle.site_stored.specs.declared.session.SessionFailure.TheVariants as sessions
use Rattle.site_stored.specs.declared.site_store.SiteStore.{SiteStore}
use Rattle.verification.specs.declared.party.Policy.{Policy}
use Rattle.site_stored.proofs.Abandoning.{site_over}
use Rattle.site_stored.proofs.Endings.{sessions_stay}
use Rattle.site_stored.proofs.Held.{details_stay, held_beside, held_set, is_found}

pub the_some : {A : Type 0} (o : Option A) → IsSome o → (x : A) × (o ≡ Some x)
the_some None is = absurd cc
the_some (Some x) is = (x, refl)

-- what was found and passes is the credential of the response's id
pub signs_in : {S : Type 0} (valid : Validity) (placed : Placed) (s t : StoredState S) (ended : Endings) (e : Option ExpectedSignIn) (now : ℕ) (text : List ℕ)
    (r : AuthenticatorAssertionResponse) (at : ℤ) (x : SignedIn) (found : Option Found) (first old new : View)
    → IsFoundAs placed r.credential found → ExpectsSignIn s ended now text (credential_of found) r e → SignsInAs valid s.rp e found r at x old new
    → old.trees ≡ first.trees → IsClean new
    → IsHeld placed s first.trees → t.rp ≡ s.rp → t.reserved ≡ s.reserved → t.count ≡ s.count → t.last ≡ s.last
    → (after : Placed) × SignsIn valid placed ended s now text r x after × IsHeld after t new.trees
signs_in valid placed s t ended e now text r when x found first old new is expects i same clean h rp reserved count last =
    let at : IsAt placed r.credential i.at.place (row_view i.at.credential) = subst (IsFoundAs placed r.credential) i.is is in
    let held : IsHeld placed s old.trees = subst (IsHeld placed s) (sym same) h in
    let session = the_some e i.passes.0 in
    let c = signed_in i.data_read.sign_count (is_set i.data_read.flags BE) (row_view i.at.credential) in
    let mid = (i.written clean).0 in
    let w : IsWritten old mid (finite.insert placed i.at.place c) = (i.written clean).1 placed held.holds.credentials at.there in (
      finite.insert placed i.at.place c,
      record {
        expected = session.0;
        place = i.at.place;
        credential = row_view i.at.credential;
        data_read = i.data_read;
        found = at;
        session = subst (ExpectsSignIn s ended now text (Some (row_view i.at.credential)) r) session.1
            (subst (λ (f : Option Found). ExpectsSignIn s ended now text (credential_of f) r e) i.is expects);
        passes = subst (λ (k : Option ExpectedSignIn). PassesSignIn valid (judged s.rp k (Some i.at) r)) session.1
            (subst (λ (f : Option Found). PassesSignIn valid (judged s.rp e f r)) i.is i.passes);
        read = i.read;
        tells_user = i.user;
        tells_credential = i.credential;
        tells_data = i.told;
        after_is = refl;
      },
      held_beside (finite.insert placed i.at.place c) t mid new _ (i.written clean).2
          (held_set placed s t old mid i.at.place (row_view i.at.credential) c at.there held w rp reserved count last),
    )

-- its detail tells so, and what has ended stays
pub tells_used : {S : Type 0} (valid : Validity) (placed : Placed) (s : StoredState S) (e : Option ExpectedSignIn) (r : AuthenticatorAssertionResponse) (now : ℤ)
    (x : SignedIn) (found : Option Found) (first old new : View)
    → IsFoundAs placed r.credential found → SignsInAs valid s.rp e found r now x old new → old.trees ≡ first.trees → IsClean new → IsHeld placed s first.trees
    → ((details : Details) → HoldsDetails details first.trees → TellsUsed placed r.credential now details new.trees)
    × ((ended : Endings) → HoldsEndings 8 ended first.trees → HoldsEndings 8 ended new.trees)
tells_used valid placed s e r now x found first old new is i same clean h =
    let at : IsAt placed r.credential i.at.place (row_view i.at.credential) = subst (IsFoundAs placed r.credential) i.is is in
    let held : IsHeld placed s old.trees = subst (IsHeld placed s) (sym same) h in
    let w = (i.written clean).1 placed held.holds.credentials at.there in (
      λ details d. (
        i.at.place,
        row_view i.at.credential,
        at,
        (i.written clean).2.holds details (details_stay old (i.written clean).0 _ details w (subst (HoldsDetails details) (sym same) d)),
      ),
      λ ended k. sessions_stay old (i.written clean).0 new _ _ ended w (i.written clean).2 (subst (HoldsEndings 8 ended) (sym same) k),
    )

-- the trees beside those of credentials and of details stay
pub beside_signed_in : (valid : Validity) (placed : Placed) (rp : RelyingParty) (e : Option ExpectedSignIn) (r : AuthenticatorAssertionResponse) (now : ℤ)
    (x : SignedIn) (found : Option Found) (old new : View) (n : ℕ) → IsFoundAs placed r.credential found → SignsInAs valid rp e found r now x old new → IsClean new
    → Holds placed old.trees → n ≢ 0 → n ≢ 3 → n ≢ 4 → n ≢ 5 → new.trees n ≡ old.trees n
beside_signed_in valid placed rp e r now x found old new n is i clean h a b c d =
    let at : IsAt placed r.credential i.at.place (row_view i.at.credential) = subst (IsFoundAs placed r.credential) i.is is in
    (i.written clean).2.others n d ∙ ((i.written clean).1 placed h at.there).others n a b c

-- what was found is named with the step
pub refuses : {S : Type 0} (valid : Validity) (placed : Placed) (ended : Endings) (s : StoredState S) (now : ℕ) (text : List ℕ) (e : Option ExpectedSignIn)
    (r : AuthenticatorAssertionResponse) (found : Option Found) (why : VerificationError SignInRefusal) → IsFoundAs placed r.credential found
    → ExpectsSignIn s ended now text (credential_of found) r e → IsRefused valid (judged s.rp e found r) why
    → RefusesSignIn valid placed ended s now text r why
refuses valid placed ended s now text e r found errors.Memory is expects refused = tt
refuses valid placed ended s now text e r found (errors.Refused step) is expects refused =
    (credential_of found, e, is_found placed r.credential found is, expects, refused)

-- a step refuses it, or the store has failed
pub not_finished : {S W : Type 0} (view : S → View) (old new : StoredState S) (Same : Type 0) (P Q : VerificationError W → Type 0) (why : FinishFailure W)
    → old.is_shut ≡ false → (Same → IsSame view old new) → ((e : VerificationError W) → P e → Q e) → IsStopped Same new.is_shut P why
    → IsNotFinished view old new Q why
not_finished view old new Same P Q (finishes.Site e) sound same weaker is = (same is.0, weaker e is.1)
not_finished view old new Same P Q (finishes.Store failures.Shut) sound same weaker is = absurd (is.1 refl)
not_finished view old new Same P Q (finishes.Store (failures.Failed e)) sound same weaker is = (sound, is.0)

-- what a test tells of an id is what was found
pub told_same : (placed : Placed) (f : List ℕ → Bool) (id : List ℕ) (had : Bool) → TellsIds placed f → TellsHad placed id had → f id ≡ had
told_same placed f id had tells is = go (f id) refl had is
  where
    both : (place : ℕ) × (c : Credential) × IsAt placed id place c → HasNone placed id → ⊥
    both there none = none there.0 there.1 there.2.there there.2.has_id

    go : (b : Bool) → f id ≡ b → (had : Bool) → TellsHad placed id had → f id ≡ had
    go true t true is = t
    go true t false is = absurd (both (tells.there id t) is)
    go false t true is = absurd (both is (tells.none id t))
    go false t false is = t

-- the row that no store takes is that of the credential of the response's id, or of its detail
pub refuses_signed_in : (old mid : View) (profile : Profile) (found : Option Found) (r : AuthenticatorAssertionResponse) (now : ℤ) → mid.trees ≡ old.trees
    → mid.reals ≡ old.reals → ((placed : Placed) → Holds placed old.trees → IsFoundAs placed r.credential found) → RefusesFound mid profile found r now
    → RefusesSignedIn old profile r now
refuses_signed_in old mid profile found r now trees reals is (f, same, inl row) =
    inl (
      row.0,
      row.1,
      record {
        place = f.place;
        credential = row_view f.credential;
        found = λ placed h. subst (IsFoundAs placed r.credential) same (is placed h);
        row = subst (λ (k : ℕ → ℕ). ¬ IsStorableRow (k 0) (credential_row f.place (signed_in row.0.sign_count (is_set row.0.flags BE) (row_view f.credential)))) reals row.2;
      },
    )
refuses_signed_in old mid profile found r now trees reals is (f, same, inr row) =
    inr (λ placed h details d.
    let at : IsAt placed r.credential f.place (row_view f.credential) = subst (IsFoundAs placed r.credential) same (is placed h) in (
      f.place,
      row_view f.credential,
      at,
      subst (λ (k : ℕ → ℕ). ¬ IsStorableRow (k 5) (detail_row f.place (used now (finite.get details f.place)))) reals
          (row placed (subst (Holds placed) (sym trees) h) at.there details (subst (HoldsDetails details) (sym trees) d)),
    ))

-- ---- what else a ceremony that is not finished leaves

-- where no session is answered: there was no memory and nothing has changed, or the store has failed
pub untold_not_finished : {S W A : Type 0} (view : S → View) (old new : StoredState S) (h k : SiteStore S) (e : SessionFailure) (Q : VerificationError W → Type 0)
    (r : Result A (FinishFailure W)) → IsErrAnd r (λ f. f ≡ finish_refusal e) → old.is_shut ≡ false → (k ≡ h → new ≡ old) → new.is_shut ≡ k.is_shut
    → Q errors.Memory → IsUntold h k e → IfErr r (IsNotFinished view old new Q)
untold_not_finished view old new h k e Q (Ok x) is sound same shut memory untold = absurd is
untold_not_finished {S} {W} view old new h k e Q (Err f) is sound same shut memory untold = subst (IsNotFinished view old new Q) (sym is) (go e untold)
  where
    go : (e : SessionFailure) → IsUntold h k e → IsNotFinished view old new Q (finish_refusal e)
    go sessions.Memory untold = (subst (IsSame view old) (sym (same untold)) (record { is = refl; clean = λ c. c; store = λ c. refl }), memory)
    go (sessions.Store failures.Shut) untold = absurd (untold.1 refl)
    go (sessions.Store (failures.Failed e)) untold = (sound, shut ∙ untold.0)

-- where there was no memory for a part that reads nothing
pub memory_not_finished : {S W A : Type 0} (view : S → View) (old new : StoredState S) (e : VerificationError W) (Q : VerificationError W → Type 0)
    (r : Result A (FinishFailure W)) → IsErrAnd r (λ f. f ≡ finishes.Site e) → e ≡ errors.Memory → IsSame view old new → Q errors.Memory
    → IfErr r (IsNotFinished view old new Q)
memory_not_finished view old new e Q (Ok x) is memory same q = absurd is
memory_not_finished view old new e Q (Err f) is memory same q = subst (IsNotFinished view old new Q) (sym is) (same, subst Q (sym memory) q)

pub same_views : (a b c : View) → IsSameView a b → IsSameView b c → IsSameView a c
same_views a b c x y = record {
  clean = λ clean. x.clean (y.clean clean);
  view = λ clean. y.view clean ∙ ap (λ (v : View). record v { cursors = c.cursors }) (x.view (y.clean clean));
  shape = y.shape ∙ x.shape;
}

pub kept_on : {S : Type 0} (a b c : SiteStore S) → b ≡ record a { store = b.store } → c ≡ record b { store = c.store } → c ≡ record a { store = c.store }
kept_on a b c first second = second ∙ ap (λ (h : SiteStore _). record h { store = c.store }) first

-- a call that reads leaves the same site
pub same_over : {S : Type 0} (view : S → View) (rp : RelyingParty) (policy : Policy) (key : List ℕ) (lifetime next mark next_mark count last most : ℕ)
    (old new : SiteStore S) → new ≡ record old { store = new.store } → IsSameView (view old.store) (view new.store)
    → IsSame view (site_over rp policy key lifetime next mark next_mark count last most old) (site_over rp policy key lifetime next mark next_mark count last most new)
same_over view rp policy key lifetime next mark next_mark count last most old new same views = record {
  is = ap (site_over rp policy key lifetime next mark next_mark count last most) same;
  clean = views.clean;
  store = views.view;
}

ready_read : (v w : View) (p : Bool) → w ≡ record v { cursors = w.cursors } → IsReady v p → IsReady w p
ready_read v w p same r = subst (λ (x : View). IsReady x p) (sym same) (record {
  trees = record { table = r.trees.table; by_id = r.trees.by_id; by_user = r.trees.by_user };
  site = r.site;
  details = r.details;
  marks = r.marks;
  ended_sessions = r.ended_sessions;
  ended_users = r.ended_users;
  is_open = r.is_open;
  sound = r.sound;
  committed = r.committed;
})

-- and it is sound as it was
pub read_sound : {S : Type 0} (view : S → View) (rp : RelyingParty) (policy : Policy) (key : List ℕ) (lifetime next mark next_mark count last most : ℕ)
    (old new : SiteStore S) → new ≡ record old { store = new.store } → IsSameView (view old.store) (view new.store)
    → IsSound view (site_over rp policy key lifetime next mark next_mark count last most old)
    → IsSound view (site_over rp policy key lifetime next mark next_mark count last most new)
read_sound view rp policy key lifetime next mark next_mark count last most old new same views sound = record {
  ready = λ shut clean. subst (IsReady (view new.store)) (sym (ap (λ h. h.is_pending) same))
      (ready_read (view old.store) (view new.store) old.is_pending (views.view clean)
      (sound.ready (sym (ap (λ h. h.is_shut) same) ∙ shut) (views.clean clean)));
  given = λ shut. subst (λ k. next ≤ k) (sym (ap (λ h. h.reserved) same)) (sound.given (sym (ap (λ h. h.is_shut) same) ∙ shut));
  durable = λ shut. subst (λ (h : SiteStore _). h.durable ≤ h.reserved) (sym same) (sound.durable (sym (ap (λ h. h.is_shut) same) ∙ shut));
  reserved = subst FitsColumn (sym (ap (λ h. h.reserved) same)) sound.reserved;
  key = sound.key;
}

-- where a step refuses it nothing has changed, and where the store has failed it is shut
pub stopped_sound : {S W : Type 0} (view : S → View) (rp : RelyingParty) (policy : Policy) (key : List ℕ) (lifetime next mark next_mark count last most : ℕ)
    (old new : SiteStore S) (R : VerificationError W → Type 0) (why : FinishFailure W)
    → IsSound view (site_over rp policy key lifetime next mark next_mark count last most old) → KeepsNumbers old new → IsStopped (new ≡ old) new.is_shut R why
    → IsSound view (site_over rp policy key lifetime next mark next_mark count last most new)
stopped_sound view rp policy key lifetime next mark next_mark count last most old new R (finishes.Site e) sound keeps is =
    subst (λ held. IsSound view (site_over rp policy key lifetime next mark next_mark count last most held)) (sym is.0) sound
stopped_sound view rp policy key lifetime next mark next_mark count last most old new R (finishes.Store why) sound keeps (shut, other) = record {
  ready = λ no. absurd cc;
  given = λ no. absurd cc;
  durable = λ no. absurd cc;
  reserved = subst FitsColumn (sym keeps.0) sound.reserved;
  key = sound.key;
}
