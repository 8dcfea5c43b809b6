-- An open session stays, and a reset leaves no credential.
use Rattle.std.proofs.Common.{◌≡◌, ◌≢◌, inl, inr, ℕ, List, [], ◌∷◌, ◌++◌, Bool, true, Option, Some, None, refl, sym, ◌∙◌, ap, subst, arith}
use Rattle.std.specs.FinMap.{gets}
use Rattle.std.specs.FinMap as finite
use Rattle.std.specs.Prelude.{IsSome, not}
use Rattle.std.specs.List.{AllByRecursion as Each}
use Rattle.std.proofs.lemmas.Bool.Decides.{eqb_tells}
use Rattle.std.proofs.lemmas.Grind.{common_steps}
use Rattle.std.proofs.lemmas.List.Elements.{All-from_recursion, recursion_from_All}
use Rattle.refusal_order.specs.Lines.{First, first_true}
use Rattle.refusal_order.proofs.Laws.{none_first}
use Rattle.cose.specs.Schemes.{Validity}
use Rattle.authdata.specs.Responses as responses
use Rattle.verification.specs.SignIn.{PassesSignIn}
use Rattle.ctap_requests.specs.Requests.{RequestMessage, reset}
use Rattle.ctap_requests.specs.Status.{Applies, IsRequest, Rank, ranks}
use Rattle.site_state.specs.Sessions.{Expected, OpenSessions, closed, for_sign_in}
use Rattle.site.specs.Laws.{IsFresh}
use Rattle.site.specs.State.{SiteState}
use Rattle.authenticator.specs.Orders.{reset_order}
use Rattle.authenticator.specs.State.{AuthenticatorState}
use Rattle.authenticator.specs.Steps.{CarriesOut, Keys, Outcome, Resets as IsReset, Step, Unless}
use Rattle.authenticator.specs.declared.consent.Consent.{Consent}
use Rattle.authenticator.specs.declared.consent.Words.{Words}
use Rattle.agreement.specs.Below.{Below}
use Rattle.agreement.specs.Ledger.{world_after}
use Rattle.agreement.specs.Stays.{IsEnd, IsOpen, MayEnd, Resets, Stays, StaysOfAllRuns}
use Rattle.agreement.specs.World.{Abandons, Asks, AtSite, Begins, BeginsAs, Bounds, Deletes, Done, Event, EventEffect, EventEnd, Expires, Happens, Holder, IsRun, Moment, Nothing}
use Rattle.agreement.specs.World.{Registers, RegistersBy, Reloads, Reopens, Restarts, Retires, SignsIn, SignsInBy, SiteActs, SiteEvent, World}
use Rattle.agreement.proofs.Sites.{Registered, SignedIn, carried_there, registered_by, signed_in_by}
use Rattle.agreement.proofs.Worlds.{Sound, lived, starts}

-- another session than the one that is taken out
other_left : (s : SiteState) (k n : ℕ) (x : Expected) → k ≢ n → finite.get s.sessions.expected n ≡ Some x → finite.get (closed k s.sessions).expected n ≡ Some x
other_left s k n x apart h = grind (arith, gets, common_steps, apart, h)

module _ (valid : Validity) (public : Keys) (b : Below valid public) where
  -- ---- at a site

  module _ (s t : SiteState) (n : ℕ) (x : Expected) (h : finite.get s.sessions.expected n ≡ Some x) where
    abbrev OpenIn : SiteState → Type 0
    OpenIn z = finite.get z.sessions.expected n ≡ Some x

    left_by_sign_in : (k : ℕ) (r : responses.AuthenticatorAssertionResponse) → SignedIn valid public b s k r t → k ≢ n → OpenIn t
    left_by_sign_in k r is apart = subst OpenIn (sym is.after.2) (other_left s k n x apart h)

    left_by_registration : (k : ℕ) (r : responses.AuthenticatorAttestationResponse) → Registered valid public b s k r t → k ≢ n → OpenIn t
    left_by_registration k r is apart = subst OpenIn (sym is.after.6) (other_left s k n x apart h)

    stays_at : (e : SiteEvent) → IsFresh s → SiteActs valid s e t → (MayEnd e n → ⊥) → OpenIn t
    stays_at (Begins o) fresh acts none = subst OpenIn (sym acts.2) (b.sites.stays_open s o n x fresh h)
    stays_at (BeginsAs y) fresh acts none =
        let lt = fresh n (subst (λ (o : Option Expected). IsSome o) (sym h) refl) in
        subst OpenIn (sym acts.1) (grind (arith, gets, common_steps, lt, h))
    stays_at (Abandons k) fresh acts none = subst OpenIn (sym acts) (other_left s k n x none h)
    stays_at (Retires id) fresh acts none = subst OpenIn (sym acts) h
    stays_at (Deletes id) fresh acts none = subst OpenIn (sym acts) h
    stays_at (SignsIn k r) fresh acts none = left_by_sign_in k r (record { passes = acts.0; after = acts.1 }) none
    stays_at (SignsInBy k c ps d) fresh acts none =
        let there = carried_there valid public b s t k c ps d acts in left_by_sign_in k there.0 (signed_in_by valid public b s t k c ps d there.0 acts there.1) none
    stays_at (Registers k r) fresh acts none = left_by_registration k r (record { passes = acts.0; after = acts.1 }) none
    stays_at (RegistersBy k c ps d) fresh acts none =
        let there = registered_by valid public b s t k c ps d acts in left_by_registration k there.0 there.1 none
    stays_at Expires fresh acts none = absurd (none tt)
    stays_at (Bounds k) fresh acts none = subst OpenIn (sym acts) h
    stays_at Restarts fresh acts none = absurd (none tt)
    stays_at Reopens fresh acts none = subst (λ (z : OpenSessions). finite.get z.expected n ≡ Some x) (sym acts.sessions) h

  -- the rp id is as it was
  same_party : (s t : SiteState) (e : SiteEvent) → SiteActs valid s e t → t.rp.rp_id ≡ s.rp.rp_id
  same_party s t (Begins o) acts = ap (λ (z : SiteState). z.rp.rp_id) acts.2
  same_party s t (BeginsAs y) acts = ap (λ (z : SiteState). z.rp.rp_id) acts.1
  same_party s t (Abandons k) acts = ap (λ (z : SiteState). z.rp.rp_id) acts
  same_party s t (Retires id) acts = ap (λ (z : SiteState). z.rp.rp_id) acts
  same_party s t (Deletes id) acts = ap (λ (z : SiteState). z.rp.rp_id) acts
  same_party s t (SignsIn k r) acts = ap (λ (z : SiteState). z.rp.rp_id) acts.1.2
  same_party s t (SignsInBy k c ps d) acts =
      let there = carried_there valid public b s t k c ps d acts in
      ap (λ (z : SiteState). z.rp.rp_id) (signed_in_by valid public b s t k c ps d there.0 acts there.1).after.2
  same_party s t (Registers k r) acts = ap (λ (z : SiteState). z.rp.rp_id) acts.1.6
  same_party s t (RegistersBy k c ps d) acts = ap (λ (z : SiteState). z.rp.rp_id) (registered_by valid public b s t k c ps d acts).1.after.6
  same_party s t Expires acts = ap (λ (z : SiteState). z.rp.rp_id) acts.same
  same_party s t (Bounds k) acts = ap (λ (z : SiteState). z.rp.rp_id) acts
  same_party s t Restarts acts = acts.rp_id
  same_party s t Reopens acts = acts.rp_id

  -- ---- a moment

  same_open : (i n : ℕ) (x : Expected) (v w : World) → w.site i ≡ v.site i → IsOpen v i n x → IsOpen w i n x
  same_open i n x v w same h = subst (λ (z : SiteState). finite.get z.sessions.expected n ≡ Some x) (sym same) h

  open_then : (m : Moment) (i n : ℕ) (x : Expected) (event : Event) (end : EventEnd) → m.event ≡ event → m.end ≡ end → Happens valid public m.old event end m.new
      → Sound m.old → IsOpen m.old i n x → (IsEnd i n m → ⊥) → IsOpen m.new i n x
  open_then m i n x event Nothing is ends h sound there none = same_open i n x m.old m.new (ap (λ (w : World). w.site i) h) there
  open_then m i n x (AtSite j e) Done is ends h sound there none = elim (eqb_tells i j) [
    | inl same ↦
        let now : finite.get (m.old.site j).sessions.expected n ≡ Some x =
        subst (λ (l : ℕ). finite.get (m.old.site l).sessions.expected n ≡ Some x) same.1 there in
        let here : m.event ≡ AtSite i e = is ∙ ap (λ (l : ℕ). AtSite l e) (sym same.1) in
        let left = stays_at (m.old.site j) h.0 n x now e (sound.sites j).fresh h.1 (λ may. none (e, here, ends, may)) in
        same_open i n x (record m.new { site = λ l. h.0 }) m.new (ap m.new.site same.1 ∙ h.2.now) left
    | inr other ↦ same_open i n x m.old m.new (h.2.others i other.1) there
  ]
  open_then m i n x (Asks k channel bs consent words) Done is ends h sound there none = same_open i n x m.old m.new (h.3.sites i) there
  open_then m i n x (Reloads k) Done is ends h sound there none = same_open i n x m.old m.new (h.2.sites i) there

  party_then : (m : Moment) (i : ℕ) (event : Event) (end : EventEnd) → Happens valid public m.old event end m.new → (m.new.site i).rp.rp_id ≡ (m.old.site i).rp.rp_id
  party_then m i event Nothing h = ap (λ (w : World). (w.site i).rp.rp_id) h
  party_then m i (AtSite j e) Done h = elim (eqb_tells i j) [
    | inl same ↦
        ap (λ (l : ℕ). (m.new.site l).rp.rp_id) same.1 ∙ ap (λ (z : SiteState). z.rp.rp_id) h.2.now ∙ same_party (m.old.site j) h.0 e h.1
        ∙ ap (λ (l : ℕ). (m.old.site l).rp.rp_id) (sym same.1)
    | inr other ↦ ap (λ (z : SiteState). z.rp.rp_id) (h.2.others i other.1)
  ]
  party_then m i (Asks k channel bs consent words) Done h = ap (λ (z : SiteState). z.rp.rp_id) (h.3.sites i)
  party_then m i (Reloads k) Done h = ap (λ (z : SiteState). z.rp.rp_id) (h.2.sites i)

  -- ---- a run

  open_after : (w : World) (ms later : List Moment) (i n : ℕ) (x : Expected) → Sound w → IsRun valid public w (ms ++ later) → IsOpen w i n x
      → Each (λ m. IsEnd i n m → ⊥) ms → IsOpen (world_after w ms) i n x
  open_after w [] later i n x sound run there none = there
  open_after w (m ∷ ms) later i n x sound run there none =
      let l = lived valid public b w m sound run.0 run.1 in
      let here : IsOpen m.old i n x = subst (λ (v : World). IsOpen v i n x) (sym run.0) there in
      open_after m.new ms later i n x l.kept.sound run.2 (open_then m i n x m.event m.end refl refl run.1 l.sound here none.0) none.1

  party_after : (w : World) (ms later : List Moment) (i : ℕ) → IsRun valid public w (ms ++ later) → ((world_after w ms).site i).rp.rp_id ≡ (w.site i).rp.rp_id
  party_after w [] later i run = refl
  party_after w (m ∷ ms) later i run =
      party_after m.new ms later i run.2 ∙ party_then m i m.event m.end run.1 ∙ ap (λ (v : World). (v.site i).rp.rp_id) run.0

  over : (w : World) (past between later : List Moment) → Sound w → IsRun valid public w (past ++ (between ++ later)) → Stays valid w past between
  over w [] between later sound run = record {
    still_open = λ i n x there none. open_after w between later i n x sound run there (recursion_from_All (λ (m : Moment). IsEnd i n m → ⊥) between none);
    party = λ i. party_after w between later i run;
    accepted = λ i n x r there none party row passes.
        let left = open_after w between later i n x sound run there (recursion_from_All (λ (m : Moment). IsEnd i n m → ⊥) between none) in
        subst (PassesSignIn valid) (sym (b.sites.judged (w.site i) ((world_after w between).site i) n r party (ap for_sign_in (left ∙ sym there)) row)) passes;
  }
  over w (m ∷ past) between later sound run =
      let l = lived valid public b w m sound run.0 run.1 in
      let rest = over m.new past between later l.kept.sound run.2 in
      record { still_open = rest.still_open; party = rest.party; accepted = rest.accepted }

  -- ---- a reset

  refused_apart : (bs : List ℕ) (q : RequestMessage) (rank : Rank) → IsRequest q bs → First (Applies bs) ranks rank → ⊥
  refused_apart bs q rank is first = none_first (λ line not_so so. not_so so) ranks rank is.clean first

  given : (old : AuthenticatorState) (consent : Consent) (out : Outcome) (P : Type 0) → consent.present ≡ true → Unless (first_true (reset_order consent)) old out P → P
  given old consent out P present h =
      let none : first_true (reset_order consent) ≡ None = ap (λ (b : Bool). first_true {X = ℕ} ((not b, 0x27) ∷ [])) present in
      subst (λ (o : Option ℕ). Unless o old out P) none h

  emptied : (old : AuthenticatorState) (channel : ℕ) (bs : List ℕ) (consent : Consent) (words : Words) (out : Outcome) → IsRequest reset bs
      → consent.present ≡ true → Step valid public old channel bs consent words out → out.state.credentials ≡ []
  emptied old channel bs consent words out is present (inl unread) = absurd (refused_apart bs reset unread.0 is unread.1)
  emptied old channel bs consent words out is present (inr read) =
      let same : read.0 ≡ reset = is.only read.0 read.1.spelled.0 read.1.spelled.1 in
      let carried : CarriesOut valid public old channel consent words reset out =
      subst (λ (q : RequestMessage). CarriesOut valid public old channel consent words q out) same read.2 in
      ap (λ (s : AuthenticatorState). s.credentials) (given old consent out (IsReset old out) present carried).state

  reset_then : (m : Moment) (k channel : ℕ) (bs : List ℕ) (consent : Consent) (words : Words) → EventEffect valid public m.old (Asks k channel bs consent words) m.new
      → IsRequest reset bs → consent.present ≡ true → (m.new.holder k).state.credentials ≡ []
  reset_then m k channel bs consent words h is present =
      ap (λ (g : Holder). g.state.credentials) h.3.now ∙ emptied (m.old.holder k).state channel bs consent words h.0 is present h.2

  resets : (m : Moment) → Happens valid public m.old m.event m.end m.new → Resets m
  resets m h k channel consent words asked present =
      let ended : Happens valid public m.old m.event Done m.new = subst (λ (end : EventEnd). Happens valid public m.old m.event end m.new) asked.done h in
      let here : EventEffect valid public m.old (Asks k channel asked.bytes consent words) m.new =
      subst (λ (e : Event). EventEffect valid public m.old e m.new) asked.event ended in
      reset_then m k channel asked.bytes consent words here asked.request present

  each_resets : (w : World) (run : List Moment) → IsRun valid public w run → Each Resets run
  each_resets w [] run = tt
  each_resets w (m ∷ ms) run = (resets m run.1, each_resets m.new ms run.2)

  pub stays_of_all_runs : StaysOfAllRuns valid public
  stays_of_all_runs = record {
    sessions = λ w past between later start run. over w past between later (starts valid public b w start) run;
    credentials = λ w run start is. All-from_recursion Resets run (each_resets w run is);
  }
