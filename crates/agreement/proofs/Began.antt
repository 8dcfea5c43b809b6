-- Each open session expects what it was begun with.
use Rattle.std.proofs.Common.{◌≡◌, ◌<◌, ◌^◌, ◌⊎◌, inl, inr, ℕ, List, [], ◌∷◌, ◌++◌, None, Some, refl, sym, ◌∙◌, ap, subst, append_assoc, append-nil}
use Rattle.std.specs.List.{AllByRecursion as Each}
use Rattle.std.specs.FinMap.{gets}
use Rattle.std.specs.FinMap as finite
use Rattle.std.proofs.Common.{arith}
use Rattle.std.proofs.lemmas.Grind.{common_steps}
use Rattle.std.proofs.lemmas.Bool.Decides.{eqb_tells}
use Rattle.cose.specs.Schemes.{Validity}
use Rattle.authdata.specs.Responses as responses
use Rattle.site_state.specs.Sessions.{Expected, OpenSessions, Opening, OpensRegistration, OpensSignIn, expected_of}
use Rattle.site.specs.State.{SiteState}
use Rattle.site.proofs.Goings.{begun_or, still}
use Rattle.authenticator.specs.Steps.{Keys}
use Rattle.agreement.specs.Begun.{BeginsFor, ExpectsAsked, IsBegun, SessionsOfAllRuns}
use Rattle.agreement.specs.Ledger.{world_after}
use Rattle.agreement.specs.World.{Abandons, Asks, AtSite, Begins, BeginsAs, Bounds, Deletes, Done, Event, EventEnd, Expires, Happens, IsRun, IsStart, Moment, Nothing, Registers}
use Rattle.agreement.specs.World.{RegistersBy, Reloads, Reopens, Restarts, Retires, SignsIn, SignsInBy, SiteActs, SiteEvent, World}
use Rattle.agreement.specs.Below.{Below}
use Rattle.agreement.proofs.Ledger.{front}
use Rattle.agreement.proofs.Sites.{Registered, SignedIn, begun_as_or, carried_there, left_open, registered_by, signed_in_by}

-- it is what was asked for
as_asked : (n : ℕ) (o : Opening) → n < 2 ^ 64 → ExpectsAsked n o (expected_of n o)
as_asked n (OpensSignIn user allow uv words) lt = (refl, refl, refl, (lt, refl))
as_asked n (OpensRegistration user algorithms uv words asks) lt = (refl, refl, refl, (lt, refl), refl, refl)

begun_longer : (i n : ℕ) (past more : List Moment) (e : Expected) → IsBegun i n past e → IsBegun i n (past ++ more) e
begun_longer i n past more e x = record {
  before = x.before;
  moment = x.moment;
  later = x.later ++ more;
  here = ap (λ (ms : List Moment). ms ++ more) x.here ∙ append_assoc x.before (x.moment ∷ x.later) more;
  begins = x.begins;
  event = x.event;
  done = x.done;
  number = x.number;
  expects = x.expects;
}

-- it was open before, or is begun now
record BegunNow (s : SiteState) (e : SiteEvent) (n : ℕ) (x : Expected) : Type 0 where
  pub number : n ≡ s.sessions.next
  pub expects : BeginsFor e n x

abbrev WasOpen : SiteState → SiteEvent → ℕ → Expected → Type 0
WasOpen s e n x = (finite.get s.sessions.expected n ≡ Some x) ⊎ BegunNow s e n x

module _ (valid : Validity) (public : Keys) (b : Below valid public) where
  open_signed_in : (s t : SiteState) (n : ℕ) (r : responses.AuthenticatorAssertionResponse) (e : SiteEvent) (k : ℕ) (x : Expected)
      → SignedIn valid public b s n r t → finite.get t.sessions.expected k ≡ Some x → WasOpen s e k x
  open_signed_in s t n r e k x is h = inl (still s n k x (subst (λ (z : SiteState). finite.get z.sessions.expected k ≡ Some x) is.after.2 h))

  open_registered : (s t : SiteState) (n : ℕ) (r : responses.AuthenticatorAttestationResponse) (e : SiteEvent) (k : ℕ) (x : Expected)
      → Registered valid public b s n r t → finite.get t.sessions.expected k ≡ Some x → WasOpen s e k x
  open_registered s t n r e k x is h = inl (still s n k x (subst (λ (z : SiteState). finite.get z.sessions.expected k ≡ Some x) is.after.6 h))

  was_open : (s t : SiteState) (e : SiteEvent) (n : ℕ) (x : Expected) → SiteActs valid s e t → finite.get t.sessions.expected n ≡ Some x → WasOpen s e n x
  was_open s t (Begins o) n x acts h =
      elim (begun_or s o n x (subst (λ (z : SiteState). finite.get z.sessions.expected n ≡ Some x) acts.2 h)) [
        | inl new ↦
            inr (record {
              number = new.0;
              expects = subst (λ (y : Expected). ExpectsAsked n o y) (sym new.1)
                  (subst (λ (k : ℕ). ExpectsAsked k o (expected_of s.sessions.next o)) (sym new.0) (as_asked s.sessions.next o (omega (arith, acts.1))));
            })
        | inr there ↦ inl there
      ]
  was_open s t (BeginsAs y) n x acts h =
      elim (begun_as_or s y n x (subst (λ (z : SiteState). finite.get z.sessions.expected n ≡ Some x) acts.1 h)) [
        | inl new ↦ inr (record { number = new.0; expects = new.1 })
        | inr there ↦ inl there
      ]
  was_open s t (Abandons k) n x acts h = inl (still s k n x (subst (λ (z : SiteState). finite.get z.sessions.expected n ≡ Some x) acts h))
  was_open s t (Retires id) n x acts h = inl (subst (λ (z : SiteState). finite.get z.sessions.expected n ≡ Some x) acts h)
  was_open s t (Deletes id) n x acts h = inl (subst (λ (z : SiteState). finite.get z.sessions.expected n ≡ Some x) acts h)
  was_open s t (SignsIn k r) n x acts h = open_signed_in s t k r (SignsIn k r) n x (record { passes = acts.0; after = acts.1 }) h
  was_open s t (SignsInBy k c ps d) n x acts h =
      let there = carried_there valid public b s t k c ps d acts in
      open_signed_in s t k there.0 (SignsInBy k c ps d) n x (signed_in_by valid public b s t k c ps d there.0 acts there.1) h
  was_open s t (Registers k r) n x acts h = open_registered s t k r (Registers k r) n x (record { passes = acts.0; after = acts.1 }) h
  was_open s t (RegistersBy k c ps d) n x acts h =
      let there = registered_by valid public b s t k c ps d acts in
      open_registered s t k there.0 (RegistersBy k c ps d) n x there.1 h
  was_open s t Expires n x acts h = inl (left_open valid public b s t n x acts h)
  was_open s t (Bounds k) n x acts h = inl (subst (λ (z : SiteState). finite.get z.sessions.expected n ≡ Some x) acts h)
  was_open s t Restarts n x acts h =
      let empty : finite.get t.sessions.expected n ≡ None = rw acts.none_open (grind (arith, gets, common_steps)) in
      let bad : None ≡ Some x = sym empty ∙ h in absurd cc
  was_open s t Reopens n x acts h = inl (subst (λ (z : OpenSessions). finite.get z.expected n ≡ Some x) acts.sessions h)

  -- ---- a moment, and a run

  abbrev Began : List Moment → World → Type 0
  Began past w = (i n : ℕ) (x : Expected) → finite.get (w.site i).sessions.expected n ≡ Some x → IsBegun i n past x

  as_before : (past : List Moment) (m : Moment) (w : World) → ((i : ℕ) → w.site i ≡ m.old.site i) → Began past m.old → Began (past ++ m ∷ []) w
  as_before past m w same old i n x h =
      begun_longer i n past (m ∷ []) x (old i n x (subst (λ (z : SiteState). finite.get z.sessions.expected n ≡ Some x) (same i) h))

  at_site : (past : List Moment) (m : Moment) (i : ℕ) (e : SiteEvent) (s : SiteState) (n : ℕ) (x : Expected) → m.event ≡ AtSite i e → m.end ≡ Done
      → SiteActs valid (m.old.site i) e s → Began past m.old → finite.get s.sessions.expected n ≡ Some x → IsBegun i n (past ++ m ∷ []) x
  at_site past m i e s n x event done acts old h = elim (was_open (m.old.site i) s e n x acts h) [
    | inl there ↦ begun_longer i n past (m ∷ []) x (old i n x there)
    | inr now ↦
        record {
          before = past;
          moment = m;
          later = [];
          here = refl;
          begins = e;
          event = event;
          done = done;
          number = now.number;
          expects = now.expects;
        }
  ]

  happened : (past : List Moment) (m : Moment) (event : Event) (end : EventEnd) → m.event ≡ event → m.end ≡ end
      → Happens valid public m.old event end m.new → Began past m.old → Began (past ++ m ∷ []) m.new
  happened past m event Nothing is ends h old = as_before past m m.new (λ i. ap (λ (w : World). w.site i) h) old
  happened past m (AtSite j e) Done is ends h old = λ i n x there. elim (eqb_tells i j) [
    | inl same ↦
        subst (λ (k : ℕ). IsBegun k n (past ++ m ∷ []) x) (sym same.1)
        (at_site past m j e h.0 n x is ends h.1 old
        (subst (λ (z : SiteState). finite.get z.sessions.expected n ≡ Some x) (ap m.new.site same.1 ∙ h.2.now) there))
    | inr other ↦
        begun_longer i n past (m ∷ []) x
        (old i n x (subst (λ (z : SiteState). finite.get z.sessions.expected n ≡ Some x) (h.2.others i other.1) there))
  ]
  happened past m (Asks k channel bs consent words) Done is ends h old = as_before past m m.new h.3.sites old
  happened past m (Reloads k) Done is ends h old = as_before past m m.new h.2.sites old

  over : (past : List Moment) (w : World) (run : List Moment) → IsRun valid public w run → Began past w → Began (past ++ run) (world_after w run)
  over past w [] run old = subst (λ (ms : List Moment). Began ms w) (sym (append-nil past)) old
  over past w (m ∷ ms) run old =
      let here : Began past m.old = subst (λ (v : World). Began past v) (sym run.0) old in
      let next = happened past m m.event m.end refl refl run.1 here in
      subst (λ (l : List Moment). Began l (world_after m.new ms)) (append_assoc past (m ∷ []) ms) (over (past ++ m ∷ []) m.new ms run.2 next)

  -- each session that is open at a moment of a run began in it
  abbrev pub BegunIn : List Moment → Moment → Type 0
  BegunIn run m = (i n : ℕ) (x : Expected) → finite.get (m.old.site i).sessions.expected n ≡ Some x → IsBegun i n run x

  each_begun : (past : List Moment) (w : World) (ms : List Moment) → IsRun valid public w ms → Began past w → Each (BegunIn (past ++ ms)) ms
  each_begun past w [] run old = tt
  each_begun past w (m ∷ ms) run old =
      let here : Began past m.old = subst (λ (v : World). Began past v) (sym run.0) old in
      let next = happened past m m.event m.end refl refl run.1 here in (
        λ i n x h. begun_longer i n past (m ∷ ms) x (here i n x h),
        subst (λ (l : List Moment). Each (BegunIn l) ms) (append_assoc past (m ∷ []) ms) (each_begun (past ++ m ∷ []) m.new ms run.2 next),
      )

  none_begun : (w : World) → IsStart w → Began [] w
  none_begun w start i n x h =
      let empty : finite.get (w.site i).sessions.expected n ≡ None = rw (start.sites i) (grind (arith, gets, common_steps)) in
      let bad : None ≡ Some x = sym empty ∙ h in absurd cc

  pub all_begun : (w : World) (run : List Moment) → IsStart w → IsRun valid public w run → Each (BegunIn run) run
  all_begun w run start is = each_begun [] w run is (none_begun w start)

  pub began : SessionsOfAllRuns valid public
  began w past later start run =
      over [] w past (front valid public b w past later run) (none_begun w start)
