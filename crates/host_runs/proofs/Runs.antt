-- A history of a host's rows is a run.
use Rattle.std.proofs.Common.{◌≡◌, ◌⊎◌, ◌+◌, inl, inr, ℕ, List, [], ◌∷◌, ◌++◌, Bool, true, false, None, refl, sym, ◌∙◌, ap, subst, arith}
use Rattle.std.proofs.lemmas.Bool.{eqb-true}
use Rattle.std.proofs.lemmas.Grind.{common_steps}
use Rattle.std.proofs.lemmas.List.Elements.{Contains-append_right}
use Rattle.std.specs.Prelude.{◌==◌, Contains, if◌then◌else◌}
use Rattle.std.specs.FinMap.{gets}
use Rattle.std.specs.FinMap as finite
use Rattle.cose.specs.Schemes.{Validity}
use Rattle.site_state.specs.Sessions.{Expected, challenge_in}
use Rattle.site.specs.Laws.{IsFresh, after_begin}
use Rattle.site.specs.State.{SiteState}
use Rattle.site.proofs.Goings.{none_there}
use Rattle.authenticator.specs.Steps.{Keys}
use Rattle.agreement.specs.Agreement.{OfAllRuns}
use Rattle.agreement.specs.Begun.{BeginsFor, IsBegun}
use Rattle.agreement.specs.Hosts.{HostsRuns, IsHostsRun}
use Rattle.agreement.specs.Ledger.{world_after}
use Rattle.agreement.specs.Lived.{with_site}
use Rattle.agreement.specs.World as world
use Rattle.agreement.specs.World.{Asks, AtSite, ChangesSite, Done, Event, EventEnd, Expires, Happens, Moment, Reloads, SiteActs, SiteEvent, World}
use Rattle.agreement.specs.World.{after_begin_as}
use Rattle.agreement.proofs.Lived.{changes_site, site_there}
use Rattle.host_runs.specs.Rows.{Begins, Closes, Configures, Deletes, HostStore, Registers, Retires, SignsIn}
use Rattle.host_runs.specs.Histories.{Act, AreGivenOnce, Elsewhere, Follow, HostRuns, IsHistory, Plays, Scene, StandsFor, Stores, Turn, end_of, event_of, given, given_by, scene_after}
use Rattle.host_runs.proofs.Accepted as accepted
use Rattle.host_runs.proofs.Steps as steps
use Rattle.host_runs.proofs.Steps.{Stepped}

-- ---- a world with another site

last_site : (i : ℕ) (s t : SiteState) (w : World) → with_site i t (with_site i s w) ≡ with_site i t w
last_site i s t w = λ k. record { site = λ j. chosen (j == i) (w.site j) k; holder = w.holder }
  where
    chosen : (b : Bool) (z : SiteState) → (if b then t else (if b then s else z)) ≡ (if b then t else z)
    chosen true z = refl
    chosen false z = refl

own_site : (i : ℕ) (w : World) → w ≡ with_site i (w.site i) w
own_site i w = λ k. record { site = λ j. its j k; holder = w.holder }
  where
    its : (j : ℕ) → w.site j ≡ (if j == i then w.site i else w.site j)
    its j = go (j == i) refl
      where
        go : (b : Bool) → (j == i) ≡ b → w.site j ≡ (if b then w.site i else w.site j)
        go true t = ap w.site (eqb-true j i t)
        go false t = refl

-- ---- which sessions begin

-- the session of this number begins at the moment
record BegunAt (i n : ℕ) (m : Moment) (x : Expected) : Type 0 where
  pub begins : SiteEvent
  pub event : m.event ≡ AtSite i begins
  pub done : m.end ≡ Done
  pub number : n ≡ (m.old.site i).sessions.next
  pub expects : BeginsFor begins n x

abbrev first_of : Moment → List Moment → Moment
first_of m [] = m
first_of m (x ∷ xs) = x

abbrev rest_of : List Moment → List Moment
rest_of [] = []
rest_of (x ∷ xs) = xs

none_begun : (i n : ℕ) (x : Expected) → IsBegun i n [] x → ⊥
none_begun i n x b = go b.before b.here
  where
    go : (before : List Moment) → [] ≡ before ++ b.moment ∷ b.later → ⊥
    go [] here = absurd cc
    go (m ∷ ms) here = absurd cc

at_once_or_later : (i n : ℕ) (m : Moment) (ms : List Moment) (x : Expected) → IsBegun i n (m ∷ ms) x → BegunAt i n m x ⊎ IsBegun i n ms x
at_once_or_later i n m ms x b = go b.before b.here
  where
    there : BegunAt i n b.moment x
    there = record { begins = b.begins; event = b.event; done = b.done; number = b.number; expects = b.expects }

    go : (before : List Moment) → m ∷ ms ≡ before ++ b.moment ∷ b.later → BegunAt i n m x ⊎ IsBegun i n ms x
    go [] here = inl (subst (λ (z : Moment). BegunAt i n z x) (sym (ap (first_of m) here)) there)
    go (l ∷ ls) here =
        inr (record {
          before = ls;
          moment = b.moment;
          later = b.later;
          here = ap rest_of here;
          begins = b.begins;
          event = b.event;
          done = b.done;
          number = b.number;
          expects = b.expects;
        })

rest_given_once : (xs ys : List (List ℕ)) → AreGivenOnce (xs ++ ys) → AreGivenOnce ys
rest_given_once [] ys once = once
rest_given_once (x ∷ xs) ys once = rest_given_once xs ys once.1

abbrev event_at : Event → SiteEvent
event_at (AtSite i e) = e
event_at (Asks k channel bs consent words) = Expires
event_at (Reloads k) = Expires

-- what begins at an event is what a host gives by an act
abbrev GivesFor : Act → SiteEvent → Type 0
GivesFor act e = (n : ℕ) (x : Expected) → BeginsFor e n x → given_by act ≡ challenge_in x ∷ []

module _ {I : Type 0} (narrow : I → Validity) (wide : Validity) (public : Keys) (i : ℕ) where
  -- no session of site i begins elsewhere
  none_beside : (valid : Validity) (v w : World) (s : SiteState) (e : SiteEvent) (n : ℕ) (x : Expected) → BeginsFor e n x
      → Happens valid public (with_site i s v) (AtSite i e) Done (with_site i s w) → ⊥
  none_beside valid v w s (world.Begins o) n x expects h =
      let now : s ≡ after_begin s o =
      sym (site_there i s w) ∙ h.2.now ∙ h.1.2 ∙ ap (λ (z : SiteState). after_begin z o) (site_there i s v) in
      let next : s.sessions.next ≡ s.sessions.next + 1 = ap (λ (z : SiteState). z.sessions.next) now in omega (arith, next)
  none_beside valid v w s (world.BeginsAs y) n x expects h =
      let now : s ≡ after_begin_as s y =
      sym (site_there i s w) ∙ h.2.now ∙ h.1.1 ∙ ap (λ (z : SiteState). after_begin_as z y) (site_there i s v) in
      let next : s.sessions.next ≡ s.sessions.next + 1 = ap (λ (z : SiteState). z.sessions.next) now in omega (arith, next)
  none_beside valid v w s _ n x expects h = expects

  -- ---- a turn

  module _ (valid : Validity) (numbers : List ℕ → ℕ) (old new : Scene) (w : World) (s : SiteState) (is : w ≡ with_site i s old.world)
      (stands : StandsFor numbers old.store s) (fresh : IsFresh s) where
    abbrev moment : Act → SiteState → Moment
    moment act t = record { old = w; event = event_of i numbers act; end = end_of act; new = with_site i t new.world }

    record Turned (act : Act) : Type 0 where
      pub site : SiteState
      pub numbers_then : List ℕ → ℕ
      pub happens : Happens valid public w (event_of i numbers act) (end_of act) (with_site i site new.world)
      pub stands_then : StandsFor numbers_then new.store site
      pub fresh_then : IsFresh site
      pub gives : (n : ℕ) (x : Expected) → BegunAt i n (moment act site) x → (n ≡ s.sessions.next) × (given_by act ≡ challenge_in x ∷ [])

    here : w.site i ≡ s
    here = ap (λ (z : World). z.site i) is ∙ site_there i s old.world

    numbered : (n : ℕ) → n ≡ (w.site i).sessions.next → n ≡ s.sessions.next
    numbered n number = number ∙ ap (λ (z : SiteState). z.sessions.next) here

    -- of a transaction, which is this event
    stepped : (act : Act) (e : SiteEvent) → event_of i numbers act ≡ AtSite i e → end_of act ≡ Done → GivesFor act e → new.world ≡ old.world
        → Stepped valid s e new.store → Turned act
    stepped act e event done gives same x =
        let there : with_site i x.site w ≡ with_site i x.site new.world =
        ap (with_site i x.site) is ∙ last_site i s x.site old.world ∙ ap (with_site i x.site) (sym same) in
        let acts : SiteActs valid (w.site i) e x.site = subst (λ (z : SiteState). SiteActs valid z e x.site) (sym here) x.acts in
        let changes = subst (λ (z : World). ChangesSite w z i x.site) there (changes_site i x.site w) in
        record {
          site = x.site;
          numbers_then = x.numbers;
          happens =
              subst (λ (z : Event). Happens valid public w z (end_of act) (with_site i x.site new.world)) (sym event)
              (subst (λ (z : EventEnd). Happens valid public w (AtSite i e) z (with_site i x.site new.world)) (sym done) (x.site, acts, changes));
          stands_then = x.stands;
          fresh_then = x.fresh;
          gives = λ n y at. (
            numbered n at.number,
            gives n y (subst (λ (z : SiteEvent). BeginsFor z n y) (ap event_at (sym at.event ∙ event)) at.expects),
          );
        }

    turned : (act : Act) → Plays valid public i old act new → Turned act
    turned (Stores (Begins key e)) h =
        stepped (Stores (Begins key e)) (world.BeginsAs e) refl refl (λ n x same. ap (λ (z : Expected). challenge_in z ∷ []) (sym same)) h.1
        (steps.begins valid numbers old.store new.store s stands fresh key e h.0)
    turned (Stores (SignsIn key e c r)) h =
        stepped (Stores (SignsIn key e c r)) (world.SignsIn (numbers key) r) refl refl (λ n x none. absurd none) h.1
        (steps.signs_in valid numbers old.store new.store s stands fresh key e c r h.0)
    turned (Stores (Registers key e r)) h =
        stepped (Stores (Registers key e r)) (world.Registers (numbers key) r) refl refl (λ n x none. absurd none) h.1
        (steps.registers valid numbers old.store new.store s stands fresh key e r h.0)
    turned (Stores (Retires id c)) h =
        stepped (Stores (Retires id c)) (world.Retires id) refl refl (λ n x none. absurd none) h.1
        (steps.retires valid numbers old.store new.store s stands fresh id c h.0)
    turned (Stores (Deletes id)) h =
        stepped (Stores (Deletes id)) (world.Deletes id) refl refl (λ n x none. absurd none) h.1
        (steps.deletes valid numbers old.store new.store s stands fresh id h.0)
    turned (Stores (Closes key e)) h =
        stepped (Stores (Closes key e)) (world.Abandons (numbers key)) refl refl (λ n x none. absurd none) h.1
        (steps.closes valid numbers old.store new.store s stands fresh key e h.0)
    turned (Stores (Configures rp policy)) h =
        stepped (Stores (Configures rp policy)) world.Reopens refl refl (λ n x none. absurd none) h.1
        (steps.configures valid numbers old.store new.store s stands fresh rp policy h.0)
    turned (Elsewhere e end) h = record {
      site = s;
      numbers_then = numbers;
      happens = subst (λ (z : World). Happens valid public z e end (with_site i s new.world)) (sym is) (h.0 s);
      stands_then = subst (λ (z : HostStore). StandsFor numbers z s) (sym h.1) stands;
      fresh_then = fresh;
      gives = λ n x at.
          absurd (none_beside valid old.world new.world s at.begins n x at.expects
          (subst (λ (z : Event). Happens valid public (with_site i s old.world) z Done (with_site i s new.world)) at.event
          (subst (λ (z : EventEnd). Happens valid public (with_site i s old.world) e z (with_site i s new.world)) at.done (h.0 s))));
    }

  -- ---- turn by turn

  pub record RunsOn (w : World) (turns : List Turn) (last : Scene) : Type 0 where
    pub run : List Moment
    pub is_run : IsHostsRun narrow wide public w run
    pub follows : Follow i turns run
    pub numbers : List ℕ → ℕ
    pub site : SiteState
    pub stands : StandsFor numbers last.store site
    pub end : world_after w run ≡ with_site i site last.world
    pub begun : (n : ℕ) (x : Expected) → IsBegun i n run x → Contains (given turns) (challenge_in x)
    pub own : AreGivenOnce (given turns) → (n k : ℕ) (x y : Expected) → IsBegun i n run x → IsBegun i k run y → challenge_in x ≡ challenge_in y → n ≡ k

  pub follows : (turns : List Turn) (first : Scene) (w : World) (s : SiteState) (numbers : List ℕ → ℕ) → IsHistory narrow wide public i first turns
      → w ≡ with_site i s first.world → StandsFor numbers first.store s → IsFresh s → RunsOn w turns (scene_after first turns)
  follows [] first w s numbers h is stands fresh = record {
    run = [];
    is_run = tt;
    follows = tt;
    numbers = numbers;
    site = s;
    stands = stands;
    end = is;
    begun = λ n x b. absurd (none_begun i n x b);
    own = λ once n k x y b. absurd (none_begun i n x b);
  }
  follows (turn ∷ turns) first w s numbers h is stands fresh =
      let is_here : w ≡ with_site i s turn.old.world = is ∙ ap (λ (z : Scene). with_site i s z.world) (sym h.0) in
      let stands_here : StandsFor numbers turn.old.store s = subst (λ (z : Scene). StandsFor numbers z.store s) (sym h.0) stands in
      let x = turned (narrow h.1.0) numbers turn.old turn.new w s is_here stands_here fresh turn.act h.1.2 in
      let m : Moment = record { old = w; event = event_of i numbers turn.act; end = end_of turn.act; new = with_site i x.site turn.new.world } in
      let on = follows turns turn.new (with_site i x.site turn.new.world) x.site x.numbers_then h.2 refl x.stands_then x.fresh_then in
      record {
        run = m ∷ on.run;
        is_run = (refl, (h.1.0, h.1.1, x.happens), on.is_run);
        follows = (record { numbers = numbers; site = s; stands_for = stands_here; old = is_here; event = refl; end = refl }, on.follows);
        numbers = on.numbers;
        site = on.site;
        stands = on.stands;
        end = on.end;
        begun = λ n y b. elim (at_once_or_later i n m on.run y b) [
          | inl at ↦
              subst (λ (cs : List (List ℕ)). Contains (cs ++ given turns) (challenge_in y)) (sym (x.gives n y at).1) (0, omega arith, refl)
          | inr later ↦ Contains-append_right (given_by turn.act) (given turns) (challenge_in y) (on.begun n y later)
        ];
        own = λ once n k y z b c same. elim (at_once_or_later i n m on.run y b) [
          | inl at ↦ elim (at_once_or_later i k m on.run z c) [
            | inl too ↦ (x.gives n y at).0 ∙ sym (x.gives k z too).0
            | inr later ↦ absurd (given_again turn.act turns y z once (x.gives n y at).1 (on.begun k z later) same)
          ]
          | inr later ↦ elim (at_once_or_later i k m on.run z c) [
            | inl at ↦ absurd (given_again turn.act turns z y once (x.gives k z at).1 (on.begun n y later) (sym same))
            | inr too ↦ on.own (rest_given_once (given_by turn.act) (given turns) once) n k y z later too same
          ]
        ];
      }
    where
      given_again : (act : Act) (later : List Turn) (y z : Expected) → AreGivenOnce (given_by act ++ given later) → given_by act ≡ challenge_in y ∷ []
          → Contains (given later) (challenge_in z) → challenge_in y ≡ challenge_in z → ⊥
      given_again act later y z once gives there same =
          let all = subst (λ (cs : List (List ℕ)). AreGivenOnce (cs ++ given later)) gives once in
          all.0 (subst (λ (c : List ℕ). Contains (given later) c) (sym same) there)

pub host_runs : {I : Type 0} (narrow : I → Validity) (wide : Validity) (public : Keys) → HostsRuns narrow wide public → OfAllRuns wide public
    → HostRuns narrow wide public
host_runs narrow wide public hosts all i numbers first turns start stands h =
    let there = follows narrow wide public i turns first first.world (first.world.site i) numbers h (own_site i first.world) stands fresh in
    let is_run = hosts.run first.world there.run there.is_run in
    record {
      run = there.run;
      is_run = is_run;
      follows = there.follows;
      numbers = there.numbers;
      site = there.site;
      stands_for = there.stands;
      end = there.end;
      signs_in = λ before later turn key e c r among act.
          accepted.signs_in narrow wide public i turn later before first turns there.run h there.follows among key e c r act;
      registers = λ before later turn key e r among act.
          accepted.registers narrow wide public i turn later before first turns there.run h there.follows among key e r act;
      agreement = all first.world there.run start is_run;
      own = λ once n k x y b c chosen same. there.own once n k x y b c same;
    }
  where
    fresh : IsFresh (first.world.site i)
    fresh n is =
        let none : finite.get (first.world.site i).sessions.expected n ≡ None = rw (start.sites i) (grind (arith, gets, common_steps)) in
        absurd (none_there (finite.get (first.world.site i).sessions.expected n) is none)
