-- Runs in which one site changes, joined.
use Rattle.std.proofs.Common.{◌≡◌, ◌==◌, ℕ, Bool, true, false, List, [], ◌∷◌, ◌++◌, refl, sym, ◌∙◌, ap, subst, append_assoc, append-nil, eq-eqb, map}
use Rattle.std.proofs.lemmas.Bool.{eqb-true}
use Rattle.std.specs.Prelude.{None, Some, if◌then◌else◌}
use Rattle.cose.specs.Schemes.{Validity}
use Rattle.site.specs.State as site
use Rattle.authenticator.specs.Steps.{Keys}
use Rattle.agreement.specs.World.{AtSite, Done, IsRun, Moment, SiteActs, SiteEvent, World}
use Rattle.agreement.specs.Ledger.{world_after}
use Rattle.agreement.specs.Lived.{with_site}
use Rattle.agreement.proofs.Lived.{changes_site, site_there}
use Rattle.stored_runs.specs.Among.{WorldBeside, Told, beside, done_at}
use Rattle.stored_runs.specs.Stored.{acts_at, acts_in_event, told_at, told_in}

-- ---- a world with another site

-- it is one and the same but for the site
pub beside_it : (i : ℕ) (s : site.SiteState) (w : World) → beside i (with_site i s w) ≡ beside i w
beside_it i s w = λ k. record { site = λ j. hidden (j == i) s (w.site j) k; holder = w.holder }
  where
    hidden : (b : Bool) (x y : site.SiteState) → (if b then None else Some (if b then x else y)) ≡ (if b then None else Some y)
    hidden true x y = refl
    hidden false x y = refl

pub last_site : (i : ℕ) (s t : site.SiteState) (w : World) → with_site i t (with_site i s w) ≡ with_site i t w
last_site i s t w = λ k. record { site = λ j. chosen (j == i) t s (w.site j) k; holder = w.holder }
  where
    chosen : (b : Bool) (x y z : site.SiteState) → (if b then x else (if b then y else z)) ≡ (if b then x else z)
    chosen true x y z = refl
    chosen false x y z = refl

pub own_site : (i : ℕ) (w : World) → with_site i (w.site i) w ≡ w
own_site i w = λ k. record { site = λ j. its j k; holder = w.holder }
  where
    its : (j : ℕ) → (if j == i then w.site i else w.site j) ≡ w.site j
    its j = go (j == i) refl
      where
        go : (b : Bool) → (j == i) ≡ b → (if b then w.site i else w.site j) ≡ w.site j
        go true t = ap w.site (sym (eqb-true j i t))
        go false t = refl

-- ---- runs

pub world_joined : (w : World) (xs ys : List Moment) → world_after w (xs ++ ys) ≡ world_after (world_after w xs) ys
world_joined w [] ys = refl
world_joined w (x ∷ xs) ys = world_joined x.new xs ys

pub told_joined : (i : ℕ) (xs ys : List Moment) → told_in i (xs ++ ys) ≡ told_in i xs ++ told_in i ys
told_joined i [] ys = refl
told_joined i (x ∷ xs) ys =
    ap (λ es. told_at i x.old x.event x.end ++ es) (told_joined i xs ys)
    ∙ sym (append_assoc (told_at i x.old x.event x.end) (told_in i xs) (told_in i ys))

done_joined : (i : ℕ) (w : World) (es fs : List SiteEvent) → done_at i w es ++ done_at i w fs ≡ done_at i w (es ++ fs)
done_joined i w [] fs = refl
done_joined i w (e ∷ es) fs = ap (λ xs. record { event = AtSite i e; end = Done; world = beside i w } ∷ xs) (done_joined i w es fs)

abbrev done_beside : ℕ → List SiteEvent → WorldBeside → List Told
done_beside i es b = map (λ e. record { event = AtSite i e; end = Done; world = b }) es

pub done_alike : (i : ℕ) (es : List SiteEvent) (v w : World) → beside i v ≡ beside i w → done_at i v es ≡ done_at i w es
done_alike i es v w same = ap (done_beside i es) same

-- a run in which site i alone changes, by these acts, and is this one then
pub record Reaches (valid : Validity) (public : Keys) (w : World) (i : ℕ) (after : site.SiteState) (acts : List SiteEvent) : Type 0 where
  pub run : List Moment
  pub is_run : IsRun valid public w run
  pub end : world_after w run ≡ with_site i after w
  pub told : told_in i run ≡ done_at i w acts

module _ (valid : Validity) (public : Keys) where
  pub run_joined : (w : World) (xs ys : List Moment) → IsRun valid public w xs → IsRun valid public (world_after w xs) ys → IsRun valid public w (xs ++ ys)
  run_joined w [] ys h more = more
  run_joined w (x ∷ xs) ys h more = (h.0, h.1, run_joined x.new xs ys h.2 more)

  -- nothing happens
  pub stays : (w : World) (i : ℕ) (s : site.SiteState) → w.site i ≡ s → Reaches valid public w i s []
  stays w i s is = record { run = []; is_run = tt; end = sym (own_site i w) ∙ ap (λ (x : site.SiteState). with_site i x w) is; told = refl }

  -- one event
  pub happens : (w : World) (i : ℕ) (s : site.SiteState) (e : SiteEvent) (t : site.SiteState) → w.site i ≡ s → SiteActs valid s e t
      → Reaches valid public w i t (acts_in_event e)
  happens w i s e t is acts = record {
    run = record { old = w; event = AtSite i e; end = Done; new = with_site i t w } ∷ [];
    is_run = (refl, (t, subst (λ (z : site.SiteState). SiteActs valid z e t) (sym is) acts, changes_site i t w), tt);
    end = refl;
    told =
        append-nil (told_at i w (AtSite i e) Done)
        ∙ ap (λ b. if b then acts_at i w e Done else (record { event = AtSite i e; end = Done; world = beside i w } ∷ [])) (eq-eqb i i refl);
  }

  -- one after another
  pub joined : (w : World) (i : ℕ) (t u : site.SiteState) (es fs : List SiteEvent) → Reaches valid public w i t es
      → ((v : World) → v.site i ≡ t → Reaches valid public v i u fs) → Reaches valid public w i u (es ++ fs)
  joined w i t u es fs first after =
      let v = world_after w first.run in
      let next = after v (ap (λ (x : World). x.site i) first.end ∙ site_there i t w) in
      record {
        run = first.run ++ next.run;
        is_run = run_joined w first.run next.run first.is_run next.is_run;
        end = world_joined w first.run next.run ∙ next.end ∙ ap (with_site i u) first.end ∙ last_site i t u w;
        told =
            told_joined i first.run next.run ∙ ap (λ ds. ds ++ told_in i next.run) first.told
            ∙ ap (λ ds. done_at i w es ++ ds) (next.told ∙ same_then v first.end) ∙ done_joined i w es fs;
      }
    where
      same_then : (v : World) → v ≡ with_site i t w → done_at i v fs ≡ done_at i w fs
      same_then v is = done_alike i fs v w (ap (beside i) is ∙ beside_it i t w)

  -- by equal acts to an equal site
  pub same : (w : World) (i : ℕ) (t u : site.SiteState) (es fs : List SiteEvent) → t ≡ u → es ≡ fs → Reaches valid public w i t es
      → Reaches valid public w i u fs
  same w i t u es fs there alike x = record {
    run = x.run;
    is_run = x.is_run;
    end = x.end ∙ ap (λ (s : site.SiteState). with_site i s w) there;
    told = x.told ∙ ap (done_at i w) alike;
  }

-- ---- whatever the world

-- from a site of a run, by these acts, to one of which this holds
abbrev pub Leads : Validity → Keys → ℕ → site.SiteState → List SiteEvent → (site.SiteState → Type 0) → Type 0
Leads valid public i s acts P = (t : site.SiteState) × P t × ((w : World) → w.site i ≡ s → Reaches valid public w i t acts)

module _ (valid : Validity) (public : Keys) (i : ℕ) (s : site.SiteState) where
  pub here : (P : site.SiteState → Type 0) → P s → Leads valid public i s [] P
  here P is = (s, is, λ w at. stays valid public w i s at)

  pub after : (es fs : List SiteEvent) (P Q : site.SiteState → Type 0) → Leads valid public i s es P
      → ((t : site.SiteState) → P t → Leads valid public i t fs Q) → Leads valid public i s (es ++ fs) Q
  after es fs P Q (t, is, way) more =
      let next = more t is in
      (next.0, next.1, λ w at. joined valid public w i t next.0 es fs (way w at) next.2)

  pub by_the_same : (es fs : List SiteEvent) (P : site.SiteState → Type 0) → es ≡ fs → Leads valid public i s es P → Leads valid public i s fs P
  by_the_same es fs P alike (t, is, way) = (t, is, λ w at. same valid public w i t t es fs refl alike (way w at))
