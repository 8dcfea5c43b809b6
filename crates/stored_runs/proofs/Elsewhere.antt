-- What happens elsewhere happens whatever site i is.
use Rattle.std.proofs.Common.{◌≡◌, ◌≢◌, ℕ, List, [], ◌∷◌, refl, sym, ◌∙◌, ap, subst, inl, inr}
use Rattle.std.proofs.lemmas.Bool.Decides.{eqb_tells}
use Rattle.std.specs.Prelude.{◌==◌, if◌then◌else◌}
use Rattle.cose.specs.Schemes.{Validity}
use Rattle.site.specs.State as site
use Rattle.authenticator.specs.Steps.{Keys}
use Rattle.agreement.specs.World.{Asks, AtSite, ChangesHolder, ChangesSite, Done, Event, EventEnd, Happens, Holder, Nothing, Reloads, SiteActs, World}
use Rattle.agreement.specs.Lived.{with_site}
use Rattle.stored_runs.specs.Among.{IsElsewhere, Told, WorldBeside, beside}
use Rattle.stored_runs.specs.Stored.{acts_at, told_at}

module _ (i : ℕ) (t : site.SiteState) where
  -- other sites are as they were
  pub other_site : (w : World) (j : ℕ) → j ≢ i → (with_site i t w).site j ≡ w.site j
  other_site w j apart = elim (eqb_tells j i) [
    | inl same ↦ absurd (apart same.1)
    | inr x ↦ ap (λ b. if b then t else w.site j) x.0
  ]

  changes_too : (old new : World) (j : ℕ) (s : site.SiteState) → j ≢ i → ChangesSite old new j s → ChangesSite (with_site i t old) (with_site i t new) j s
  changes_too old new j s apart is = record {
    now = other_site new j apart ∙ is.now;
    others = λ l other. ap (λ (x : site.SiteState). if l == i then t else x) (is.others l other);
    holders = is.holders;
  }

  holder_too : (old new : World) (k : ℕ) (h : Holder) → ChangesHolder old new k h → ChangesHolder (with_site i t old) (with_site i t new) k h
  holder_too old new k h is = record {
    now = is.now;
    others = is.others;
    sites = λ l. ap (λ (x : site.SiteState). if l == i then t else x) (is.sites l);
  }

  pub happens_too : (valid : Validity) (public : Keys) (old new : World) (e : Event) (end : EventEnd) → IsElsewhere i e → Happens valid public old e end new
      → Happens valid public (with_site i t old) e end (with_site i t new)
  happens_too valid public old new e Nothing apart h = ap (with_site i t) h
  happens_too valid public old new (AtSite j e) Done apart h =
      (h.0, subst (λ (x : site.SiteState). SiteActs valid x e h.0) (sym (other_site old j apart)) h.1, changes_too old new j h.0 apart h.2)
  happens_too valid public old new (Asks k channel bs consent words) Done apart h = (h.0, h.1, h.2, holder_too old new k _ h.3)
  happens_too valid public old new (Reloads k) Done apart h = (h.0, h.1, holder_too old new k _ h.2)

abbrev pub told_as : Event → EventEnd → WorldBeside → List Told
told_as e end b = record { event = e; end = end; world = b } ∷ []

-- it is reported as it is
pub told_elsewhere : (i : ℕ) (e : Event) (end : EventEnd) (w : World) → IsElsewhere i e
    → told_at i w e end ≡ told_as e end (beside i w)
told_elsewhere i (AtSite j e) end w apart = elim (eqb_tells j i) [
  | inl same ↦ absurd (apart same.1)
  | inr x ↦ ap (λ b. if b then acts_at i w e end else told_as (AtSite j e) end (beside i w)) x.0
]
told_elsewhere i (Asks k channel bs consent words) end w apart = refl
told_elsewhere i (Reloads k) end w apart = refl
