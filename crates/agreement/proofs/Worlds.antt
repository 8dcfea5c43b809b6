-- What each world of a run keeps.
use Rattle.std.proofs.Common.{◌≡◌, ℕ, zero, suc, List, [], ◌∷◌, sym, subst, arith, inl, inr}
use Rattle.std.specs.List.{All, AllPairs}
use Rattle.std.specs.List.{AllByRecursion as Each}
use Rattle.std.proofs.lemmas.Bool.Decides.{eqb_tells}
use Rattle.std.proofs.lemmas.List.Elements.{All-append, All-from_recursion, All-nil, All-same}
use Rattle.cose.specs.Schemes.{Validity}
use Rattle.site.specs.State as site
use Rattle.site.specs.Laws.{IsFresh, IsGone}
use Rattle.authenticator.specs.Laws.{IsSound, SoundState}
use Rattle.authenticator.specs.Steps.{Keys}
use Rattle.authenticator.proofs.Stored.{each_weaker}
use Rattle.agreement.specs.World.{SiteActs, Asks, AtSite, ChangesHolder, ChangesSite, Done, EventEnd, Event, Happens, Holder, IsRun, IsStart, Moment}
use Rattle.agreement.specs.World.{Nothing, Reloads, SiteEvent, World, after_call, after_restart}
use Rattle.agreement.specs.Below.{Below}
use Rattle.agreement.proofs.Sites.{AreBytes, empty_bytes, stays}

-- each site's sessions have numbers that were given, and each authenticator has signed soundly
pub record SoundSite (s : site.SiteState) : Type 0 where
  pub fresh : IsFresh s
  pub bytes : AreBytes s

pub record SoundHolder (h : Holder) : Type 0 where
  pub state : SoundState h.state
  pub signed : All IsSound h.signed

pub record Sound (w : World) : Type 0 where
  pub sites : (i : ℕ) → SoundSite (w.site i)
  pub holders : (k : ℕ) → SoundHolder (w.holder k)

-- no session comes again
abbrev pub GoneStays : site.SiteState → site.SiteState → Type 0
GoneStays s t = (n : ℕ) → IsGone s n → IsGone t n

-- at no site
abbrev pub GoOn : World → World → Type 0
GoOn v w = (i : ℕ) → GoneStays (v.site i) (w.site i)

-- of a site that changed, and of the others
at_sites : (R : site.SiteState → site.SiteState → Type 0) (old new : World) (i : ℕ) (s : site.SiteState) → ChangesSite old new i s → R (old.site i) s
    → ((j : ℕ) → R (old.site j) (old.site j)) → (j : ℕ) → R (old.site j) (new.site j)
at_sites R old new i s change here same j = elim (eqb_tells j i) [
  | inl x ↦ subst (λ (l : ℕ). R (old.site l) (new.site l)) (sym x.1) (subst (R (old.site i)) (sym change.now) here)
  | inr x ↦ subst (R (old.site j)) (sym (change.others j x.1)) (same j)
]

at_holders : (P : Holder → Type 0) (old new : World) (k : ℕ) (h : Holder) → ChangesHolder old new k h → P h → ((j : ℕ) → P (old.holder j)) → (j : ℕ)
    → P (new.holder j)
at_holders P old new k h change here same j = elim (eqb_tells j k) [
  | inl x ↦ subst (λ (l : ℕ). P (new.holder l)) (sym x.1) (subst P (sym change.now) here)
  | inr x ↦ subst P (sym (change.others j x.1)) (same j)
]

module _ (valid : Validity) (public : Keys) (b : Below valid public) where
  pub record Kept (old new : World) : Type 0 where
    pub sound : Sound new
    pub goes_on : GoOn old new

  at_site : (old new : World) (i : ℕ) (e : SiteEvent) (s : site.SiteState) → Sound old → SiteActs valid (old.site i) e s → ChangesSite old new i s
      → Kept old new
  at_site old new i e s sound acts change =
      let x = stays valid public b (old.site i) s e (sound.sites i).fresh acts in
      let here : SoundSite s = record { fresh = x.fresh; bytes = x.bytes (sound.sites i).bytes } in
      record {
        sound = record {
          sites = at_sites (λ a z. SoundSite z) old new i s change here sound.sites;
          holders = λ k. subst SoundHolder (sym (change.holders k)) (sound.holders k);
        };
        goes_on = at_sites GoneStays old new i s change x.gone (λ j n gone. gone);
      }

  same_sites : (old new : World) → ((i : ℕ) → new.site i ≡ old.site i) → GoOn old new
  same_sites old new same i = subst (GoneStays (old.site i)) (sym (same i)) (λ n gone. gone)

  happened : (old new : World) (e : Event) (end : EventEnd) → Sound old → Happens valid public old e end new → Kept old new
  happened old new (AtSite i e) Done sound h = at_site old new i e h.0 sound h.1 h.2
  happened old new (Asks k channel bs consent words) Done sound h =
      let o = b.steps.sound (old.holder k).state channel bs consent words h.0 (sound.holders k).state h.1 h.2 in
      let here : SoundHolder (after_call (old.holder k) h.0) =
      record { state = o.state; signed = All-append IsSound (old.holder k).signed h.0.signed (sound.holders k).signed o.entries } in
      record {
        sound = record {
          sites = λ i. subst SoundSite (sym (h.3.sites i)) (sound.sites i);
          holders = at_holders SoundHolder old new k (after_call (old.holder k) h.0) h.3 here sound.holders;
        };
        goes_on = same_sites old new h.3.sites;
      }
  happened old new (Reloads k) Done sound h =
      let state = b.saving.sound (old.holder k).state h.0 (sound.holders k).state h.1 in
      let here : SoundHolder (after_restart (old.holder k) h.0) = record { state = state; signed = (sound.holders k).signed } in
      record {
        sound = record {
          sites = λ i. subst SoundSite (sym (h.2.sites i)) (sound.sites i);
          holders = at_holders SoundHolder old new k (after_restart (old.holder k) h.0) h.2 here sound.holders;
        };
        goes_on = same_sites old new h.2.sites;
      }
  happened old new (AtSite i e) Nothing sound h = subst (Kept old) (sym h) (record { sound = sound; goes_on = λ j n gone. gone })
  happened old new (Asks k channel bs consent words) Nothing sound h =
      subst (Kept old) (sym h) (record { sound = sound; goes_on = λ j n gone. gone })
  happened old new (Reloads k) Nothing sound h = subst (Kept old) (sym h) (record { sound = sound; goes_on = λ j n gone. gone })

  -- ---- runs

  -- a moment of a run
  pub record Lived (m : Moment) : Type 0 where
    pub sound : Sound m.old
    pub happens : Happens valid public m.old m.event m.end m.new
    pub kept : Kept m.old m.new

  pub lived : (w : World) (m : Moment) → Sound w → m.old ≡ w → Happens valid public m.old m.event m.end m.new → Lived m
  lived w m sound start is =
      let here : Sound m.old = subst Sound (sym start) sound in
      record { sound = here; happens = is; kept = happened m.old m.new m.event m.end here is }

  -- a moment of a run, and how the sites went on to there
  pub record Since (w : World) (m : Moment) : Type 0 where
    pub lived : Lived m
    pub goes_on : GoOn w m.old

  pub since : (v w : World) (ms : List Moment) → Sound w → GoOn v w → IsRun valid public w ms → Each (Since v) ms
  since v w [] sound goes run = tt
  since v w (m ∷ ms) sound goes run =
      let l = lived w m sound run.0 run.1 in
      let here : GoOn v m.old = λ i. subst (λ (x : World). GoneStays (v.site i) (x.site i)) (sym run.0) (goes i) in (
        record { lived = l; goes_on = here },
        since v m.new ms l.kept.sound (λ i n gone. l.kept.goes_on i n (here i n gone)) run.2,
      )

  pub at_start : (w : World) → GoOn w w
  at_start w i n gone = gone

  -- ---- each moment and each later one

  abbrev EachPair : (Moment → Moment → Type 0) → List Moment → Type 0
  EachPair R [] = Unit {0}
  EachPair R (m ∷ ms) = Each (R m) ms × EachPair R ms

  pub each_both : (P Q R : Moment → Type 0) → ((m : Moment) → P m → Q m → R m) → (ms : List Moment) → Each P ms → Each Q ms → Each R ms
  each_both P Q R f [] h k = tt
  each_both P Q R f (m ∷ ms) h k = (f m h.0 k.0, each_both P Q R f ms h.1 k.1)

  each_pair : (R : Moment → Moment → Type 0) → ((m l : Moment) → Lived m → Since m.new l → R m l) → (w : World) (ms : List Moment) → Sound w
      → IsRun valid public w ms → EachPair R ms
  each_pair R f w [] sound run = tt
  each_pair R f w (m ∷ ms) sound run =
      let l = lived w m sound run.0 run.1 in (
        each_weaker (Since m.new) (R m) (λ x s. f m x l s) ms (since m.new m.new ms l.kept.sound (at_start m.new) run.2),
        each_pair R f m.new ms l.kept.sound run.2,
      )

  pairs_at : (R : Moment → Moment → Type 0) (ms : List Moment) → EachPair R ms → AllPairs R ms
  pairs_at R [] h i j d lt within = absurd (omega arith)
  pairs_at R (m ∷ ms) h i zero d lt within = absurd (omega arith)
  pairs_at R (m ∷ ms) h zero (suc j) d lt within = All-from_recursion (R m) ms h.0 j d (omega arith)
  pairs_at R (m ∷ ms) h (suc i) (suc j) d lt within = pairs_at R ms h.1 i j d (omega arith) (omega arith)

  pub pairs : (R : Moment → Moment → Type 0) → ((m l : Moment) → Lived m → Since m.new l → R m l) → (w : World) (ms : List Moment) → Sound w
      → IsRun valid public w ms → AllPairs R ms
  pairs R f w ms sound run = pairs_at R ms (each_pair R f w ms sound run)

  pub starts : (w : World) → IsStart w → Sound w
  starts w start = record {
    sites = λ i. record {
      fresh = (b.sites.starts (w.site i) (start.sites i)).0;
      bytes = empty_bytes (w.site i) (start.sites i);
    };
    holders = λ k.
        let h = start.holders k in
        record {
          state = subst SoundState (sym h.state) (b.steps.begins h.aaguid h.uv h.attest);
          signed = All-same IsSound (w.holder k).signed [] h.signed (All-nil IsSound);
        };
  }
