-- What a site keeps of its credentials, from one moment of a run to a later one.
use Rattle.std.proofs.Common.{◌≡◌, ◌≢◌, ℕ, List, [], ◌∷◌, ◌++◌, Some, None, refl, sym, ◌∙◌, ap, subst, inl, inr}
use Rattle.std.specs.List.{AllByRecursion as Each}
use Rattle.std.proofs.lemmas.Bool.Decides.{eqb_tells}
use Rattle.cose.specs.Schemes.{Validity}
use Rattle.verification.specs.Records.{Credential}
use Rattle.site_state.specs.Table.{row_of}
use Rattle.site_state.proofs.RowLemmas.{found_id}
use Rattle.site.specs.State.{SiteState}
use Rattle.site.specs.Laws.{IsKept}
use Rattle.site.proofs.Kept.{kept_here, kept_onward}
use Rattle.authenticator.specs.Steps.{Keys}
use Rattle.agreement.specs.World.{Asks, AtSite, Deletes, Done, Event, EventEnd, Happens, IsRun, Moment, Nothing, Reloads, World}
use Rattle.agreement.specs.Agreement.{Adds, AllSpans, IsDeleted, IsRegistration}
use Rattle.agreement.specs.Below.{Below}
use Rattle.agreement.proofs.Sites.{absent, stays}
use Rattle.agreement.proofs.Worlds.{Lived, Sound, lived}

-- this credential is not registered at the moment
abbrev pub NotAdded : ℕ → List ℕ → Moment → Type 0
NotAdded i id m = (c : Credential) → Adds m i c → c.id ≢ id

module _ (valid : Validity) (public : Keys) (b : Below valid public) where
  same_kept : (s t : SiteState) (id : List ℕ) (row : Credential) → t ≡ s → row_of id s.rows ≡ Some row → IsKept row t.rows
  same_kept s t id row same found =
      subst (λ (z : SiteState). IsKept row z.rows) (sym same)
      (kept_here s.rows row (ap (λ (k : List ℕ). row_of k s.rows) (found_id id s.rows row found) ∙ found))

  -- ---- at a moment

  kept_in : (m : Moment) (event : Event) (end : EventEnd) → m.event ≡ event → m.end ≡ end → Sound m.old → Happens valid public m.old event end m.new
      → (i : ℕ) (id : List ℕ) (row : Credential) → (IsDeleted i id m → ⊥) → row_of id (m.old.site i).rows ≡ Some row → IsKept row (m.new.site i).rows
  kept_in m event Nothing is ends sound h i id row never found = same_kept (m.old.site i) (m.new.site i) id row (ap (λ (w : World). w.site i) h) found
  kept_in m (AtSite j e) Done is ends sound h i id row never found = elim (eqb_tells i j) [
    | inl same ↦
        let x = stays valid public b (m.old.site j) h.0 e (sound.sites j).fresh h.1 in
        let there : m.new.site i ≡ h.0 = ap m.new.site same.1 ∙ h.2.now in
        let apart : e ≢ Deletes id = λ it. never (is ∙ ap (AtSite j) it ∙ ap (λ (k : ℕ). AtSite k (Deletes id)) (sym same.1), ends) in
        subst (λ (z : SiteState). IsKept row z.rows) (sym there)
        (x.rows id row apart (subst (λ (k : ℕ). row_of id (m.old.site k).rows ≡ Some row) same.1 found))
    | inr other ↦ same_kept (m.old.site i) (m.new.site i) id row (h.2.others i other.1) found
  ]
  kept_in m (Asks k channel bs consent words) Done is ends sound h i id row never found =
      same_kept (m.old.site i) (m.new.site i) id row (h.3.sites i) found
  kept_in m (Reloads k) Done is ends sound h i id row never found = same_kept (m.old.site i) (m.new.site i) id row (h.2.sites i) found

  pub kept_at : (m : Moment) → Lived valid public b m → (i : ℕ) (id : List ℕ) (row : Credential) → (IsDeleted i id m → ⊥)
      → row_of id (m.old.site i).rows ≡ Some row → IsKept row (m.new.site i).rows
  kept_at m l i id row never found = kept_in m m.event m.end refl refl l.sound l.happens i id row never found

  absent_in : (m : Moment) (event : Event) (end : EventEnd) → m.event ≡ event → m.end ≡ end → Happens valid public m.old event end m.new
      → (i : ℕ) (id : List ℕ) → NotAdded i id m → row_of id (m.old.site i).rows ≡ None → row_of id (m.new.site i).rows ≡ None
  absent_in m event Nothing is ends h i id never none = ap (λ (w : World). row_of id (w.site i).rows) h ∙ none
  absent_in m (AtSite j e) Done is ends h i id never none = elim (eqb_tells i j) [
    | inl same ↦
        let there : m.new.site i ≡ h.0 = ap m.new.site same.1 ∙ h.2.now in
        let adds : (c : Credential) → IsRegistration e → h.0.rows ≡ (m.old.site j).rows ++ c ∷ [] → c.id ≢ id =
        λ c one rows. never c (record {
          event = e;
          here = is ∙ ap (λ (k : ℕ). AtSite k e) (sym same.1);
          registration = one;
          done = ends;
          rows = ap (λ (z : SiteState). z.rows) there ∙ rows ∙ ap (λ (k : ℕ). (m.old.site k).rows ++ c ∷ []) (sym same.1);
        }) in
        ap (λ (z : SiteState). row_of id z.rows) there
        ∙ absent valid public b (m.old.site j) h.0 e h.1 id (subst (λ (k : ℕ). row_of id (m.old.site k).rows ≡ None) same.1 none) adds
    | inr other ↦ ap (λ (z : SiteState). row_of id z.rows) (h.2.others i other.1) ∙ none
  ]
  absent_in m (Asks k channel bs consent words) Done is ends h i id never none = ap (λ (z : SiteState). row_of id z.rows) (h.3.sites i) ∙ none
  absent_in m (Reloads k) Done is ends h i id never none = ap (λ (z : SiteState). row_of id z.rows) (h.2.sites i) ∙ none

  absent_at : (m : Moment) → Lived valid public b m → (i : ℕ) (id : List ℕ) → NotAdded i id m → row_of id (m.old.site i).rows ≡ None
      → row_of id (m.new.site i).rows ≡ None
  absent_at m l i id never none = absent_in m m.event m.end refl refl l.happens i id never none

  -- ---- from one to a later one

  -- a moment of a run, and how the sites come to there from a world, by these moments
  pub record Spans (between : List Moment) (w : World) (m : Moment) : Type 0 where
    pub lived : Lived valid public b m
    pub rows : (i : ℕ) (id : List ℕ) (row : Credential) → Each (λ x. IsDeleted i id x → ⊥) between → row_of id (w.site i).rows ≡ Some row
        → IsKept row (m.old.site i).rows
    pub none : (i : ℕ) (id : List ℕ) → Each (NotAdded i id) between → row_of id (w.site i).rows ≡ None → row_of id (m.old.site i).rows ≡ None

  spanned : (between later : List Moment) (l : Moment) (w : World) → Sound w → IsRun valid public w (between ++ l ∷ later) → Spans between w l
  spanned [] later l w sound run = record {
    lived = lived valid public b w l sound run.0 run.1;
    rows = λ i id row never found. same_kept (w.site i) (l.old.site i) id row (ap (λ (v : World). v.site i) run.0) found;
    none = λ i id never none. ap (λ (v : World). row_of id (v.site i).rows) run.0 ∙ none;
  }
  spanned (m ∷ ms) later l w sound run =
      let here = lived valid public b w m sound run.0 run.1 in
      let next = spanned ms later l m.new here.kept.sound run.2 in
      record {
        lived = next.lived;
        rows = λ i id row never found.
            let x = kept_at m here i id row never.0 (ap (λ (v : World). row_of id (v.site i).rows) run.0 ∙ found) in
            let same : row.id ≡ id = found_id id (w.site i).rows row found in
            let now = subst (λ (k : List ℕ). row_of k (m.new.site i).rows ≡ Some x.now) same x.found in
            kept_onward (l.old.site i).rows (m.new.site i).rows row x (next.rows i id x.now never.1 now)
            (found_id row.id (m.new.site i).rows x.now x.found);
        none = λ i id never none. next.none i id never.1 (absent_at m here i id never.0 (ap (λ (v : World). row_of id (v.site i).rows) run.0 ∙ none));
      }

  pub spans : (R : Moment → List Moment → Moment → Type 0)
      → ((m : Moment) (between : List Moment) (l : Moment) → Lived valid public b m → Spans between m.new l → R m between l)
      → (w : World) (run : List Moment) → Sound w → IsRun valid public w run → AllSpans R run
  spans R f w run sound is before between later m l same = from before w sound (subst (λ (ms : List Moment). IsRun valid public w ms) same is)
    where
      from : (before : List Moment) (v : World) → Sound v → IsRun valid public v (before ++ m ∷ (between ++ l ∷ later)) → R m between l
      from [] v sound run =
          let here = lived valid public b v m sound run.0 run.1 in
          f m between l here (spanned between later l m.new here.kept.sound run.2)
      from (x ∷ xs) v sound run = from xs x.new (lived valid public b v x sound run.0 run.1).kept.sound run.2
