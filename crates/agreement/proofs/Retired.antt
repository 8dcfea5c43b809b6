-- A credential that was retired stays retired until it is deleted.
use Rattle.std.proofs.Common.{◌≡◌, inl, inr, ℕ, List, [], ◌∷◌, ◌++◌, Some, None, refl, sym, ◌∙◌, ap, subst}
use Rattle.std.proofs.lemmas.List.{append_cancel_left}
use Rattle.std.proofs.lemmas.List.Elements.{recursion_from_All}
use Rattle.cose.specs.Schemes.{Validity}
use Rattle.verification.specs.Records.{Credential}
use Rattle.site_state.specs.Table.{retired, row_of}
use Rattle.site_state.proofs.RowLemmas.{found_id}
use Rattle.site.specs.State.{SiteState, registered}
use Rattle.site.specs.Laws.{IsKept, after_retire}
use Rattle.site.proofs.Kept.{row_changed}
use Rattle.authenticator.specs.Steps.{Keys}
use Rattle.agreement.specs.World.{AtSite, Done, EventEffect, EventEnd, Event, Happens, Moment, Retires}
use Rattle.agreement.specs.Agreement.{IsDeleted, IsRefusedThere, IsRetired, Retiring, StaysRetired}
use Rattle.agreement.specs.Below.{Below}
use Rattle.agreement.proofs.Sites.{registers, unregistered}
use Rattle.agreement.proofs.Spans.{Spans, kept_at}
use Rattle.agreement.proofs.Worlds.{Lived}
use Rattle.agreement.proofs.Accepted.{accepted}

one_last : (xs : List Credential) (a c : Credential) → xs ++ a ∷ [] ≡ xs ++ c ∷ [] → a ≡ c
one_last xs a c e = let same : a ∷ [] ≡ c ∷ [] = append_cancel_left xs (a ∷ []) (c ∷ []) e in cc

module _ (valid : Validity) (public : Keys) (b : Below valid public) where
  pub effect_at : (m : Moment) (e : Event) → Lived valid public b m → m.event ≡ e → m.end ≡ Done → EventEffect valid public m.old e m.new
  effect_at m e l is done =
      subst (λ (x : Event). EventEffect valid public m.old x m.new) is (subst (λ (x : EventEnd). Happens valid public m.old m.event x m.new) done l.happens)

  -- it is still there, and retired
  kept : (s t : SiteState) (id : List ℕ) (x : IsRetired s id) → IsKept x.row t.rows → IsRetired t id
  kept s t id x k = record {
    row = k.now;
    found = subst (λ j. row_of j t.rows ≡ Some k.now) (found_id id s.rows x.row x.found) k.found;
    retired = k.retired x.retired;
  }

  refused : (m : Moment) (i : ℕ) (id : List ℕ) → Lived valid public b m → IsRetired (m.old.site i) id → IsRefusedThere m i id
  refused m i id l x = record {
    signs_in = λ n r low acc same.
        let a = accepted valid public b m i n r low l acc in
        b.sites.retired_refused (m.old.site i) n r x.row (ap (λ k. row_of k (m.old.site i).rows) same ∙ x.found) x.retired a.passes;
    registers = λ c adds same.
        let effect = effect_at m (AtSite i adds.event) l adds.here adds.done in
        let y = registers valid public b (m.old.site i) effect.0 adds.event effect.1 adds.registration in
        let after = y.2.after in
        let rows : (m.old.site i).rows ++ c ∷ [] ≡ (m.old.site i).rows ++ registered after.0 after.2 after.3 ∷ [] =
        sym adds.rows ∙ ap (λ z. z.rows) (effect.2.now ∙ after.6) in
        let new : c ≡ registered after.0 after.2 after.3 = one_last (m.old.site i).rows c (registered after.0 after.2 after.3) rows in
        let absent = unregistered valid public b (m.old.site i) effect.0 y.0 y.1 y.2 in
        let id_is : after.3.id ≡ id = sym (ap (λ (z : Credential). z.id) new) ∙ same in
        let bad : Some x.row ≡ None = sym x.found ∙ ap (λ k. row_of k (m.old.site i).rows) (sym id_is) ∙ absent in
        cc;
  }

  pub retiring : (m : Moment) → Lived valid public b m → Retiring m
  retiring m l = record {
    retires = λ i id row is done found.
        let effect = effect_at m (AtSite i (Retires id)) l is done in
        let site : m.new.site i ≡ after_retire (m.old.site i) id = effect.2.now ∙ effect.1 in
        record {
          row = retired row;
          found = ap (λ z. row_of id z.rows) site ∙ row_changed id retired (m.old.site i).rows row (λ x. refl) found;
          retired = refl;
        };
    refuses = λ i id x. (
      refused m i id l x,
      λ stays. kept (m.old.site i) (m.new.site i) id x (kept_at valid public b m l i id x.row stays x.found),
    );
  }

  pub stays_retired : (m : Moment) (between : List Moment) (l : Moment) → Lived valid public b m → Spans valid public b between m.new l
      → StaysRetired m between l
  stays_retired m between l lm s i id x undeleted =
      let each = recursion_from_All (λ y. IsDeleted i id y → ⊥) (m ∷ between) undeleted in
      let now : IsRetired (m.new.site i) id = elim x [
        | inl old ↦ kept (m.old.site i) (m.new.site i) id old (kept_at valid public b m lm i id old.row each.0 old.found)
        | inr new ↦ new
      ] in
      let there = kept (m.new.site i) (l.old.site i) id now (s.rows i id now.row each.1 now.found) in (there, refused l i id s.lived there)
