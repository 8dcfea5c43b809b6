-- A credential that is deleted is registered no more, until its id is registered again.
use Rattle.std.proofs.Common.{◌≡◌, ℕ, List, None, Some, sym, ◌∙◌, ap}
use Rattle.std.proofs.lemmas.List.Elements.{recursion_from_All}
use Rattle.cose.specs.Schemes.{Validity}
use Rattle.site_state.specs.Table.{row_of}
use Rattle.site.specs.State.{SiteState}
use Rattle.authenticator.specs.Steps.{Keys}
use Rattle.agreement.specs.World.{AtSite, Deletes, Moment, after_delete}
use Rattle.agreement.specs.Agreement.{Deleting, IsDeleted, StaysDeleted}
use Rattle.agreement.specs.Below.{Below}
use Rattle.agreement.proofs.Accepted.{known}
use Rattle.agreement.proofs.Retired.{effect_at}
use Rattle.agreement.proofs.Rows.{none_left, others_left}
use Rattle.agreement.proofs.Spans.{NotAdded, Spans}
use Rattle.agreement.proofs.Worlds.{Lived}

module _ (valid : Validity) (public : Keys) (b : Below valid public) where
  now : (m : Moment) (i : ℕ) (id : List ℕ) → Lived valid public b m → IsDeleted i id m → m.new.site i ≡ after_delete (m.old.site i) id
  now m i id l is = let effect = effect_at valid public b m (AtSite i (Deletes id)) l is.0 is.1 in effect.2.now ∙ effect.1

  pub deleting : (m : Moment) → Lived valid public b m → Deleting m
  deleting m l = record {
    deletes = λ i id is. ap (λ (z : SiteState). row_of id z.rows) (now m i id l is) ∙ none_left id (m.old.site i).rows;
    others = λ i id other is apart. ap (λ (z : SiteState). row_of other z.rows) (now m i id l is) ∙ others_left id other (m.old.site i).rows apart;
    refuses = λ i n id r none brings done same.
        let k = known valid public b m l i n r brings done in
        let bad : None ≡ Some k.0 = sym none ∙ ap (λ (j : List ℕ). row_of j (m.old.site i).rows) (sym same) ∙ k.1.tries.found in
        absurd cc;
  }

  pub stays_deleted : (m : Moment) (between : List Moment) (l : Moment) → Lived valid public b m → Spans valid public b between m.new l
      → StaysDeleted m between l
  stays_deleted m between l lm s i id none each = s.none i id (recursion_from_All (NotAdded i id) between each) none
