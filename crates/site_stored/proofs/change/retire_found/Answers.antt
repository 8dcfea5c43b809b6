-- What is owed of `retire_found`.
use Rattle.std.proofs.Common.{◌∙◌, ap, subst}
use Rattle.std.specs.FinMap as finite
use Rattle.site_state.specs.Table.{retired}
use Rattle.site_state.specs.RowViews.{row_view}
use Rattle.site_rows.specs.Held.{IsWritten}
use Rattle.site_rows.proofs.Causes.{passed_up}
use Rattle.sqlite_trees.specs.View.{IsStorableRow}
use Rattle.site_rows.specs.Rows.{credential_row}
use Rattle.site_stored.proofs.Causes.{caused_as}
use Rattle.site_stored.proofs.change.retire_found.Goals as goal

pub returns-clause-told : goal.returns-clause-told
returns-clause-told g c = (
  c.in-Some.found,
  c.in-Some.is,
  c.if-found.false,
  λ clean placed holds there.
      let is = c.retired.ensures ∙ ap retired c.lent.ensures in
      subst (λ x. IsWritten (g.S.Store.view c.args.held.now.store) (g.S.Store.view c.set.new.self.store) (finite.insert placed c.in-Some.found.place x)) is
      (c.in_ok-set.ensures.written clean placed (row_view c.in-Some.found.credential) holds there (ap (λ x. x.id) is) (ap (λ x. x.user) is)),
)

pub returns-in_err-set-clause-cause : goal.returns-in_err-set-clause-cause
returns-in_err-set-clause-cause g c = λ clean.
    passed_up c.from_residual.result c.in_err-set.field-0.0 _ c.from_residual.ensures.1
    (caused_as (g.S.Store.view c.args.held.now.store) _ _ _ _ _ _ _
    (λ no. (
      c.in-Some.found,
      c.in-Some.is,
      subst (λ x. ¬ IsStorableRow ((g.S.Store.view c.args.held.now.store).reals 0) (credential_row c.in-Some.found.place x)) (c.retired.ensures ∙ ap retired c.lent.ensures) no,
    )) (λ no. no) (c.in_err-set.ensures.cause clean))
