-- What is owed of `read_all`.
use Rattle.std.proofs.Common.{◌≡◌, None, rules, subst, sym}
use Rattle.site_rows.proofs.Causes.{passed_up}
use Rattle.site_rows.proofs.Seeks.{some_of}
use Rattle.site_state.specs.RowViews.{rows_view}
use Rattle.site_stored.specs.Private.{AreCredentials}
use Rattle.site_stored.proofs.Reading.{row_cause}
use Rattle.site_stored.proofs.ReadTo.{IsReadTo, read_one, read_whole}
use Rattle.site_stored.proofs.listing.read_all.Goals as goal

pub returns-in_default-clause-rows : goal.returns-in_default-clause-rows
returns-in_default-clause-rows g c clean placed are =
    let none : c.in_ok-credential.field-0 ≡ None = cc in
    let inv = c.loop-read.invariant.3 (c.in_ok-credential.ensures.reads.same.clean clean) in
    read_whole ((g.S.Store.view c.args.store.now).trees 0) inv.0 c.loop-read.rows.items placed inv.2 (c.in_ok-credential.ensures.ended none clean inv.0 inv.1) are

pub loop-read-preserved : goal.loop-read-preserved
loop-read-preserved g c = (
  search rules,
  search rules,
  search rules,
  λ clean.
      let all = (g.S.Store.view c.args.store.now).trees 0 in
      let inv = c.loop-read.invariant.3 (c.in_ok-credential.ensures.reads.same.clean clean) in
      let step = some_of c.in_ok-credential.field-0 c.in-Some.credential _ c.in-Some.is c.in_ok-credential.ensures.read clean inv.0 inv.1 in (
        step.1,
        step.3,
        subst (λ items. IsReadTo all (rows_view items) step.1) (sym c.in_ok-push.ensures.items)
            (read_one all inv.0 step.1 c.loop-read.rows.items step.0 c.in-Some.credential inv.2 step.2),
        λ are. (subst AreCredentials step.2 (inv.3 are)).1,
      ),
  search rules,
  search rules,
  search rules,
)

pub returns-in_err-credential-clause-cause : goal.returns-in_err-credential-clause-cause
returns-in_err-credential-clause-cause g c = λ clean.
    let old = g.S.Store.view c.args.store.now in
    let before = c.in_err-credential.ensures.reads.quiet.clean clean in
    let inv = c.loop-read.invariant.3 before in
    passed_up c.from_residual-in_err-credential.result c.in_err-credential.field-0.0 _ c.from_residual-in_err-credential.ensures.1
    (row_cause old (g.S.Store.view c.loop-read.store) _ _ _ _ _ inv.0 (c.loop-read.invariant.1.view before) c.loop-read.invariant.4 inv.1 inv.3
    (c.in_err-credential.ensures.cause clean))
