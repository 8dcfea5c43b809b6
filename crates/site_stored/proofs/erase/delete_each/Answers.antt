-- What is owed of `delete_each`.
use Rattle.std.proofs.Common.{◌∙◌, ◌+◌, List, arith, drop, refl, subst}
use Rattle.verification.specs.Records.{Credential}
use Rattle.site_state.specs.RowViews.{row_view, rows_view}
use Rattle.site_rows.proofs.Causes.{passed_up}
use Rattle.site_stored.specs.Private.{DeletesOne}
use Rattle.site_stored.proofs.Causes.{caused_since}
use Rattle.site_stored.proofs.Erased.{next_row, no_more_rows}
use Rattle.site_stored.proofs.Erasing.{IsErasing, erased, erasing_first, erasing_next}
use Rattle.site_stored.proofs.erase.delete_each.Goals as goal

pub loop-row-init : goal.loop-row-init
loop-row-init g c = record {
  ready = c.requires.ready.1;
  opened = c.requires.ready.0;
  reserved = (refl, refl);
  quiet = record { clean = λ clean. clean; counts = omega arith; crash = λ db is. is };
  reals = λ clean. refl;
  erasing = λ clean placed h. erasing_first (rows_view c.args.rows.now) c.args.count placed (g.S.Store.view c.args.held.now.store) (g.S.Store.view c.args.held.now.store) refl h;
}

pub loop-row-preserved : goal.loop-row-preserved
loop-row-preserved g c = record {
  ready = c.in_ok-left.ensures.leaves.ready;
  opened = c.in_ok-left.ensures.leaves.opened;
  reserved = (c.in_ok-left.ensures.reserved.0 ∙ c.loop-row.invariant.reserved.0, c.in_ok-left.ensures.reserved.1 ∙ c.loop-row.invariant.reserved.1);
  quiet = record {
    clean = λ clean. c.loop-row.invariant.quiet.clean (c.in_ok-left.ensures.leaves.quiet.clean clean);
    counts = omega (arith, c.loop-row.invariant.quiet.counts, c.in_ok-left.ensures.leaves.quiet.counts);
    crash = λ db is. c.loop-row.invariant.quiet.crash db (c.in_ok-left.ensures.leaves.quiet.crash db is);
  };
  reals = λ clean. c.in_ok-left.ensures.reals clean ∙ c.loop-row.invariant.reals (c.in_ok-left.ensures.leaves.quiet.clean clean);
  erasing = λ clean placed h.
      let is = subst (λ (l : List Credential). IsErasing (rows_view c.args.rows.now) l c.args.count c.loop-row.left placed (g.S.Store.view c.args.held.now.store) (g.S.Store.view c.loop-row.held.store)) (next_row c.args.rows.now c.loop-row.row-index c.row-item.result c.loop-row-test.true c.row-item.is)
      (c.loop-row.invariant.erasing (c.in_ok-left.ensures.leaves.quiet.clean clean) placed h) in
      erasing_next (rows_view c.args.rows.now) (row_view c.row-item.result) (rows_view (drop (c.loop-row.row-index + 1) c.args.rows.now)) c.args.count c.loop-row.left c.in_ok-left.left placed (g.S.Store.view c.args.held.now.store) (g.S.Store.view c.loop-row.held.store) (g.S.Store.view c.delete_one.new.held.store) is h.are
      (subst (λ id. DeletesOne is.mid id c.loop-row.left c.in_ok-left.left (g.S.Store.view c.loop-row.held.store) (g.S.Store.view c.delete_one.new.held.store)) c.deref.ensures.value
      (c.in_ok-left.ensures.deleted clean is.mid is.holds));
}

pub returns-clause-erased : goal.returns-clause-erased
returns-clause-erased g c = λ clean placed h user users.
    erased (rows_view c.args.rows.now) user c.args.count c.loop-row.left placed (g.S.Store.view c.args.held.now.store) (g.S.Store.view c.loop-row.held.store) users
    (subst (λ (l : List Credential). IsErasing (rows_view c.args.rows.now) l c.args.count c.loop-row.left placed (g.S.Store.view c.args.held.now.store) (g.S.Store.view c.loop-row.held.store)) (no_more_rows c.args.rows.now c.loop-row.row-index c.loop-row-test.false)
    (c.loop-row.invariant.erasing clean placed h))

pub returns-in_err-left-clause-cause : goal.returns-in_err-left-clause-cause
returns-in_err-left-clause-cause g c = λ clean.
    let before = c.in_err-left.ensures.leaves.quiet.clean clean in
    passed_up c.from_residual.result c.in_err-left.field-0.0 _ c.from_residual.ensures.1
    (caused_since (g.S.Store.view c.args.held.now.store) (g.S.Store.view c.loop-row.held.store) _ _ _ _ _ _ _ _ c.loop-row.invariant.quiet.counts
    (λ no. no)
    (λ bad placed h. let is = c.loop-row.invariant.erasing before placed h in bad is.mid is.holds) (c.in_err-left.ensures.cause clean))
