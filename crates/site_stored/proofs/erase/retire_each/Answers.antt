-- What is owed of `retire_each`.
use Rattle.std.proofs.Common.{◌∙◌, ◌+◌, List, arith, drop, refl, subst}
use Rattle.verification.specs.Records.{Credential}
use Rattle.site_state.specs.Table.{retired}
use Rattle.site_state.specs.RowViews.{row_view, rows_view}
use Rattle.site_rows.proofs.Causes.{passed_up}
use Rattle.site_stored.specs.Causes.{RefusesChange}
use Rattle.site_stored.specs.Private.{RetiresOne}
use Rattle.site_stored.proofs.Causes.{caused_since}
use Rattle.site_stored.proofs.Erased.{next_row, no_more_rows, refuses_all_retired}
use Rattle.site_stored.proofs.Erasing.{IsRetiring, all_retired, retiring_first, retiring_next}
use Rattle.site_stored.proofs.erase.retire_each.Goals as goal

pub loop-row-init : goal.loop-row-init
loop-row-init g c = record {
  ready = c.requires.ready.1;
  opened = c.requires.ready.0;
  reserved = (refl, refl);
  quiet = record { clean = λ clean. clean; counts = omega arith; crash = λ db is. is };
  reals = λ clean. refl;
  retiring = λ clean placed h. retiring_first (rows_view c.args.rows.now) placed (g.S.Store.view c.args.held.now.store) (g.S.Store.view c.args.held.now.store) refl h;
}

pub loop-row-preserved : goal.loop-row-preserved
loop-row-preserved g c = record {
  ready = c.in_ok-retire_one.ensures.leaves.ready;
  opened = c.in_ok-retire_one.ensures.leaves.opened;
  reserved = (c.in_ok-retire_one.ensures.reserved.0 ∙ c.loop-row.invariant.reserved.0, c.in_ok-retire_one.ensures.reserved.1 ∙ c.loop-row.invariant.reserved.1);
  quiet = record {
    clean = λ clean. c.loop-row.invariant.quiet.clean (c.in_ok-retire_one.ensures.leaves.quiet.clean clean);
    counts = omega (arith, c.loop-row.invariant.quiet.counts, c.in_ok-retire_one.ensures.leaves.quiet.counts);
    crash = λ db is. c.loop-row.invariant.quiet.crash db (c.in_ok-retire_one.ensures.leaves.quiet.crash db is);
  };
  reals = λ clean. c.in_ok-retire_one.ensures.reals clean ∙ c.loop-row.invariant.reals (c.in_ok-retire_one.ensures.leaves.quiet.clean clean);
  retiring = λ clean placed h.
      let is = subst (λ (l : List Credential). IsRetiring (rows_view c.args.rows.now) l placed (g.S.Store.view c.args.held.now.store) (g.S.Store.view c.loop-row.held.store)) (next_row c.args.rows.now c.loop-row.row-index c.row-item.result c.loop-row-test.true c.row-item.is)
      (c.loop-row.invariant.retiring (c.in_ok-retire_one.ensures.leaves.quiet.clean clean) placed h) in
      retiring_next (rows_view c.args.rows.now) (row_view c.row-item.result) (rows_view (drop (c.loop-row.row-index + 1) c.args.rows.now)) placed (g.S.Store.view c.args.held.now.store) (g.S.Store.view c.loop-row.held.store) (g.S.Store.view c.retire_one.new.held.store) is h.are
      (subst (λ id. RetiresOne is.mid id (g.S.Store.view c.loop-row.held.store) (g.S.Store.view c.retire_one.new.held.store)) c.deref.ensures.value
      (c.in_ok-retire_one.ensures.retired clean is.mid is.holds));
}

pub returns-clause-retired : goal.returns-clause-retired
returns-clause-retired g c = λ clean placed h user users.
    all_retired (rows_view c.args.rows.now) user placed (g.S.Store.view c.args.held.now.store) (g.S.Store.view c.loop-row.held.store) users
    (subst (λ (l : List Credential). IsRetiring (rows_view c.args.rows.now) l placed (g.S.Store.view c.args.held.now.store) (g.S.Store.view c.loop-row.held.store)) (no_more_rows c.args.rows.now c.loop-row.row-index c.loop-row-test.false)
    (c.loop-row.invariant.retiring clean placed h))

pub returns-in_err-retire_one-clause-cause : goal.returns-in_err-retire_one-clause-cause
returns-in_err-retire_one-clause-cause g c = λ clean.
    let before = c.in_err-retire_one.ensures.leaves.quiet.clean clean in
    passed_up c.from_residual.result c.in_err-retire_one.field-0.0 _ c.from_residual.ensures.1
    (caused_since (g.S.Store.view c.args.held.now.store) (g.S.Store.view c.loop-row.held.store) _ _ _ _ _ _ _ _ c.loop-row.invariant.quiet.counts
    (λ no user users. refuses_all_retired user (rows_view c.args.rows.now) (rows_view (drop (c.loop-row.row-index + 1) c.args.rows.now)) (row_view c.row-item.result) (g.S.Store.view c.args.held.now.store) (g.S.Store.view c.loop-row.held.store) (c.loop-row.invariant.reals before)
    (λ placed h. subst (λ (l : List Credential). IsRetiring (rows_view c.args.rows.now) l placed (g.S.Store.view c.args.held.now.store) (g.S.Store.view c.loop-row.held.store)) (next_row c.args.rows.now c.loop-row.row-index c.row-item.result c.loop-row-test.true c.row-item.is) (c.loop-row.invariant.retiring before placed h)) users
    (subst (λ id. RefusesChange (g.S.Store.view c.loop-row.held.store) id retired) c.deref.ensures.value no))
    (λ bad placed h. let is = c.loop-row.invariant.retiring before placed h in bad is.mid is.holds) (c.in_err-retire_one.ensures.cause clean))
