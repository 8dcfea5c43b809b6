-- What is owed of `find_all`.
use Rattle.std.proofs.Common.{◌≡◌, ◌^◌, ◌-◌, [], ◌∷◌, None, ap, arith, inr, length, refl, rules, subst, sym, ◌∙◌}
use Rattle.sqlite_value.specs.Keys.{plain}
use Rattle.sqlite_value.specs.declared.value.Value.TheVariants.{Blob}
use Rattle.sqlite_trees.specs.Tree.{from_key}
use Rattle.site_state.specs.RowViews.{rows_view}
use Rattle.site_rows.specs.Private.{AreEntries}
use Rattle.site_rows.proofs.Causes.{passed_up, read_cause_since}
use Rattle.site_rows.proofs.Seeks.{some_of}
use Rattle.site_rows.proofs.Standing.{entries_of}
use Rattle.site_rows.proofs.Users.{IsReadTo, all_from, at_first, next_there, read_all, read_few, read_one}
use Rattle.site_rows.proofs.listing.find_all.Goals as goal

pub loop-read-init : goal.loop-read-init
loop-read-init g c = (
  search rules,
  search rules,
  search rules,
  search rules,
  c.in_ok-seek_key.ensures.sorted,
  λ clean are.
      let db = (g.S.Store.view c.args.store.now).trees in
      let left = from_key plain (Blob c.args.user.now ∷ []) (db 4) in (
        left,
        c.in_ok-seek_key.ensures.sought clean,
        all_from _ (Blob c.args.user.now ∷ []) (db 4) are,
        subst (λ items. IsReadTo c.args.user.now (db 4) (db 0) (rows_view items) left) (sym c.new-rows.ensures.items)
            (at_first c.args.user.now (db 4) (db 0) left (λ _. left)),
      ),
  search rules,
  search rules,
)

pub returns-in_default-clause-rows : goal.returns-in_default-clause-rows
returns-in_default-clause-rows g c clean placed holds =
    let db = (g.S.Store.view c.args.store.now).trees in
    let none : c.in_ok-credential.field-0 ≡ None = cc in
    let before = c.in_ok-credential.ensures.reads.quiet.clean clean in
    let inv = c.loop-read.invariant.5 before (entries_of (λ d. d.user) placed (db 4) holds.are holds.by_user) in
    read_all c.args.user.now db c.loop-read.rows.items inv.0 placed (c.loop-read.invariant.4 before) holds inv.3
    (c.in_ok-credential.ensures.past none clean inv.0 inv.1 inv.2)

pub loop-read-preserved : goal.loop-read-preserved
loop-read-preserved g c = (
  search rules,
  search rules,
  search rules,
  search rules,
  λ clean. c.loop-read.invariant.4 (c.in_ok-credential.ensures.reads.quiet.clean clean),
  λ clean are.
      let db = (g.S.Store.view c.args.store.now).trees in
      let before = c.in_ok-credential.ensures.reads.quiet.clean clean in
      let inv = c.loop-read.invariant.5 before are in
      let step = some_of c.in_ok-credential.field-0 c.in-Some.credential _ c.in-Some.is c.in_ok-credential.ensures.read clean inv.0 inv.1 inv.2 in
      let same = ap (λ v. v.trees 0) (c.loop-read.invariant.1.view before) in (
        step.1,
        step.3,
        (subst AreEntries step.2 inv.2).1,
        subst (λ items. IsReadTo c.args.user.now (db 4) (db 0) (rows_view items) step.1) (sym c.in_ok-push.ensures.items)
            (read_one c.args.user.now (db 4) (db 0) inv.0 step.1 c.loop-read.rows.items step.0 c.in-Some.credential inv.3 step.2
            (λ placed table. step.4 placed (same ∙ table))),
      ),
  search rules,
  search rules,
)

pub returns-in_err-credential-clause-cause : goal.returns-in_err-credential-clause-cause
returns-in_err-credential-clause-cause g c = λ clean.
    let db = (g.S.Store.view c.args.store.now).trees in
    let before = c.in_err-credential.ensures.reads.quiet.clean clean in
    let same = c.loop-read.invariant.1.view before in
    passed_up c.from_residual-in_err-credential.result c.in_err-credential.field-0.0 _ c.from_residual-in_err-credential.ensures.1
    (read_cause_since (g.S.Store.view c.args.store.now) (g.S.Store.view c.loop-read.store) _ _ _ _ _ _
    (ap (λ v. v.is_broken) same) (ap (λ v. v.trees) same) c.loop-read.invariant.6
    (λ placed h none.
    let inv = c.loop-read.invariant.5 before (entries_of (λ d. d.user) placed (db 4) h.are h.by_user) in
    let at = none inv.0 inv.1 inv.2 in
    let x = next_there c.args.user.now db (rows_view c.loop-read.rows.items) inv.0 at.1 at.0 placed h inv.3 at.2 in
    absurd (at.3 x.0 x.1))
    (c.in_err-credential.ensures.cause clean))

pub returns-clause-cause : goal.returns-clause-cause
returns-clause-cause g c = λ clean. inr (
  refl,
  λ placed h.
      let db = (g.S.Store.view c.args.store.now).trees in
      let inv = c.loop-read.invariant.5 clean (entries_of (λ d. d.user) placed (db 4) h.are h.by_user) in
      let few = read_few c.args.user.now db c.loop-read.rows.items inv.0 placed (c.loop-read.invariant.4 clean) h inv.3 in
      let all : length c.loop-read.rows.items ≡ 2 ^ 32 - 1 = search rules in
      omega (arith, few, all),
)
