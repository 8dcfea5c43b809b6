-- What is owed of `credential_at`.
use Rattle.std.proofs.Common.{◌≡◌, false, inr, refl, rules, true}
use Rattle.site_state.specs.RowViews.{row_view}
use Rattle.site_rows.proofs.Standing.{credential_there, not_there, row_there}
use Rattle.site_rows.proofs.finding.credential_at.Goals as goal

pub returns-in-Ok-clause-there : goal.returns-in-Ok-clause-there
returns-in-Ok-clause-there g c = λ clean placed are.
    let found : c.in_ok-get.field-0 ≡ true = cc in
    credential_there placed c.args.place (row_view c.in-Ok.credential) c.get.new.row ((g.S.Store.view c.args.store.now).trees 0) _ c.in_ok-get.field-0 found
    (search rules) (c.in_ok-get.ensures.ok clean) are c.in-Ok.ensures.read

pub returns-then-not-branch-clause-cause : goal.returns-then-not-branch-clause-cause
returns-then-not-branch-clause-cause g c = λ clean. inr (
  refl,
  λ placed h d there.
      let none : c.in_ok-get.field-0 ≡ false = cc in
      not_there placed c.args.place d c.get.new.row ((g.S.Store.view c.args.store.now).trees 0) _ c.in_ok-get.field-0 none (search rules)
      (c.in_ok-get.ensures.ok clean) h.table there,
)

pub returns-in-Err-BadRow-clause-cause : goal.returns-in-Err-BadRow-clause-cause
returns-in-Err-BadRow-clause-cause g c = λ clean. inr (
  refl,
  λ placed h d there.
      let found : c.in_ok-get.field-0 ≡ true = cc in
      let x = row_there placed c.args.place c.get.new.row ((g.S.Store.view c.args.store.now).trees 0) _ c.in_ok-get.field-0 found (search rules)
      (c.in_ok-get.ensures.ok clean) h.table in
      c.in-Err-BadRow.ensures.none (search rules) x.0 (h.are.stored c.args.place x.0 x.1).0 x.2,
)
