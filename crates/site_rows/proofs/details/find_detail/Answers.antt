-- What is owed of `find_detail`.
use Rattle.std.proofs.Common.{◌≡◌, rules, true, false, sym, ◌∙◌}
use Rattle.site_rows.proofs.DetailTables.{not_found, there}
use Rattle.site_rows.proofs.details.find_detail.Goals as goal

pub returns-then-not-branch-clause-found : goal.returns-then-not-branch-clause-found
returns-then-not-branch-clause-found g c = λ clean details h.
    let none : c.in_ok-get.field-0 ≡ false = cc in
    sym (not_found details c.args.place c.get.new.row ((g.S.Store.view c.args.store.now).trees 5) _ c.in_ok-get.field-0 none (search rules)
    (c.in_ok-get.ensures.ok clean) h)

pub returns-clause-found : goal.returns-clause-found
returns-clause-found g c = λ clean details h.
    let found : c.in_ok-get.field-0 ≡ true = cc in
    let at = there details c.args.place c.get.new.row ((g.S.Store.view c.args.store.now).trees 5) _ c.in_ok-get.field-0 found (search rules)
    (c.in_ok-get.ensures.ok clean) h in
    c.in_ok-found.ensures c.args.place at.0 at.2 ∙ sym at.1
