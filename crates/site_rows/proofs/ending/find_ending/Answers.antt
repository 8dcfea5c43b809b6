-- What is owed of `find_ending`.
use Rattle.std.proofs.Common.{◌≡◌, true, false, sym, ap, ◌∙◌, inr, refl, rules, None}
use Rattle.std.specs.Prelude.{Some}
use Rattle.site_rows.proofs.EndingTables.{not_found, there}
use Rattle.site_rows.proofs.ending.find_ending.Goals as goal

pub returns-then-not-branch-clause-found : goal.returns-then-not-branch-clause-found
returns-then-not-branch-clause-found g c = λ clean endings h.
    let none : c.in_ok-get.field-0 ≡ false = cc in
    sym (not_found endings c.args.number c.get.new.row ((g.S.Store.view c.args.store.now).trees c.args.tree) _ c.in_ok-get.field-0 none (search rules)
    (c.in_ok-get.ensures.ok clean) h)

pub returns-in-Some-clause-found : goal.returns-in-Some-clause-found
returns-in-Some-clause-found g c = λ clean endings h.
    let found : c.in_ok-get.field-0 ≡ true = cc in
    let at = there endings c.args.number c.get.new.row ((g.S.Store.view c.args.store.now).trees c.args.tree) _ c.in_ok-get.field-0 found (search rules)
    (c.in_ok-get.ensures.ok clean) h in
    sym c.in-Some.is ∙ c.read_ending.ensures c.args.number at.0 at.2 ∙ sym at.1

pub returns-clause-cause : goal.returns-clause-cause
returns-clause-cause g c = λ clean. inr (
  refl,
  λ endings h.
      let found : c.in_ok-get.field-0 ≡ true = cc in
      let at = there endings c.args.number c.get.new.row ((g.S.Store.view c.args.store.now).trees c.args.tree) _ c.in_ok-get.field-0 found (search rules)
      (c.in_ok-get.ensures.ok clean) h in
      let read : None ≡ Some at.0 = sym c.in-None.is ∙ c.read_ending.ensures c.args.number at.0 at.2 in
      absurd cc,
)
