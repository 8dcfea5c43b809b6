-- What is owed of `open_over`.
use Rattle.std.proofs.Common.{sym, ◌∙◌, subst, inl, inr}
use Rattle.sqlite_trees.specs.View.{IsClean}
use Rattle.site_files.specs.Earlier.{IsEarlier}
use Rattle.site_files.proofs.Found.{open_if_sound}
use Rattle.site_files.proofs.opening.open_over.Goals as goal

pub returns-in-Ok-clause-found : goal.returns-in-Ok-clause-found
returns-in-Ok-clause-found g c clean =
    let was = c.args.store in
    let shown = g.S.Store.view was in
    let now = (g.S.Store.view c.in-Ok.site.store).trees in
    let sound = c.in-Ok.ensures.quiet.clean clean in
    let live = λ (here : IsClean shown).
    open_if_sound shown.is_open shown.is_broken (g.met.S.Store.broken_if_shut was) (sym (c.is_broken.ensures here) ∙ c.if-is_broken.false) in
    elim c.in_ok-store.ensures.found [
      | inl same ↦ let here = subst (λ s. IsClean (g.S.Store.view s)) same sound in
          let found = subst (λ s. g.S.Store.recovers s now) same (c.in-Ok.ensures.found clean) in
          (here, live here, inl (g.met.S.Store.settled was now (live here) found))
      | inr first ↦ let f = first sound in (f.0, live f.0, inr (subst (λ n. IsEarlier n shown.trees) c.rp_id.ensures f.1))
    ]
