-- What is owed of `delete_one`.
use Rattle.std.proofs.Common.{◌∙◌, ap}
use Rattle.site_stored.proofs.Erased.{deletes_one}
use Rattle.site_stored.proofs.erase.delete_one.Goals as goal

pub returns-clause-deleted : goal.returns-clause-deleted
returns-clause-deleted g c = λ clean placed h.
    let mid = c.in_ok-was.ensures.leaves.quiet.clean clean in
    deletes_one placed c.args.id.now c.args.count _ c.in_ok-found.found _ c.in_ok-was.was' (g.S.Store.view c.args.held.now.store) (g.S.Store.view c.find.new.self.store)
    (g.S.Store.view c.delete_found.new.held.store) (c.in_ok-found.ensures.found mid placed h) (ap (λ v. v.trees) (c.in_ok-found.ensures.reads.same.view mid))
    (λ same. ap (λ k. (g.S.Store.view k.store).trees) same) c.in_ok-was.ensures.told c.without.ensures clean h

pub returns-clause-reals : goal.returns-clause-reals
returns-clause-reals g c = λ clean.
    c.in_ok-was.ensures.reals ∙ ap (λ v. v.reals) (c.in_ok-found.ensures.reads.same.view (c.in_ok-was.ensures.leaves.quiet.clean clean))
