-- What is owed of `retire_one`.
use Rattle.std.proofs.Common.{◌∙◌, ap}
use Rattle.site_rows.proofs.Causes.{passed_up}
use Rattle.site_stored.proofs.Causes.{caused_since}
use Rattle.site_stored.proofs.Changing.{refuses_retired}
use Rattle.site_stored.proofs.Erased.{retires_one}
use Rattle.site_stored.proofs.erase.retire_one.Goals as goal

pub returns-clause-retired : goal.returns-clause-retired
returns-clause-retired g c = λ clean placed h.
    let mid = c.in_ok-retire_found.ensures.leaves.quiet.clean clean in
    retires_one placed c.args.id.now c.in_ok-found.found _ c.in_ok-retire_found.field-0 (g.S.Store.view c.args.held.now.store) (g.S.Store.view c.find.new.self.store)
    (g.S.Store.view c.retire_found.new.held.store) (c.in_ok-found.ensures.found mid placed h) (ap (λ v. v.trees) (c.in_ok-found.ensures.reads.same.view mid))
    (λ same. ap (λ k. (g.S.Store.view k.store).trees) same) c.in_ok-retire_found.ensures.told clean h

pub returns-in_err-retire_found-clause-cause : goal.returns-in_err-retire_found-clause-cause
returns-in_err-retire_found-clause-cause g c = λ clean.
    let mid = c.in_err-retire_found.ensures.leaves.quiet.clean clean in
    passed_up c.from_residual-in_err-retire_found.result c.in_err-retire_found.field-0.0 _ c.from_residual-in_err-retire_found.ensures.1
    (caused_since (g.S.Store.view c.args.held.now.store) (g.S.Store.view c.find.new.self.store) _ _ _ _ _ _ _ _ c.in_ok-found.ensures.reads.quiet.counts
    (refuses_retired (g.S.Store.view c.args.held.now.store) (g.S.Store.view c.find.new.self.store) c.args.id.now c.in_ok-found.found
    (ap (λ v. v.reals) (c.in_ok-found.ensures.reads.same.view mid)) (c.in_ok-found.ensures.found mid)) (λ no. absurd no) (c.in_err-retire_found.ensures.cause clean))

pub returns-clause-reals : goal.returns-clause-reals
returns-clause-reals g c = λ clean.
    c.in_ok-retire_found.ensures.reals ∙ ap (λ v. v.reals) (c.in_ok-found.ensures.reads.same.view (c.in_ok-retire_found.ensures.leaves.quiet.clean clean))
