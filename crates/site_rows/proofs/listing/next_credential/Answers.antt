-- What is owed of `next_credential`.
use Rattle.std.proofs.Common.{ap}
use Rattle.site_rows.proofs.Causes.{passed_up, read_cause_since}
use Rattle.site_rows.proofs.Seeks.{some_of}
use Rattle.site_rows.proofs.listing.next_credential.Goals as goal

pub returns-in_err-credential-clause-cause : goal.returns-in_err-credential-clause-cause
returns-in_err-credential-clause-cause g c = λ clean.
    let before = c.in_err-credential.ensures.reads.quiet.clean clean in
    let same = c.in_ok-place.ensures.reads.same.view before in
    passed_up c.from_residual-in_err-credential.result c.in_err-credential.field-0.0 _ c.from_residual-in_err-credential.ensures.1
    (read_cause_since (g.S.Store.view c.args.store.now) (g.S.Store.view c.next_place.new.store) _ _ _ _ _ _
    (ap (λ v. v.is_broken) same) (ap (λ v. v.trees) same) c.in_ok-place.ensures.reads.quiet.counts
    (λ placed h none left at are.
    let step = some_of c.in_ok-place.field-0 c.in-Some.place _ c.in-Some.is c.in_ok-place.ensures.place before left at are in
    (c.in-Some.place, step.0, step.1, none))
    (c.in_err-credential.ensures.cause clean))
