-- What is owed of `find`.
use Rattle.std.proofs.Common.{◌≡◌, None, ap, ◌∙◌}
use Rattle.site_rows.proofs.Seeks.{some_of}
use Rattle.site_state.specs.RowViews.{row_view}
use Rattle.site_rows.proofs.Standing.{at_entry, entries_of, indexed_there, none_at}
use Rattle.site_rows.proofs.Causes.{passed_up, read_cause_since}
use Rattle.site_rows.proofs.finding.find.Goals as goal

pub returns-in_default-clause-none : goal.returns-in_default-clause-none
returns-in_default-clause-none g c = λ _ clean placed h.
    let es = (g.S.Store.view c.args.store.now).trees 3 in
    let nothing : c.in_ok-place.field-0 ≡ None = cc in
    let none = c.in_ok-place.ensures.none nothing clean (entries_of (λ d. d.id) placed es h.are h.by_id) in
    none_at placed c.args.id.now es h.by_id none

pub returns-clause-found : goal.returns-clause-found
returns-clause-found g c = λ clean placed h.
    let es = (g.S.Store.view c.args.store.now).trees 3 in
    let before = c.in_ok-credential.ensures.reads.same.clean clean in
    let same = c.in_ok-place.ensures.reads.same.view before in
    let there = c.in_ok-credential.ensures.there clean placed (ap (λ v. v.trees 0) same ∙ h.table) in
    at_entry placed c.args.id.now c.in-Some.place (row_view c.in_ok-credential.credential) es h.by_id
    (some_of c.in_ok-place.field-0 c.in-Some.place _ c.in-Some.is c.in_ok-place.ensures.place before (entries_of (λ d. d.id) placed es h.are h.by_id)) there

pub returns-in_err-credential-clause-cause : goal.returns-in_err-credential-clause-cause
returns-in_err-credential-clause-cause g c = λ clean.
    let old = g.S.Store.view c.args.store.now in
    let before = c.in_err-credential.ensures.reads.quiet.clean clean in
    let same = c.in_ok-place.ensures.reads.same.view before in
    passed_up c.from_residual-in_err-credential.result c.in_err-credential.field-0.0 _ c.from_residual-in_err-credential.ensures.1
    (read_cause_since old (g.S.Store.view c.first_place.new.store) _ _ _ _ _ _
    (ap (λ v. v.is_broken) same) (ap (λ v. v.trees) same) c.in_ok-place.ensures.reads.quiet.counts
    (λ placed h none.
    let x = indexed_there (λ d. d.id) placed c.args.id.now c.in-Some.place (old.trees 3) h.by_id
    (some_of c.in_ok-place.field-0 c.in-Some.place _ c.in-Some.is c.in_ok-place.ensures.place before (entries_of (λ d. d.id) placed (old.trees 3) h.are h.by_id)) in
    none x.0 x.1)
    (c.in_err-credential.ensures.cause clean))
