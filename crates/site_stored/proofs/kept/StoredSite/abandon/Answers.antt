-- What is owed of `StoredSite::abandon`.
use Rattle.std.proofs.Common.{◌≡◌, ◌∙◌, ap, None}
use Rattle.site_rows.proofs.Causes.{passed_up}
use Rattle.site_stored.specs.declared.session.SessionFailure.TheVariants as sessions
use Rattle.site_stored.proofs.Causes.{caused_since}
use Rattle.site_stored.proofs.Endings.{refuses_ending}
use Rattle.site_stored.proofs.Abandoning.{same_site, site_over, tells_ended, tells_none, untold_same, untold_sound}
use Rattle.site_stored.proofs.kept.StoredSite.abandon.Goals as goal

pub invariant_of-self : goal.invariant_of-self
invariant_of-self g c =
    untold_sound g.S.Store.view _ _ _ _ _ _ _ _ _ _ c.self.inside.held c.open_session.new.held c.in_err-given.field-0.0 c.self.invariant
    c.in_err-given.ensures.reads.reserved c.in_err-given.ensures.reads.failed

pub returns-in_err-given-clause-memory : goal.returns-in_err-given-clause-memory
returns-in_err-given-clause-memory g c =
    rw (← c.self.view_is) (λ memory. same_site _ _ _ _ _ _ _ _ _ _ c.self.inside.held c.open_session.new.held
    (untold_same c.self.inside.held c.open_session.new.held c.from_residual.result c.in_err-given.field-0.0 c.from_residual.ensures.1
    c.in_err-given.ensures.reads.failed memory))

pub returns-in_default-clause-told : goal.returns-in_default-clause-told
returns-in_default-clause-told g c =
    let s = site_over c.self.inside.party c.self.inside.policy c.self.inside.key c.self.inside.lifetime c.self.inside.next c.self.inside.mark
    c.self.inside.next_mark c.self.inside.count c.self.inside.last c.self.inside.most c.self.inside.held in
    rw (← c.self.view_is) (λ clean ended h.
    let nothing : c.in_ok-given.given ≡ None = cc in
    tells_none s c.args.now c.args.text.now ended c.in_ok-given.given (g.S.Store.view c.self.inside.held.store) (g.S.Store.view c.open_session.new.held.store) nothing
    (c.in_ok-given.ensures.session clean ended h) (ap (λ v. v.trees) (c.in_ok-given.ensures.reads.same.0.view clean)) h)

pub returns-clause-told : goal.returns-clause-told
returns-clause-told g c =
    let s = site_over c.self.inside.party c.self.inside.policy c.self.inside.key c.self.inside.lifetime c.self.inside.next c.self.inside.mark
    c.self.inside.next_mark c.self.inside.count c.self.inside.last c.self.inside.most c.self.inside.held in
    rw (← c.self.view_is) (λ clean ended h.
    let mid = c.in_ok-end_session.ensures.writes.quiet.clean clean in
    tells_ended s c.args.now c.args.text.now ended c.in_ok-given.given c.in-Some.given (g.S.Store.view c.self.inside.held.store) (g.S.Store.view c.open_session.new.held.store)
    (g.S.Store.view c.end_session.new.held.store) c.in-Some.is (c.in_ok-given.ensures.session mid ended h)
    (ap (λ v. v.trees) (c.in_ok-given.ensures.reads.same.0.view mid)) (c.in_ok-end_session.ensures.ended clean) h)

pub returns-in_default-clause-beside : goal.returns-in_default-clause-beside
returns-in_default-clause-beside g c =
    rw (← c.self.view_is) (λ clean tree apart. ap (λ v. v.trees tree) (c.in_ok-given.ensures.reads.same.0.view clean))

pub returns-clause-beside : goal.returns-clause-beside
returns-clause-beside g c =
    rw (← c.self.view_is) (λ clean tree apart. (c.in_ok-end_session.ensures.ended clean).others tree apart.0
    ∙ ap (λ v. v.trees tree) (c.in_ok-given.ensures.reads.same.0.view (c.in_ok-end_session.ensures.writes.quiet.clean clean)))

pub returns-in_err-end_session-clause-cause : goal.returns-in_err-end_session-clause-cause
returns-in_err-end_session-clause-cause g c =
    rw (← c.self.view_is) (λ clean.
    let old = g.S.Store.view c.self.inside.held.store in
    let mid = g.S.Store.view c.open_session.new.held.store in
    let before = c.in_err-end_session.ensures.writes.quiet.clean clean in
    passed_up c.from_residual-in_err-end_session.result (sessions.Store c.in_err-end_session.field-0.0) _ c.from_residual-in_err-end_session.ensures.1
    (caused_since old mid _ _ _ _ _ _ _ _ c.in_ok-given.ensures.reads.quiet.counts
    (λ no. refuses_ending 8 old mid (ap (λ v. v.reals) (c.in_ok-given.ensures.reads.same.0.view before)) no) (λ no. absurd no)
    (c.in_err-end_session.ensures.cause clean)))
