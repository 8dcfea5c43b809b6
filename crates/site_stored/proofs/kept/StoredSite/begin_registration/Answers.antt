-- What is owed of `StoredSite::begin_registration`.
use Rattle.std.proofs.Common.{◌∙◌, ap, subst}
use Rattle.site_rows.proofs.Causes.{passed_up}
use Rattle.site_seal.specs.Seal.{ordered, registration}
use Rattle.site_state.specs.Sessions.{IsInput, IsNotExpected, OpensRegistration, registration_of}
use Rattle.site_stored.proofs.Beginning.{no_number_cause, not_begun, same_text, site_not_begun}
use Rattle.site_stored.proofs.kept.StoredSite.begin_registration.Goals as goal

pub returns-in_err-check_number-clause-begins : goal.returns-in_err-check_number-clause-begins
returns-in_err-check_number-clause-begins g c =
    not_begun g.S.Store c.args.self.now _ _ _ c.from_residual.result c.in_err-check_number.field-0.0 c.from_residual.ensures.1
    (c.in_err-check_number.ensures.not (OpensRegistration c.args.user.now (ordered c.args.algorithms.now) c.args.uv c.args.words c.args.asks))
    (λ t. let same = c.in_err-check_number.ensures.shut t in cc)

pub returns-in_err-check_number-clause-cause : goal.returns-in_err-check_number-clause-cause
returns-in_err-check_number-clause-cause g c = λ clean.
    passed_up c.from_residual.result c.in_err-check_number.field-0.0 _ c.from_residual.ensures.1
    (no_number_cause c.args.self.now (g.S.Store.view c.args.self.now.store) _ _ _ _ c.in_err-check_number.field-0.0 c.in_err-check_number.ensures.not)

pub returns-in_err-expected-clause-begins : goal.returns-in_err-expected-clause-begins
returns-in_err-expected-clause-begins g c =
    not_begun g.S.Store c.args.self.now _ _ _ c.from_residual-in_err-expected.result _ c.from_residual-in_err-expected.ensures.1
    (site_not_begun c.args.self.now (OpensRegistration c.args.user.now (ordered c.args.algorithms.now) c.args.uv c.args.words c.args.asks) c.in_err-expected.field-0.0
    (subst (λ l. IsNotExpected (IsInput c.args.self.now.rp.profile (OpensRegistration c.args.user.now l c.args.uv c.args.words c.args.asks)) c.in_err-expected.field-0.0)
    c.algorithms_in_order-offered.ensures.same (c.in_err-expected.ensures.refused c.args.self.now.rp.profile)))
    (λ t. let is_open = c.in_ok-check_number.ensures.may.0 in absurd cc)

pub returns-clause-begins : goal.returns-clause-begins
returns-clause-begins g c =
    let o = OpensRegistration c.args.user.now (ordered c.args.algorithms.now) c.args.uv c.args.words c.args.asks in
    let time = rw (← c.self.view_is) at c.ends_at-ends.ensures in
    c.begun.ensures.begins o c.args.words c.args.now
    (rw (← c.self.view_is) (ap (λ e. e.challenge) c.in_ok-expected.ensures.expected))
    (rw (← c.self.view_is) (same_text c.self.inside.key _ _ registration c.in_ok-text.text.items _ _ _ _
    c.in_ok-text.ensures.sealed time c.rp_id_hash.ensures (c.in_ok-expected.ensures.expected
    ∙ ap (λ l. registration_of c.self.inside.next c.args.user.now l c.args.uv c.args.words c.args.asks) c.algorithms_in_order-offered.ensures.same)))
    (subst (λ l. IsInput c.args.self.now.rp.profile (OpensRegistration c.args.user.now l c.args.uv c.args.words c.args.asks))
    c.algorithms_in_order-offered.ensures.same (c.in_ok-expected.ensures.input c.args.self.now.rp.profile))
