-- What is owed of `StoredSite::finish_registration_parts`.
use Rattle.std.proofs.Common.{◌+◌, ◌∙◌, Bool, ap, arith, inl, inr, refl, subst, sym}
use Rattle.std.proofs.lemmas.Grind.{common_steps}
use Rattle.std.proofs.lemmas.Result.{err_from_is_err_and}
use Rattle.std.specs.FinMap as finite
use Rattle.std.specs.Option.{option_copied}
use Rattle.std.specs.Prelude.{IfSome, Some, option_map}
use Rattle.verification.specs.Records.{ExpectedRegistration}
use Rattle.verification.specs.RegistrationAnswers.{IsRefused as RegistrationRefused, new_credential}
use Rattle.verification.specs.Views.{registration_parts_view, registration_view}
use Rattle.site_state.specs.Details.{detail_view}
use Rattle.site_state.specs.RowViews.{row_view}
use Rattle.site_rows.specs.Causes.{IsRefused}
use Rattle.site_rows.specs.Details.{HoldsDetails}
use Rattle.site_rows.specs.Held.{HasNone, Holds, IsWritten}
use Rattle.site_rows.proofs.Causes.{passed_up}
use Rattle.site_stored.specs.Calls.{is_full}
use Rattle.site_stored.specs.Private.{Admits, IsOpenIn, admitted_as, judged_by}
use Rattle.site_stored.specs.Summaries.{with_aaguid}
use Rattle.site_stored.specs.declared.failure.FinishFailure.TheVariants as finishes
use Rattle.site_stored.proofs.Abandoning.{same_site, site_over, untold_sound}
use Rattle.site_stored.proofs.Causes.{caused_since}
use Rattle.site_stored.proofs.Endings.{held_ended, refuses_ending, sessions_stay}
use Rattle.site_stored.proofs.Finishing.{kept_on, memory_not_finished, not_finished, same_over, same_views, untold_not_finished}
use Rattle.site_stored.proofs.Held.{details_stay, held_beside}
use Rattle.site_stored.proofs.Registering.{admits_since, awaits, refuses_detail, refuses_new, refuses_registration, registers, the_session, written_last}
use Rattle.site_stored.proofs.SessionTexts.{ends_open}
use Rattle.site_stored.proofs.kept.StoredSite.finish_registration_parts.Goals as goal

pub invariant_of-self : goal.invariant_of-self
invariant_of-self g c =
    untold_sound g.S.Store.view _ _ _ _ _ _ _ _ _ _ c.self.inside.held c.open_registration.new.held c.in_err-given.field-0.0 c.self.invariant
    c.in_err-given.ensures.reads.reserved c.in_err-given.ensures.reads.failed

pub returns-in_err-given-clause-refused : goal.returns-in_err-given-clause-refused
returns-in_err-given-clause-refused g c =
    rw (← c.self.view_is) (untold_not_finished g.S.Store.view _ _ c.self.inside.held c.open_registration.new.held c.in_err-given.field-0.0 _ c.from_residual.result
    c.from_residual.ensures.1 c.if-self.false
    (same_site c.self.inside.party c.self.inside.policy c.self.inside.key c.self.inside.lifetime c.self.inside.next c.self.inside.mark
    c.self.inside.next_mark c.self.inside.count c.self.inside.last c.self.inside.most c.self.inside.held c.open_registration.new.held) refl (λ clean placed held ended users h k. tt)
    c.in_err-given.ensures.reads.failed)

pub returns-in_err-judged-clause-refused : goal.returns-in_err-judged-clause-refused
returns-in_err-judged-clause-refused g c =
    let p = err_from_is_err_and c.from_residual-in_err-judged.result c.from_residual-in_err-judged.ensures.1 in
    let s = site_over c.self.inside.party c.self.inside.policy c.self.inside.key c.self.inside.lifetime c.self.inside.next c.self.inside.mark
    c.self.inside.next_mark c.self.inside.count c.self.inside.last c.self.inside.most c.self.inside.held in
    rw (p.1, p.2, ← c.self.view_is) (not_finished g.S.Store.view _ _ _ _ _ c.in_err-judged.field-0.0 c.if-self.false
    (λ same. same_over g.S.Store.view c.self.inside.party c.self.inside.policy c.self.inside.key c.self.inside.lifetime c.self.inside.next c.self.inside.mark
    c.self.inside.next_mark c.self.inside.count c.self.inside.last c.self.inside.most c.self.inside.held c.judge.new.held
    (kept_on c.self.inside.held c.open_registration.new.held c.judge.new.held c.in_ok-given.ensures.reads.same.1 same.1)
    (same_views (g.S.Store.view c.self.inside.held.store) (g.S.Store.view c.open_registration.new.held.store) (g.S.Store.view c.judge.new.held.store) c.in_ok-given.ensures.reads.same.0 same.0))
    (λ why refused clean placed held ended users h k.
    let first = c.in_err-judged.ensures.quiet.clean clean in
    let opened_same = ap (λ v. v.trees) (c.in_ok-given.ensures.reads.same.0.view first) in
    refuses_registration (g.V.Verifier.valid c.args.verifier.now) placed ended users s c.args.now c.args.text.now (option_map (λ e. registration_view e.now) c.expected_in-expected.result) (registration_parts_view c.args.response.now) why
    (awaits s ended users c.args.now c.args.text.now c.in_ok-given.given (option_map (λ e. registration_view e.now) c.expected_in-expected.result) (c.in_ok-given.ensures.session first ended users h k) c.expected_in-expected.ensures)
    (λ is_registered tells. subst (λ (full : Bool). RegistrationRefused (g.V.Verifier.valid c.args.verifier.now) (judged_by c.self.inside.party c.self.inside.policy (option_map (λ e. registration_view e.now) c.expected_in-expected.result) (registration_parts_view c.args.response.now) is_registered full) why) c.is_full.ensures
    (refused clean placed (subst (Holds placed) (sym opened_same) held.holds.credentials) is_registered tells)))
    c.in_err-judged.ensures.refused)

pub returns-in_err-row-clause-refused : goal.returns-in_err-row-clause-refused
returns-in_err-row-clause-refused g c =
    rw (← c.self.view_is) (memory_not_finished g.S.Store.view _ _ c.in_err-row.field-0.0 _ c.from_residual-in_err-row.result
    c.from_residual-in_err-row.ensures.1 c.in_err-row.ensures.memory
    (same_over g.S.Store.view c.self.inside.party c.self.inside.policy c.self.inside.key c.self.inside.lifetime c.self.inside.next c.self.inside.mark
    c.self.inside.next_mark c.self.inside.count c.self.inside.last c.self.inside.most c.self.inside.held c.judge.new.held (kept_on c.self.inside.held c.open_registration.new.held c.judge.new.held c.in_ok-given.ensures.reads.same.1 c.in_ok-judged.ensures.same.1)
    (same_views (g.S.Store.view c.self.inside.held.store) (g.S.Store.view c.open_registration.new.held.store) (g.S.Store.view c.judge.new.held.store) c.in_ok-given.ensures.reads.same.0 c.in_ok-judged.ensures.same.0))
    (λ clean placed held ended users h k. tt))

pub returns-in_err-registered-clause-refused : goal.returns-in_err-registered-clause-refused
returns-in_err-registered-clause-refused g c =
    rw (← c.self.view_is) (memory_not_finished g.S.Store.view _ _ c.in_err-registered.field-0.0 _ c.from_residual-in_err-registered.result
    c.from_residual-in_err-registered.ensures.1 c.in_err-registered.ensures.memory
    (same_over g.S.Store.view c.self.inside.party c.self.inside.policy c.self.inside.key c.self.inside.lifetime c.self.inside.next c.self.inside.mark
    c.self.inside.next_mark c.self.inside.count c.self.inside.last c.self.inside.most c.self.inside.held c.judge.new.held (kept_on c.self.inside.held c.open_registration.new.held c.judge.new.held c.in_ok-given.ensures.reads.same.1 c.in_ok-judged.ensures.same.1)
    (same_views (g.S.Store.view c.self.inside.held.store) (g.S.Store.view c.open_registration.new.held.store) (g.S.Store.view c.judge.new.held.store) c.in_ok-given.ensures.reads.same.0 c.in_ok-judged.ensures.same.0))
    (λ clean placed held ended users h k. tt))

pub returns-in_err-add-clause-cause : goal.returns-in_err-add-clause-cause
returns-in_err-add-clause-cause g c =
    let s = site_over c.self.inside.party c.self.inside.policy c.self.inside.key c.self.inside.lifetime c.self.inside.next c.self.inside.mark
    c.self.inside.next_mark c.self.inside.count c.self.inside.last c.self.inside.most c.self.inside.held in
    rw (← c.self.view_is) (λ clean.
    let mid = c.in_err-add.ensures.writes.quiet.clean clean in
    let first = c.in_ok-judged.ensures.quiet.clean mid in
    let opened_same = ap (λ v. v.trees) (c.in_ok-given.ensures.reads.same.0.view first) in
    let reals = ap (λ v. v.reals) (c.in_ok-judged.ensures.same.0.view mid) ∙ ap (λ v. v.reals) (c.in_ok-given.ensures.reads.same.0.view first) in
    passed_up c.from_residual-in_err-add.result (finishes.Store c.in_err-add.field-0.0) _ c.from_residual-in_err-add.ensures.1
    (caused_since (g.S.Store.view c.self.inside.held.store) (g.S.Store.view c.judge.new.held.store) _ _ _ _ _ _ _ _ (omega (arith, c.in_ok-given.ensures.reads.quiet.counts, c.in_ok-judged.ensures.quiet.counts))
    (λ no. inl (inl (refuses_new (g.V.Verifier.valid c.args.verifier.now) s (option_map (λ e. registration_view e.now) c.expected_in-expected.result) (registration_parts_view c.args.response.now) c.in_ok-registered.registered.credential c.in_ok-judged.judged.verified (g.S.Store.view c.self.inside.held.store) (g.S.Store.view c.judge.new.held.store)
    (admits_since (g.V.Verifier.valid c.args.verifier.now) c.self.inside.party c.self.inside.policy (option_map (λ e. registration_view e.now) c.expected_in-expected.result) (registration_parts_view c.args.response.now) (is_full s) c.in_ok-judged.judged.verified (g.S.Store.view c.self.inside.held.store) (g.S.Store.view c.open_registration.new.held.store) (g.S.Store.view c.judge.new.held.store) opened_same
    (subst (λ (full : Bool). Admits (g.V.Verifier.valid c.args.verifier.now) c.self.inside.party c.self.inside.policy (option_map (λ e. registration_view e.now) c.expected_in-expected.result) (registration_parts_view c.args.response.now) full c.in_ok-judged.judged.verified (g.S.Store.view c.open_registration.new.held.store) (g.S.Store.view c.judge.new.held.store)) c.is_full.ensures c.in_ok-judged.ensures.accepted))
    (λ e asked. ap row_view c.in_ok-registered.ensures.row ∙ c.in_ok-row.ensures.row ∙ ap (admitted_as c.unwrap.result.now.user.items) c.in_ok-judged.ensures.admitted
    ∙ ap (λ (k : ExpectedRegistration). admitted_as k.user (new_credential c.in_ok-judged.judged.verified)) (the_session c.expected_in-expected.result c.unwrap.result e c.unwrap.ensures asked)) reals
    (subst (IsRefused (g.S.Store.view c.judge.new.held.store).reals (c.self.inside.last + 1)) c.lent.ensures no))))
    (λ no. absurd no) (c.in_err-add.ensures.cause clean)))

pub returns-in_err-put_detail-clause-cause : goal.returns-in_err-put_detail-clause-cause
returns-in_err-put_detail-clause-cause g c =
    let s = site_over c.self.inside.party c.self.inside.policy c.self.inside.key c.self.inside.lifetime c.self.inside.next c.self.inside.mark
    c.self.inside.next_mark c.self.inside.count c.self.inside.last c.self.inside.most c.self.inside.held in
    rw (← c.self.view_is) (λ clean.
    let put_clean = c.in_err-put_detail.ensures.writes.quiet.clean clean in
    let mid = c.in_ok-add.ensures.writes.quiet.clean put_clean in
    let first = c.in_ok-judged.ensures.quiet.clean mid in
    let opened_same = ap (λ v. v.trees) (c.in_ok-given.ensures.reads.same.0.view first) in
    let reals = ap (λ v. v.reals) (c.in_ok-judged.ensures.same.0.view mid) ∙ ap (λ v. v.reals) (c.in_ok-given.ensures.reads.same.0.view first) in
    passed_up c.from_residual-in_err-put_detail.result (finishes.Store c.in_err-put_detail.field-0.0) _ c.from_residual-in_err-put_detail.ensures.1
    (caused_since (g.S.Store.view c.self.inside.held.store) (g.S.Store.view c.add.new.self.store) _ _ _ _ _ _ _ _
    (omega (arith, c.in_ok-given.ensures.reads.quiet.counts, c.in_ok-judged.ensures.quiet.counts, c.in_ok-add.ensures.writes.quiet.counts))
    (λ no. inl (refuses_detail (g.V.Verifier.valid c.args.verifier.now) s (option_map (λ e. registration_view e.now) c.expected_in-expected.result) (registration_parts_view c.args.response.now) c.in_ok-judged.judged.verified (detail_view c.args.detail) _ (g.S.Store.view c.self.inside.held.store) (g.S.Store.view c.judge.new.held.store) (g.S.Store.view c.add.new.self.store)
    (admits_since (g.V.Verifier.valid c.args.verifier.now) c.self.inside.party c.self.inside.policy (option_map (λ e. registration_view e.now) c.expected_in-expected.result) (registration_parts_view c.args.response.now) (is_full s) c.in_ok-judged.judged.verified (g.S.Store.view c.self.inside.held.store) (g.S.Store.view c.open_registration.new.held.store) (g.S.Store.view c.judge.new.held.store) opened_same
    (subst (λ (full : Bool). Admits (g.V.Verifier.valid c.args.verifier.now) c.self.inside.party c.self.inside.policy (option_map (λ e. registration_view e.now) c.expected_in-expected.result) (registration_parts_view c.args.response.now) full c.in_ok-judged.judged.verified (g.S.Store.view c.open_registration.new.held.store) (g.S.Store.view c.judge.new.held.store)) c.is_full.ensures c.in_ok-judged.ensures.accepted))
    c.in_ok-registered.ensures.detail (c.in_ok-add.ensures.writes.reals ∙ reals) no))
    (λ no. absurd no) (c.in_err-put_detail.ensures.cause clean)))

pub returns-in_err-end_session-clause-cause : goal.returns-in_err-end_session-clause-cause
returns-in_err-end_session-clause-cause g c =
    rw (← c.self.view_is) (λ clean.
    let ended_clean = c.in_err-end_session.ensures.writes.quiet.clean clean in
    let put_clean = c.in_ok-put_detail.ensures.writes.quiet.clean ended_clean in
    let mid = c.in_ok-add.ensures.writes.quiet.clean put_clean in
    let first = c.in_ok-judged.ensures.quiet.clean mid in
    let reals = ap (λ v. v.reals) (c.in_ok-judged.ensures.same.0.view mid) ∙ ap (λ v. v.reals) (c.in_ok-given.ensures.reads.same.0.view first) in
    passed_up c.from_residual-in_err-end_session.result (finishes.Store c.in_err-end_session.field-0.0) _ c.from_residual-in_err-end_session.ensures.1
    (caused_since (g.S.Store.view c.self.inside.held.store) (g.S.Store.view c.put_detail.new.self.store) _ _ _ _ _ _ _ _
    (omega (arith, c.in_ok-given.ensures.reads.quiet.counts, c.in_ok-judged.ensures.quiet.counts, c.in_ok-add.ensures.writes.quiet.counts, c.in_ok-put_detail.ensures.writes.quiet.counts))
    (λ no. inr (refuses_ending 8 (g.S.Store.view c.self.inside.held.store) (g.S.Store.view c.put_detail.new.self.store) (c.in_ok-put_detail.ensures.writes.reals ∙ c.in_ok-add.ensures.writes.reals ∙ reals) no)) (λ no. absurd no)
    (c.in_err-end_session.ensures.cause clean)))

pub returns-clause-accepted : goal.returns-clause-accepted
returns-clause-accepted g c =
    let s = site_over c.self.inside.party c.self.inside.policy c.self.inside.key c.self.inside.lifetime c.self.inside.next c.self.inside.mark
    c.self.inside.next_mark c.self.inside.count c.self.inside.last c.self.inside.most c.self.inside.held in
    rw (← c.self.view_is) (λ clean placed held ended users h k.
    let ended_clean = c.in_ok-end_session.ensures.writes.quiet.clean clean in
    let put_clean = c.in_ok-put_detail.ensures.writes.quiet.clean ended_clean in
    let mid = c.in_ok-add.ensures.writes.quiet.clean put_clean in
    let first = c.in_ok-judged.ensures.quiet.clean mid in
    let opened_same = ap (λ v. v.trees) (c.in_ok-given.ensures.reads.same.0.view first) in
    let same = ap (λ v. v.trees) (c.in_ok-judged.ensures.same.0.view mid) ∙ opened_same in
    let x = registers (g.V.Verifier.valid c.args.verifier.now) placed s (site_over c.self.inside.party c.self.inside.policy c.self.inside.key c.self.inside.lifetime c.self.inside.next c.self.inside.mark
    c.self.inside.next_mark (c.self.inside.count + 1) (c.self.inside.last + 1) c.self.inside.most c.end_session.new.held) ended users (option_map (λ e. registration_view e.now) c.expected_in-expected.result) c.args.now c.args.text.now (registration_parts_view c.args.response.now)
    c.in_ok-registered.registered c.in_ok-judged.judged.verified (g.S.Store.view c.self.inside.held.store) (g.S.Store.view c.judge.new.held.store) (g.S.Store.view c.add.new.self.store)
    (awaits s ended users c.args.now c.args.text.now c.in_ok-given.given (option_map (λ e. registration_view e.now) c.expected_in-expected.result) (c.in_ok-given.ensures.session first ended users h k) c.expected_in-expected.ensures)
    (admits_since (g.V.Verifier.valid c.args.verifier.now) c.self.inside.party c.self.inside.policy (option_map (λ e. registration_view e.now) c.expected_in-expected.result) (registration_parts_view c.args.response.now) (is_full s) c.in_ok-judged.judged.verified (g.S.Store.view c.self.inside.held.store) (g.S.Store.view c.open_registration.new.held.store) (g.S.Store.view c.judge.new.held.store) opened_same
    (subst (λ (full : Bool). Admits (g.V.Verifier.valid c.args.verifier.now) c.self.inside.party c.self.inside.policy (option_map (λ e. registration_view e.now) c.expected_in-expected.result) (registration_parts_view c.args.response.now) full c.in_ok-judged.judged.verified (g.S.Store.view c.open_registration.new.held.store) (g.S.Store.view c.judge.new.held.store)) c.is_full.ensures c.in_ok-judged.ensures.accepted))
    (λ e asked. ap row_view c.in_ok-registered.ensures.row ∙ c.in_ok-row.ensures.row ∙ ap (admitted_as c.unwrap.result.now.user.items) c.in_ok-judged.ensures.admitted
    ∙ ap (λ (k : ExpectedRegistration). admitted_as k.user (new_credential c.in_ok-judged.judged.verified)) (the_session c.expected_in-expected.result c.unwrap.result e c.unwrap.ensures asked))
    (c.in_ok-registered.ensures.data, c.in_ok-registered.ensures.aaguid, c.in_ok-registered.ensures.format)
    (λ clean placed holds free none.
    subst (λ k. IsWritten (g.S.Store.view c.judge.new.held.store) (g.S.Store.view c.add.new.self.store) (finite.insert placed (c.self.inside.last + 1) k)) c.lent.ensures
    (c.in_ok-add.ensures.written clean placed holds free (subst (HasNone placed) (sym (ap (λ k. k.id) c.lent.ensures)) none))) same mid put_clean held refl
    (c.in_ok-end_session.ensures.writes.opened.2 ∙ c.in_ok-put_detail.ensures.writes.opened.2 ∙ c.in_ok-add.ensures.writes.opened.2
    ∙ ap (λ h. h.reserved) c.in_ok-judged.ensures.same.1 ∙ c.in_ok-given.ensures.reads.reserved.0) refl refl in (
      x.0,
      x.1,
      held_ended x.0 _ c.args.now c.unwrap-given.result.now.number _ (g.S.Store.view c.put_detail.new.self.store) (g.S.Store.view c.end_session.new.held.store) (c.in_ok-end_session.ensures.ended clean)
          (held_beside x.0 _ (g.S.Store.view c.add.new.self.store) (g.S.Store.view c.put_detail.new.self.store) _ (c.in_ok-put_detail.ensures.put ended_clean) x.2),
    ))

pub returns-clause-ended : goal.returns-clause-ended
returns-clause-ended g c =
    let s = site_over c.self.inside.party c.self.inside.policy c.self.inside.key c.self.inside.lifetime c.self.inside.next c.self.inside.mark
    c.self.inside.next_mark c.self.inside.count c.self.inside.last c.self.inside.most c.self.inside.held in
    rw (← c.self.view_is) (λ clean placed held ended h.
    let ended_clean = c.in_ok-end_session.ensures.writes.quiet.clean clean in
    let put_clean = c.in_ok-put_detail.ensures.writes.quiet.clean ended_clean in
    let mid = c.in_ok-add.ensures.writes.quiet.clean put_clean in
    let first = c.in_ok-judged.ensures.quiet.clean mid in
    let opened_same = ap (λ v. v.trees) (c.in_ok-given.ensures.reads.same.0.view first) in
    let same = ap (λ v. v.trees) (c.in_ok-judged.ensures.same.0.view mid) ∙ opened_same in
    let w = written_last (g.V.Verifier.valid c.args.verifier.now) placed s (option_map (λ e. registration_view e.now) c.expected_in-expected.result) (registration_parts_view c.args.response.now) c.in_ok-registered.registered.credential c.in_ok-judged.judged.verified (g.S.Store.view c.self.inside.held.store) (g.S.Store.view c.judge.new.held.store) (g.S.Store.view c.add.new.self.store)
    (admits_since (g.V.Verifier.valid c.args.verifier.now) c.self.inside.party c.self.inside.policy (option_map (λ e. registration_view e.now) c.expected_in-expected.result) (registration_parts_view c.args.response.now) (is_full s) c.in_ok-judged.judged.verified (g.S.Store.view c.self.inside.held.store) (g.S.Store.view c.open_registration.new.held.store) (g.S.Store.view c.judge.new.held.store) opened_same
    (subst (λ (full : Bool). Admits (g.V.Verifier.valid c.args.verifier.now) c.self.inside.party c.self.inside.policy (option_map (λ e. registration_view e.now) c.expected_in-expected.result) (registration_parts_view c.args.response.now) full c.in_ok-judged.judged.verified (g.S.Store.view c.open_registration.new.held.store) (g.S.Store.view c.judge.new.held.store)) c.is_full.ensures c.in_ok-judged.ensures.accepted))
    (λ e asked. ap row_view c.in_ok-registered.ensures.row ∙ c.in_ok-row.ensures.row ∙ ap (admitted_as c.unwrap.result.now.user.items) c.in_ok-judged.ensures.admitted
    ∙ ap (λ (k : ExpectedRegistration). admitted_as k.user (new_credential c.in_ok-judged.judged.verified)) (the_session c.expected_in-expected.result c.unwrap.result e c.unwrap.ensures asked))
    (λ clean placed holds free none.
    subst (λ k. IsWritten (g.S.Store.view c.judge.new.held.store) (g.S.Store.view c.add.new.self.store) (finite.insert placed (c.self.inside.last + 1) k)) c.lent.ensures
    (c.in_ok-add.ensures.written clean placed holds free (subst (HasNone placed) (sym (ap (λ k. k.id) c.lent.ensures)) none))) same mid put_clean held in
    ends_open s 1 c.args.now c.args.text.now ended (Some c.unwrap-given.result.now) c.unwrap-given.result.now (g.S.Store.view c.put_detail.new.self.store) (g.S.Store.view c.end_session.new.held.store) refl
    (subst (λ o. IfSome o (λ x. IsOpenIn c.self.inside.key c.self.inside.party.rp_id c.self.inside.next ended c.args.now c.args.text.now (Some x)))
    (sym c.as_ref.ensures.value ∙ ap option_copied c.unwrap-given.ensures) (c.in_ok-given.ensures.opened first ended h))
    (c.in_ok-end_session.ensures.ended clean)
    (sessions_stay (g.S.Store.view c.judge.new.held.store) (g.S.Store.view c.add.new.self.store) (g.S.Store.view c.put_detail.new.self.store) _ _ ended w (c.in_ok-put_detail.ensures.put ended_clean) (ap (λ t. t 8) same ∙ h)))

pub returns-clause-beside : goal.returns-clause-beside
returns-clause-beside g c =
    let s = site_over c.self.inside.party c.self.inside.policy c.self.inside.key c.self.inside.lifetime c.self.inside.next c.self.inside.mark
    c.self.inside.next_mark c.self.inside.count c.self.inside.last c.self.inside.most c.self.inside.held in
    rw (← c.self.view_is) (λ clean placed held tree apart.
    let ended_clean = c.in_ok-end_session.ensures.writes.quiet.clean clean in
    let put_clean = c.in_ok-put_detail.ensures.writes.quiet.clean ended_clean in
    let mid = c.in_ok-add.ensures.writes.quiet.clean put_clean in
    let first = c.in_ok-judged.ensures.quiet.clean mid in
    let opened_same = ap (λ v. v.trees) (c.in_ok-given.ensures.reads.same.0.view first) in
    let same = ap (λ v. v.trees) (c.in_ok-judged.ensures.same.0.view mid) ∙ opened_same in
    let w = written_last (g.V.Verifier.valid c.args.verifier.now) placed s (option_map (λ e. registration_view e.now) c.expected_in-expected.result) (registration_parts_view c.args.response.now) c.in_ok-registered.registered.credential c.in_ok-judged.judged.verified (g.S.Store.view c.self.inside.held.store) (g.S.Store.view c.judge.new.held.store) (g.S.Store.view c.add.new.self.store)
    (admits_since (g.V.Verifier.valid c.args.verifier.now) c.self.inside.party c.self.inside.policy (option_map (λ e. registration_view e.now) c.expected_in-expected.result) (registration_parts_view c.args.response.now) (is_full s) c.in_ok-judged.judged.verified (g.S.Store.view c.self.inside.held.store) (g.S.Store.view c.open_registration.new.held.store) (g.S.Store.view c.judge.new.held.store) opened_same
    (subst (λ (full : Bool). Admits (g.V.Verifier.valid c.args.verifier.now) c.self.inside.party c.self.inside.policy (option_map (λ e. registration_view e.now) c.expected_in-expected.result) (registration_parts_view c.args.response.now) full c.in_ok-judged.judged.verified (g.S.Store.view c.open_registration.new.held.store) (g.S.Store.view c.judge.new.held.store)) c.is_full.ensures c.in_ok-judged.ensures.accepted))
    (λ e asked. ap row_view c.in_ok-registered.ensures.row ∙ c.in_ok-row.ensures.row ∙ ap (admitted_as c.unwrap.result.now.user.items) c.in_ok-judged.ensures.admitted
    ∙ ap (λ (k : ExpectedRegistration). admitted_as k.user (new_credential c.in_ok-judged.judged.verified)) (the_session c.expected_in-expected.result c.unwrap.result e c.unwrap.ensures asked))
    (λ clean placed holds free none.
    subst (λ k. IsWritten (g.S.Store.view c.judge.new.held.store) (g.S.Store.view c.add.new.self.store) (finite.insert placed (c.self.inside.last + 1) k)) c.lent.ensures
    (c.in_ok-add.ensures.written clean placed holds free (subst (HasNone placed) (sym (ap (λ k. k.id) c.lent.ensures)) none))) same mid put_clean held in
    (c.in_ok-end_session.ensures.ended clean).others tree apart.0
    ∙ (c.in_ok-put_detail.ensures.put ended_clean).others tree apart.1.0
    ∙ w.others tree apart.1.1.0 apart.1.1.1.0 apart.1.1.1.1.0 ∙ ap (λ t. t tree) same)

pub returns-clause-detailed : goal.returns-clause-detailed
returns-clause-detailed g c =
    let s = site_over c.self.inside.party c.self.inside.policy c.self.inside.key c.self.inside.lifetime c.self.inside.next c.self.inside.mark
    c.self.inside.next_mark c.self.inside.count c.self.inside.last c.self.inside.most c.self.inside.held in
    rw (← c.self.view_is) (λ clean placed held details d.
    let ended_clean = c.in_ok-end_session.ensures.writes.quiet.clean clean in
    let put_clean = c.in_ok-put_detail.ensures.writes.quiet.clean ended_clean in
    let mid = c.in_ok-add.ensures.writes.quiet.clean put_clean in
    let first = c.in_ok-judged.ensures.quiet.clean mid in
    let opened_same = ap (λ v. v.trees) (c.in_ok-given.ensures.reads.same.0.view first) in
    let same = ap (λ v. v.trees) (c.in_ok-judged.ensures.same.0.view mid) ∙ opened_same in
    let w = written_last (g.V.Verifier.valid c.args.verifier.now) placed s (option_map (λ e. registration_view e.now) c.expected_in-expected.result) (registration_parts_view c.args.response.now) c.in_ok-registered.registered.credential c.in_ok-judged.judged.verified (g.S.Store.view c.self.inside.held.store) (g.S.Store.view c.judge.new.held.store) (g.S.Store.view c.add.new.self.store)
    (admits_since (g.V.Verifier.valid c.args.verifier.now) c.self.inside.party c.self.inside.policy (option_map (λ e. registration_view e.now) c.expected_in-expected.result) (registration_parts_view c.args.response.now) (is_full s) c.in_ok-judged.judged.verified (g.S.Store.view c.self.inside.held.store) (g.S.Store.view c.open_registration.new.held.store) (g.S.Store.view c.judge.new.held.store) opened_same
    (subst (λ (full : Bool). Admits (g.V.Verifier.valid c.args.verifier.now) c.self.inside.party c.self.inside.policy (option_map (λ e. registration_view e.now) c.expected_in-expected.result) (registration_parts_view c.args.response.now) full c.in_ok-judged.judged.verified (g.S.Store.view c.open_registration.new.held.store) (g.S.Store.view c.judge.new.held.store)) c.is_full.ensures c.in_ok-judged.ensures.accepted))
    (λ e asked. ap row_view c.in_ok-registered.ensures.row ∙ c.in_ok-row.ensures.row ∙ ap (admitted_as c.unwrap.result.now.user.items) c.in_ok-judged.ensures.admitted
    ∙ ap (λ (k : ExpectedRegistration). admitted_as k.user (new_credential c.in_ok-judged.judged.verified)) (the_session c.expected_in-expected.result c.unwrap.result e c.unwrap.ensures asked))
    (λ clean placed holds free none.
    subst (λ k. IsWritten (g.S.Store.view c.judge.new.held.store) (g.S.Store.view c.add.new.self.store) (finite.insert placed (c.self.inside.last + 1) k)) c.lent.ensures
    (c.in_ok-add.ensures.written clean placed holds free (subst (HasNone placed) (sym (ap (λ k. k.id) c.lent.ensures)) none))) same mid put_clean held in
    (c.in_ok-end_session.ensures.ended clean).others 5 (λ e. grind (arith, common_steps, e))
    ∙ subst (λ d. HoldsDetails (finite.insert details (c.self.inside.last + 1) d) (g.S.Store.view c.put_detail.new.self.store).trees)
    (c.in_ok-registered.ensures.detail ∙ ap (λ aaguid. with_aaguid aaguid (detail_view c.args.detail)) (sym c.in_ok-registered.ensures.aaguid))
    ((c.in_ok-put_detail.ensures.put ended_clean).holds details
    (details_stay (g.S.Store.view c.judge.new.held.store) (g.S.Store.view c.add.new.self.store) _ details w (ap (λ t. t 5) same ∙ d))))
