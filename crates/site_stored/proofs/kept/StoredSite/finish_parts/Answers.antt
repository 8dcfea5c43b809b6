-- What is owed of `StoredSite::finish_parts`.
use Rattle.std.proofs.Common.{◌∙◌, ap, arith, inl, inr, refl, subst, sym}
use Rattle.std.proofs.lemmas.Grind.{common_steps}
use Rattle.std.proofs.lemmas.Result.{err_from_is_err_and}
use Rattle.std.specs.Option.{option_copied}
use Rattle.std.specs.Prelude.{IfSome, option_map, pos}
use Rattle.verification.specs.Views.{assertion_parts_view, sign_in_view}
use Rattle.site_rows.specs.Held.{Holds}
use Rattle.site_rows.proofs.Causes.{passed_up}
use Rattle.site_stored.specs.Calls.{IsSame}
use Rattle.site_stored.specs.Private.{credential_of}
use Rattle.site_stored.specs.State.{FitsColumn}
use Rattle.site_stored.specs.Sessions.{ExpectsSignIn}
use Rattle.site_stored.specs.declared.failure.FinishFailure.TheVariants as finishes
use Rattle.site_stored.proofs.Abandoning.{site_over, same_site, untold_sound}
use Rattle.site_stored.proofs.Causes.{caused_since, if_finish_store}
use Rattle.site_stored.proofs.Endings.{held_ended, refuses_ending}
use Rattle.site_stored.proofs.Finishing.{beside_signed_in, kept_on, memory_not_finished, not_finished, read_sound, refuses, refuses_signed_in, same_over, same_views, signs_in, stopped_sound, tells_used, untold_not_finished}
use Rattle.site_stored.proofs.SessionTexts.{ends_open, expected_some, expects, if_lent, if_seen, map_copied}
use Rattle.site_stored.proofs.kept.StoredSite.finish_parts.Goals as goal

pub invariant_of-self : goal.invariant_of-self
invariant_of-self g c =
    untold_sound g.S.Store.view _ _ _ _ _ _ _ _ _ _ c.self.inside.held c.open_session.new.held c.in_err-given.field-0.0 c.self.invariant
    c.in_err-given.ensures.reads.reserved c.in_err-given.ensures.reads.failed

pub returns-in_err-given-clause-refused : goal.returns-in_err-given-clause-refused
returns-in_err-given-clause-refused g c =
    rw (← c.self.view_is) (untold_not_finished g.S.Store.view _ _ c.self.inside.held c.open_session.new.held c.in_err-given.field-0.0 _ c.from_residual.result
    c.from_residual.ensures.1 c.if-self.false
    (same_site c.self.inside.party c.self.inside.policy c.self.inside.key c.self.inside.lifetime c.self.inside.next c.self.inside.mark
    c.self.inside.next_mark c.self.inside.count c.self.inside.last c.self.inside.most c.self.inside.held c.open_session.new.held) refl (λ clean placed held ended h. tt)
    c.in_err-given.ensures.reads.failed)

pub returns-in_err-expected-clause-refused : goal.returns-in_err-expected-clause-refused
returns-in_err-expected-clause-refused g c =
    rw (← c.self.view_is) (memory_not_finished g.S.Store.view _ _ c.in_err-expected.field-0.0 _ c.from_residual-in_err-expected.result
    c.from_residual-in_err-expected.ensures.1 c.in_err-expected.ensures.memory
    (same_over g.S.Store.view c.self.inside.party c.self.inside.policy c.self.inside.key c.self.inside.lifetime c.self.inside.next c.self.inside.mark
    c.self.inside.next_mark c.self.inside.count c.self.inside.last c.self.inside.most c.self.inside.held c.find.new.self
    (kept_on c.self.inside.held c.open_session.new.held c.find.new.self c.in_ok-given.ensures.reads.same.1 c.in_ok-found.ensures.reads.kept)
    (same_views (g.S.Store.view c.self.inside.held.store) (g.S.Store.view c.open_session.new.held.store) (g.S.Store.view c.find.new.self.store) c.in_ok-given.ensures.reads.same.0 c.in_ok-found.ensures.reads.same))
    (λ clean placed held ended h. tt))

pub sign_in_found-requires-clause-fits : goal.sign_in_found-requires-clause-fits
sign_in_found-requires-clause-fits g c =
    if_lent _ c.as_ref.result (subst (λ x. IfSome x (λ _. FitsColumn c.args.now)) (sym c.as_ref.ensures.value)
    (if_seen sign_in_view _ c.in_ok-expected.expected (expected_some c.self.inside.key c.in_ok-given.given _ _ _ _ c.in_ok-expected.ensures.expected c.in_ok-given.ensures.within)))

pub invariant_of-self-in_err-signed_in : goal.invariant_of-self-in_err-signed_in
invariant_of-self-in_err-signed_in g c =
    stopped_sound g.S.Store.view c.self.inside.party c.self.inside.policy c.self.inside.key c.self.inside.lifetime c.self.inside.next c.self.inside.mark
    c.self.inside.next_mark c.self.inside.count c.self.inside.last c.self.inside.most c.find.new.self c.sign_in_found.new.held _ c.in_err-signed_in.field-0.0
    (read_sound g.S.Store.view c.self.inside.party c.self.inside.policy c.self.inside.key c.self.inside.lifetime c.self.inside.next c.self.inside.mark
    c.self.inside.next_mark c.self.inside.count c.self.inside.last c.self.inside.most c.self.inside.held c.find.new.self
    (kept_on c.self.inside.held c.open_session.new.held c.find.new.self c.in_ok-given.ensures.reads.same.1 c.in_ok-found.ensures.reads.kept)
    (same_views (g.S.Store.view c.self.inside.held.store) (g.S.Store.view c.open_session.new.held.store) (g.S.Store.view c.find.new.self.store) c.in_ok-given.ensures.reads.same.0 c.in_ok-found.ensures.reads.same) c.self.invariant)
    c.in_err-signed_in.ensures.reserved c.in_err-signed_in.ensures.refused

pub returns-in_err-signed_in-clause-refused : goal.returns-in_err-signed_in-clause-refused
returns-in_err-signed_in-clause-refused g c =
    let p = err_from_is_err_and c.from_residual-in_err-signed_in.result c.from_residual-in_err-signed_in.ensures.1 in
    let s = site_over c.self.inside.party c.self.inside.policy c.self.inside.key c.self.inside.lifetime c.self.inside.next c.self.inside.mark
    c.self.inside.next_mark c.self.inside.count c.self.inside.last c.self.inside.most c.self.inside.held in
    rw (p.1, p.2, ← c.self.view_is) (not_finished g.S.Store.view _ _ _ _ _ c.in_err-signed_in.field-0.0 c.if-self.false
    (λ same. subst (λ held. IsSame g.S.Store.view s (site_over c.self.inside.party c.self.inside.policy c.self.inside.key c.self.inside.lifetime c.self.inside.next c.self.inside.mark
    c.self.inside.next_mark c.self.inside.count c.self.inside.last c.self.inside.most held)) (sym same)
    (same_over g.S.Store.view c.self.inside.party c.self.inside.policy c.self.inside.key c.self.inside.lifetime c.self.inside.next c.self.inside.mark
    c.self.inside.next_mark c.self.inside.count c.self.inside.last c.self.inside.most c.self.inside.held c.find.new.self
    (kept_on c.self.inside.held c.open_session.new.held c.find.new.self c.in_ok-given.ensures.reads.same.1 c.in_ok-found.ensures.reads.kept)
    (same_views (g.S.Store.view c.self.inside.held.store) (g.S.Store.view c.open_session.new.held.store) (g.S.Store.view c.find.new.self.store) c.in_ok-given.ensures.reads.same.0 c.in_ok-found.ensures.reads.same)))
    (λ why refused clean placed held ended h.
    let mid = c.in_err-signed_in.ensures.leaves.quiet.clean clean in
    let first = c.in_ok-found.ensures.reads.quiet.clean mid in
    let same = ap (λ v. v.trees) (c.in_ok-given.ensures.reads.same.0.view first) in
    refuses (g.V.Verifier.valid c.args.verifier.now) placed ended s c.args.now c.args.text.now (option_map (λ e. sign_in_view e.now) c.as_ref.result) (assertion_parts_view c.args.response.now) c.in_ok-found.found why
    (c.in_ok-found.ensures.found mid placed (subst (Holds placed) (sym same) held.holds.credentials))
    (subst (ExpectsSignIn s ended c.args.now c.args.text.now (credential_of c.in_ok-found.found) (assertion_parts_view c.args.response.now))
    (sym (map_copied sign_in_view c.as_ref.result ∙ ap (option_map sign_in_view) c.as_ref.ensures.value))
    (expects s ended c.args.now c.args.text.now (credential_of c.in_ok-found.found) (assertion_parts_view c.args.response.now) c.in_ok-given.given _
    (c.in_ok-given.ensures.session first ended h) c.in_ok-expected.ensures.expected)) refused)
    c.in_err-signed_in.ensures.refused)

pub returns-in_err-signed_in-clause-cause : goal.returns-in_err-signed_in-clause-cause
returns-in_err-signed_in-clause-cause g c =
    rw (← c.self.view_is) (λ clean.
    let before = c.in_err-signed_in.ensures.leaves.quiet.clean clean in
    let same = (same_views (g.S.Store.view c.self.inside.held.store) (g.S.Store.view c.open_session.new.held.store) (g.S.Store.view c.find.new.self.store) c.in_ok-given.ensures.reads.same.0 c.in_ok-found.ensures.reads.same).view before in
    let first = ap (λ v. v.trees) (c.in_ok-given.ensures.reads.same.0.view (c.in_ok-found.ensures.reads.quiet.clean before)) in
    passed_up c.from_residual-in_err-signed_in.result c.in_err-signed_in.field-0.0 _ c.from_residual-in_err-signed_in.ensures.1
    (if_finish_store _ _ c.in_err-signed_in.field-0.0
    (λ why. caused_since (g.S.Store.view c.self.inside.held.store) (g.S.Store.view c.find.new.self.store) _ _ _ _ _ _ _ why (omega (arith, c.in_ok-given.ensures.reads.quiet.counts, c.in_ok-found.ensures.reads.quiet.counts))
    (λ no. inl (refuses_signed_in (g.S.Store.view c.self.inside.held.store) (g.S.Store.view c.find.new.self.store) c.self.inside.party.profile c.in_ok-found.found (assertion_parts_view c.args.response.now) (pos c.args.now)
    (ap (λ v. v.trees) same) (ap (λ v. v.reals) same)
    (λ placed h. c.in_ok-found.ensures.found before placed (subst (Holds placed) (sym first) h)) no)) (λ no. absurd no))
    (c.in_err-signed_in.ensures.cause clean)))

pub returns-clause-accepted : goal.returns-clause-accepted
returns-clause-accepted g c =
    let s = site_over c.self.inside.party c.self.inside.policy c.self.inside.key c.self.inside.lifetime c.self.inside.next c.self.inside.mark
    c.self.inside.next_mark c.self.inside.count c.self.inside.last c.self.inside.most c.self.inside.held in
    rw (← c.self.view_is) (λ clean placed held ended h.
    let written = c.in_ok-end_session.ensures.writes.quiet.clean clean in
    let mid = c.in_ok-signed_in.ensures.leaves.quiet.clean written in
    let first = c.in_ok-found.ensures.reads.quiet.clean mid in
    let same = ap (λ v. v.trees) (c.in_ok-given.ensures.reads.same.0.view first) in
    let x = signs_in (g.V.Verifier.valid c.args.verifier.now) placed s (site_over c.self.inside.party c.self.inside.policy c.self.inside.key c.self.inside.lifetime c.self.inside.next c.self.inside.mark
    c.self.inside.next_mark c.self.inside.count c.self.inside.last c.self.inside.most c.end_session.new.held) ended (option_map (λ e. sign_in_view e.now) c.as_ref.result) c.args.now c.args.text.now (assertion_parts_view c.args.response.now) (pos c.args.now)
    c.in_ok-signed_in.signed_in c.in_ok-found.found (g.S.Store.view c.self.inside.held.store) (g.S.Store.view c.find.new.self.store) (g.S.Store.view c.sign_in_found.new.held.store)
    (c.in_ok-found.ensures.found mid placed (subst (Holds placed) (sym same) held.holds.credentials))
    (subst (ExpectsSignIn s ended c.args.now c.args.text.now (credential_of c.in_ok-found.found) (assertion_parts_view c.args.response.now))
    (sym (map_copied sign_in_view c.as_ref.result ∙ ap (option_map sign_in_view) c.as_ref.ensures.value))
    (expects s ended c.args.now c.args.text.now (credential_of c.in_ok-found.found) (assertion_parts_view c.args.response.now) c.in_ok-given.given _
    (c.in_ok-given.ensures.session first ended h) c.in_ok-expected.ensures.expected))
    c.in_ok-signed_in.ensures.accepted (ap (λ v. v.trees) (c.in_ok-found.ensures.reads.same.view mid) ∙ same) written held refl
    (c.in_ok-end_session.ensures.writes.opened.2 ∙ c.in_ok-signed_in.ensures.reserved.0 ∙ ap (λ k. k.reserved) c.in_ok-found.ensures.reads.kept
    ∙ c.in_ok-given.ensures.reads.reserved.0) refl refl in
    (x.0, x.1, held_ended x.0 _ c.args.now c.unwrap-given.result.now.number _ (g.S.Store.view c.sign_in_found.new.held.store) (g.S.Store.view c.end_session.new.held.store) (c.in_ok-end_session.ensures.ended clean) x.2))

pub returns-clause-ended : goal.returns-clause-ended
returns-clause-ended g c =
    let s = site_over c.self.inside.party c.self.inside.policy c.self.inside.key c.self.inside.lifetime c.self.inside.next c.self.inside.mark
    c.self.inside.next_mark c.self.inside.count c.self.inside.last c.self.inside.most c.self.inside.held in
    rw (← c.self.view_is) (λ clean placed held ended h.
    let written = c.in_ok-end_session.ensures.writes.quiet.clean clean in
    let mid = c.in_ok-signed_in.ensures.leaves.quiet.clean written in
    let first = c.in_ok-found.ensures.reads.quiet.clean mid in
    let same = ap (λ v. v.trees) (c.in_ok-given.ensures.reads.same.0.view first) in
    ends_open s 1 c.args.now c.args.text.now ended c.in_ok-given.given c.unwrap-given.result.now (g.S.Store.view c.sign_in_found.new.held.store) (g.S.Store.view c.end_session.new.held.store)
    (sym c.as_ref-2.ensures.value ∙ ap option_copied c.unwrap-given.ensures) (c.in_ok-given.ensures.session first ended h) (c.in_ok-end_session.ensures.ended clean)
    ((tells_used (g.V.Verifier.valid c.args.verifier.now) placed s (option_map (λ e. sign_in_view e.now) c.as_ref.result) (assertion_parts_view c.args.response.now) (pos c.args.now) c.in_ok-signed_in.signed_in c.in_ok-found.found (g.S.Store.view c.self.inside.held.store) (g.S.Store.view c.find.new.self.store) (g.S.Store.view c.sign_in_found.new.held.store)
    (c.in_ok-found.ensures.found mid placed (subst (Holds placed) (sym same) held.holds.credentials)) c.in_ok-signed_in.ensures.accepted
    (ap (λ v. v.trees) (c.in_ok-found.ensures.reads.same.view mid) ∙ same) written held).1 ended h))

pub returns-clause-beside : goal.returns-clause-beside
returns-clause-beside g c =
    rw (← c.self.view_is) (λ clean placed held tree apart.
    let written = c.in_ok-end_session.ensures.writes.quiet.clean clean in
    let mid = c.in_ok-signed_in.ensures.leaves.quiet.clean written in
    let first = c.in_ok-found.ensures.reads.quiet.clean mid in
    let same = ap (λ v. v.trees) (c.in_ok-given.ensures.reads.same.0.view first) in
    let found = ap (λ v. v.trees) (c.in_ok-found.ensures.reads.same.view mid) ∙ same in
    (c.in_ok-end_session.ensures.ended clean).others tree apart.0
    ∙ beside_signed_in (g.V.Verifier.valid c.args.verifier.now) placed c.self.inside.party (option_map (λ e. sign_in_view e.now) c.as_ref.result) (assertion_parts_view c.args.response.now) (pos c.args.now) c.in_ok-signed_in.signed_in c.in_ok-found.found (g.S.Store.view c.find.new.self.store) (g.S.Store.view c.sign_in_found.new.held.store) tree
    (c.in_ok-found.ensures.found mid placed (subst (Holds placed) (sym same) held.holds.credentials)) c.in_ok-signed_in.ensures.accepted written
    (subst (Holds placed) (sym found) held.holds.credentials) apart.1.1.0 apart.1.1.1.0 apart.1.1.1.1.0 apart.1.0 ∙ ap (λ t. t tree) found)

pub returns-clause-used : goal.returns-clause-used
returns-clause-used g c =
    let s = site_over c.self.inside.party c.self.inside.policy c.self.inside.key c.self.inside.lifetime c.self.inside.next c.self.inside.mark
    c.self.inside.next_mark c.self.inside.count c.self.inside.last c.self.inside.most c.self.inside.held in
    rw (← c.self.view_is) (λ clean placed held details d.
    let written = c.in_ok-end_session.ensures.writes.quiet.clean clean in
    let mid = c.in_ok-signed_in.ensures.leaves.quiet.clean written in
    let first = c.in_ok-found.ensures.reads.quiet.clean mid in
    let same = ap (λ v. v.trees) (c.in_ok-given.ensures.reads.same.0.view first) in
    let x = (tells_used (g.V.Verifier.valid c.args.verifier.now) placed s (option_map (λ e. sign_in_view e.now) c.as_ref.result) (assertion_parts_view c.args.response.now) (pos c.args.now) c.in_ok-signed_in.signed_in c.in_ok-found.found (g.S.Store.view c.self.inside.held.store) (g.S.Store.view c.find.new.self.store) (g.S.Store.view c.sign_in_found.new.held.store)
    (c.in_ok-found.ensures.found mid placed (subst (Holds placed) (sym same) held.holds.credentials)) c.in_ok-signed_in.ensures.accepted
    (ap (λ v. v.trees) (c.in_ok-found.ensures.reads.same.view mid) ∙ same) written held).0 details d in
    (x.0, x.1, x.2, (c.in_ok-end_session.ensures.ended clean).others 5 (λ no. grind (arith, common_steps, no)) ∙ x.3))

pub returns-in_err-end_session-clause-cause : goal.returns-in_err-end_session-clause-cause
returns-in_err-end_session-clause-cause g c =
    rw (← c.self.view_is) (λ clean.
    let written = c.in_err-end_session.ensures.writes.quiet.clean clean in
    let before = c.in_ok-signed_in.ensures.leaves.quiet.clean written in
    let same = (same_views (g.S.Store.view c.self.inside.held.store) (g.S.Store.view c.open_session.new.held.store) (g.S.Store.view c.find.new.self.store) c.in_ok-given.ensures.reads.same.0 c.in_ok-found.ensures.reads.same).view before in
    passed_up c.from_residual-in_err-end_session.result (finishes.Store c.in_err-end_session.field-0.0) _ c.from_residual-in_err-end_session.ensures.1
    (caused_since (g.S.Store.view c.self.inside.held.store) (g.S.Store.view c.sign_in_found.new.held.store) _ _ _ _ _ _ _ _
    (omega (arith, c.in_ok-given.ensures.reads.quiet.counts, c.in_ok-found.ensures.reads.quiet.counts, c.in_ok-signed_in.ensures.leaves.quiet.counts))
    (λ no. inr (refuses_ending 8 (g.S.Store.view c.self.inside.held.store) (g.S.Store.view c.sign_in_found.new.held.store) (c.in_ok-signed_in.ensures.reals ∙ ap (λ v. v.reals) same) no)) (λ no. absurd no)
    (c.in_err-end_session.ensures.cause clean)))
