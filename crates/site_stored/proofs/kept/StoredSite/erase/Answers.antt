-- What is owed of `StoredSite::erase`.
use Rattle.std.proofs.Common.{◌∙◌, ap, arith, length, refl, subst, sym}
use Rattle.std.proofs.lemmas.Grind.{common_steps}
use Rattle.std.proofs.lemmas.List.{length-map}
use Rattle.site_state.specs.RowViews.{row_view, rows_view}
use Rattle.site_rows.specs.Held.{Holds}
use Rattle.site_rows.proofs.Causes.{passed_up}
use Rattle.site_stored.specs.Private.{AreUsers}
use Rattle.site_stored.proofs.Causes.{caused_since}
use Rattle.site_stored.proofs.Endings.{held_cut_off, refuses_ending}
use Rattle.site_stored.proofs.Erased.{erased_among, forgotten_apart, held_after}
use Rattle.site_stored.proofs.kept.StoredSite.erase.Goals as goal

pub returns-clause-told : goal.returns-clause-told
returns-clause-told g c =
    rw (← c.self.view_is) (λ clean placed held.
    let written = c.in_ok-cut_off.ensures.writes.quiet.clean clean in
    let mid = c.in_ok-left.ensures.leaves.quiet.clean written in
    let same = ap (λ v. v.trees) (c.in_ok-rows.ensures.reads.same.view mid) in
    let users = c.in_ok-rows.ensures.rows mid placed held.holds.credentials in
    let x = c.in_ok-left.ensures.erased written placed (subst (Holds placed) (sym same) held.holds.credentials) c.args.user.now
    (subst (λ l. AreUsers c.args.user.now placed (rows_view l)) (sym c.deref.ensures.value) users) in (
      x.after,
      (c.len.ensures ∙ c.in_ok-rows.rows.ok.0 ∙ sym (length-map c.in_ok-rows.rows.items row_view) ∙ ap length users, x.after_is),
      held_cut_off x.after _ c.args.now _ _ (g.S.Store.view c.delete_each.new.held.store) (g.S.Store.view c.cut_off.new.held.store) (c.in_ok-cut_off.ensures.ended clean)
          (held_after placed x.after _ _ (g.S.Store.view c.self.inside.held.store) (g.S.Store.view c.delete_each.new.held.store) held x.holds
          (x.others 2 (λ e. grind (arith, common_steps, e)) (λ e. grind (arith, common_steps, e)) (λ e. grind (arith, common_steps, e)) (λ e. grind (arith, common_steps, e)) ∙ ap (λ t. t 2) same) (x.counted held.count)
          (erased_among c.args.user.now placed x.after x.after_is) refl
          (c.in_ok-cut_off.ensures.writes.opened.2 ∙ c.in_ok-left.ensures.reserved.0 ∙ ap (λ h. h.reserved) c.in_ok-rows.ensures.reads.kept) refl),
    ))

pub returns-clause-registrations : goal.returns-clause-registrations
returns-clause-registrations g c =
    rw (← c.self.view_is) (λ clean placed held endings h.
    let written = c.in_ok-cut_off.ensures.writes.quiet.clean clean in
    let mid = c.in_ok-left.ensures.leaves.quiet.clean written in
    let same = ap (λ v. v.trees) (c.in_ok-rows.ensures.reads.same.view mid) in
    let users = c.in_ok-rows.ensures.rows mid placed held.holds.credentials in
    let x = c.in_ok-left.ensures.erased written placed (subst (Holds placed) (sym same) held.holds.credentials) c.args.user.now
    (subst (λ l. AreUsers c.args.user.now placed (rows_view l)) (sym c.deref.ensures.value) users) in
    (c.in_ok-cut_off.ensures.ended clean).holds endings (x.others 9 (λ e. grind (arith, common_steps, e)) (λ e. grind (arith, common_steps, e)) (λ e. grind (arith, common_steps, e)) (λ e. grind (arith, common_steps, e)) ∙ ap (λ t. t 9) same ∙ h))

pub returns-clause-forgotten : goal.returns-clause-forgotten
returns-clause-forgotten g c =
    rw (← c.self.view_is) (λ clean placed held details d.
    let written = c.in_ok-cut_off.ensures.writes.quiet.clean clean in
    let mid = c.in_ok-left.ensures.leaves.quiet.clean written in
    let same = ap (λ v. v.trees) (c.in_ok-rows.ensures.reads.same.view mid) in
    let users = c.in_ok-rows.ensures.rows mid placed held.holds.credentials in
    let x = c.in_ok-left.ensures.erased written placed (subst (Holds placed) (sym same) held.holds.credentials) c.args.user.now
    (subst (λ l. AreUsers c.args.user.now placed (rows_view l)) (sym c.deref.ensures.value) users) in
    forgotten_apart placed c.args.user.now details (g.S.Store.view c.delete_each.new.held.store).trees (g.S.Store.view c.cut_off.new.held.store).trees ((c.in_ok-cut_off.ensures.ended clean).others 5 (λ e. grind (arith, common_steps, e)))
    (x.details details (ap (λ t. t 5) same ∙ d)))

pub returns-clause-beside : goal.returns-clause-beside
returns-clause-beside g c =
    rw (← c.self.view_is) (λ clean placed held tree apart.
    let written = c.in_ok-cut_off.ensures.writes.quiet.clean clean in
    let mid = c.in_ok-left.ensures.leaves.quiet.clean written in
    let same = ap (λ v. v.trees) (c.in_ok-rows.ensures.reads.same.view mid) in
    let users = c.in_ok-rows.ensures.rows mid placed held.holds.credentials in
    let x = c.in_ok-left.ensures.erased written placed (subst (Holds placed) (sym same) held.holds.credentials) c.args.user.now
    (subst (λ l. AreUsers c.args.user.now placed (rows_view l)) (sym c.deref.ensures.value) users) in
    (c.in_ok-cut_off.ensures.ended clean).others tree apart.0 ∙ x.others tree apart.1.1.0 apart.1.1.1.0 apart.1.1.1.1.0 apart.1.0 ∙ ap (λ t. t tree) same)

pub returns-in_err-left-clause-cause : goal.returns-in_err-left-clause-cause
returns-in_err-left-clause-cause g c =
    rw (← c.self.view_is) (λ clean.
    let mid = c.in_err-left.ensures.leaves.quiet.clean clean in
    let same = ap (λ v. v.trees) (c.in_ok-rows.ensures.reads.same.view mid) in
    passed_up c.from_residual-in_err-left.result c.in_err-left.field-0.0 _ c.from_residual-in_err-left.ensures.1
    (caused_since (g.S.Store.view c.self.inside.held.store) (g.S.Store.view c.find_all.new.self.store) _ _ _ _ _ _ _ _ c.in_ok-rows.ensures.reads.quiet.counts (λ no. absurd no)
    (λ bad placed h. absurd (bad placed (subst (Holds placed) (sym same) h))) (c.in_err-left.ensures.cause clean)))

pub returns-in_err-cut_off-clause-cause : goal.returns-in_err-cut_off-clause-cause
returns-in_err-cut_off-clause-cause g c =
    rw (← c.self.view_is) (λ clean.
    let written = c.in_err-cut_off.ensures.writes.quiet.clean clean in
    let before = c.in_ok-left.ensures.leaves.quiet.clean written in
    passed_up c.from_residual-in_err-cut_off.result c.in_err-cut_off.field-0.0 _ c.from_residual-in_err-cut_off.ensures.1
    (caused_since (g.S.Store.view c.self.inside.held.store) (g.S.Store.view c.delete_each.new.held.store) _ _ _ _ _ _ _ _ (omega (arith, c.in_ok-rows.ensures.reads.quiet.counts, c.in_ok-left.ensures.leaves.quiet.counts))
    (refuses_ending 9 (g.S.Store.view c.self.inside.held.store) (g.S.Store.view c.delete_each.new.held.store) (c.in_ok-left.ensures.reals written ∙ ap (λ v. v.reals) (c.in_ok-rows.ensures.reads.same.view before)))
    (λ no. absurd no) (c.in_err-cut_off.ensures.cause clean)))
