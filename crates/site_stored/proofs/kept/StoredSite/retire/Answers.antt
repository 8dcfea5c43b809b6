-- What is owed of `StoredSite::retire`.
use Rattle.std.proofs.Common.{ap, arith, inl, inr, refl, sym, subst, ◌∙◌}
use Rattle.std.proofs.lemmas.Grind.{common_steps}
use Rattle.site_rows.specs.Held.{Holds}
use Rattle.site_stored.proofs.Changing.{beside_retired, refuses_retired, retired_some, tells_retired}
use Rattle.site_stored.proofs.Endings.{beside_cut_off, held_cut_found, refuses_ending, tells_cut_off}
use Rattle.site_rows.proofs.Causes.{passed_up}
use Rattle.site_stored.proofs.Causes.{caused_since}
use Rattle.site_stored.proofs.kept.StoredSite.retire.Goals as goal

pub returns-clause-told : goal.returns-clause-told
returns-clause-told g c =
    rw (← c.self.view_is) (λ clean placed held.
    let written = c.in_ok-cut_off_found.ensures.leaves.quiet.clean clean in
    let mid = c.in_ok-was.ensures.leaves.quiet.clean written in
    let x = tells_retired placed c.args.id.now _ _
    (g.S.Store.view c.self.inside.held.store) (g.S.Store.view c.find.new.self.store) (g.S.Store.view c.retire_found.new.held.store) c.in_ok-found.found _ c.in_ok-was.was'
    (c.in_ok-found.ensures.found mid placed held.holds.credentials) (λ same. ap (λ h. (g.S.Store.view h.store).trees) same) c.in_ok-was.ensures.told
    (ap (λ v. v.trees) (c.in_ok-found.ensures.reads.same.view mid)) written held refl
    (c.in_ok-cut_off_found.ensures.reserved.0 ∙ c.in_ok-was.ensures.reserved.0 ∙ ap (λ h. h.reserved) c.in_ok-found.ensures.reads.kept) refl refl in (
      x.0,
      x.1,
      held_cut_found x.0 _ _ _ _ c.in_ok-was.was' c.in_ok-found.found (g.S.Store.view c.retire_found.new.held.store)
          (g.S.Store.view c.cut_off_found.new.held.store) (c.in_ok-cut_off_found.ensures.ended clean) x.2,
    ))

pub returns-clause-registrations : goal.returns-clause-registrations
returns-clause-registrations g c =
    rw (← c.self.view_is) (λ clean placed held users h.
    let written = c.in_ok-cut_off_found.ensures.leaves.quiet.clean clean in
    let mid = c.in_ok-was.ensures.leaves.quiet.clean written in
    let found = c.in_ok-found.ensures.found mid placed held.holds.credentials in
    let same = ap (λ v. v.trees) (c.in_ok-found.ensures.reads.same.view mid) in
    let beside = beside_retired placed c.args.id.now c.in_ok-found.found _ (g.S.Store.view c.find.new.self.store) (g.S.Store.view c.retire_found.new.held.store)
    c.in_ok-was.was' 9 found (λ same. ap (λ h. (g.S.Store.view h.store).trees) same) c.in_ok-was.ensures.told written
    (subst (Holds placed) (sym same) held.holds.credentials) (λ e. grind (arith, common_steps, e)) (λ e. grind (arith, common_steps, e))
    (λ e. grind (arith, common_steps, e)) in
    tells_cut_off placed c.args.id.now _ c.args.now c.in_ok-was.was' c.in_ok-found.found users (g.S.Store.view c.retire_found.new.held.store)
    (g.S.Store.view c.cut_off_found.new.held.store) found
    (retired_some c.in_ok-found.found _ (g.S.Store.view c.find.new.self.store) (g.S.Store.view c.retire_found.new.held.store) c.in_ok-was.was' c.in_ok-was.ensures.told)
    (c.in_ok-cut_off_found.ensures.ended clean) (beside ∙ ap (λ t. t 9) same ∙ h))

pub returns-clause-beside : goal.returns-clause-beside
returns-clause-beside g c =
    rw (← c.self.view_is) (λ clean placed held tree apart.
    let written = c.in_ok-cut_off_found.ensures.leaves.quiet.clean clean in
    let mid = c.in_ok-was.ensures.leaves.quiet.clean written in
    let same = ap (λ v. v.trees) (c.in_ok-found.ensures.reads.same.view mid) in
    beside_cut_off _ _ _ c.in_ok-was.was' c.in_ok-found.found (g.S.Store.view c.retire_found.new.held.store) (g.S.Store.view c.cut_off_found.new.held.store) tree
    (c.in_ok-cut_off_found.ensures.ended clean) apart.0
    ∙ beside_retired placed c.args.id.now c.in_ok-found.found _ (g.S.Store.view c.find.new.self.store) (g.S.Store.view c.retire_found.new.held.store)
    c.in_ok-was.was' tree (c.in_ok-found.ensures.found mid placed held.holds.credentials) (λ same. ap (λ h. (g.S.Store.view h.store).trees) same)
    c.in_ok-was.ensures.told written (subst (Holds placed) (sym same) held.holds.credentials) apart.1.0 apart.1.1.0 apart.1.1.1.0 ∙ ap (λ t. t tree) same)

pub returns-in_err-was-clause-cause : goal.returns-in_err-was-clause-cause
returns-in_err-was-clause-cause g c =
    rw (← c.self.view_is) (λ clean.
    let mid = c.in_err-was.ensures.leaves.quiet.clean clean in
    passed_up c.from_residual-in_err-was.result c.in_err-was.field-0.0 _ c.from_residual-in_err-was.ensures.1
    (caused_since (g.S.Store.view c.self.inside.held.store) (g.S.Store.view c.find.new.self.store) _ _ _ _ _ _ _ _ c.in_ok-found.ensures.reads.quiet.counts
    (λ no. inl (refuses_retired (g.S.Store.view c.self.inside.held.store) (g.S.Store.view c.find.new.self.store) c.args.id.now c.in_ok-found.found
    (ap (λ v. v.reals) (c.in_ok-found.ensures.reads.same.view mid)) (c.in_ok-found.ensures.found mid) no)) (λ no. absurd no) (c.in_err-was.ensures.cause clean)))

pub returns-in_err-cut_off_found-clause-cause : goal.returns-in_err-cut_off_found-clause-cause
returns-in_err-cut_off_found-clause-cause g c =
    rw (← c.self.view_is) (λ clean.
    let old = g.S.Store.view c.self.inside.held.store in
    let mid = g.S.Store.view c.retire_found.new.held.store in
    let written = c.in_err-cut_off_found.ensures.leaves.quiet.clean clean in
    let before = c.in_ok-was.ensures.leaves.quiet.clean written in
    passed_up c.from_residual-in_err-cut_off_found.result c.in_err-cut_off_found.field-0.0 _ c.from_residual-in_err-cut_off_found.ensures.1
    (caused_since old mid _ _ _ _ _ _ _ _ (omega (arith, c.in_ok-found.ensures.reads.quiet.counts, c.in_ok-was.ensures.leaves.quiet.counts))
    (λ no. inr (refuses_ending 9 old mid (c.in_ok-was.ensures.reals ∙ ap (λ v. v.reals) (c.in_ok-found.ensures.reads.same.view before)) no))
    (λ no. absurd no) (c.in_err-cut_off_found.ensures.cause clean)))
