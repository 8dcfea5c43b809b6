-- What is owed of `write_new`.
use Rattle.std.proofs.Common.{ℕ, inl, inr, sym, ap, ◌∙◌, subst, arith}
use Rattle.std.specs.FinMap as finite
use Rattle.sqlite_trees.specs.View.{IsClean, IsStorableRow}
use Rattle.site_rows.proofs.Causes.{passed_up}
use Rattle.site_rows.specs.Endings.{HoldsEndings}
use Rattle.site_stored.specs.Causes.{IfCreateStore}
use Rattle.site_stored.specs.State.{HasKey, HoldsSite, key_row, mark_row}
use Rattle.site_stored.proofs.Causes.{start_cause_since}
use Rattle.site_stored.proofs.New.{endings_new, key_new, key_stays, marked_new}
use Rattle.site_stored.proofs.create.write_new.Goals as goal

pub returns-clause-held : goal.returns-clause-held
returns-clause-held g c clean =
    let low = c.commit.ensures.clean in
    let before : IsClean (g.S.Store.view c.write_mark.new.store) = omega (arith, low, clean) in
    let keyed = c.in_ok-write_mark.ensures.writes.quiet.clean before in
    let reserved = c.in_ok-write_key.ensures.writes.quiet.clean keyed in
    let empty = c.in_ok-reserve.ensures.writes.quiet.clean reserved in
    subst (HoldsSite finite.empty c.args.party.now.rp_id 1) (sym (ap (λ v. v.trees) (c.in_ok-commit.ensures.ok clean).is))
    (marked_new _ _ _ _ _ 1 (c.in_ok-check_new.ensures.new empty) (c.in_ok-reserve.ensures.set reserved)
    (λ h. c.in_ok-write_mark.ensures.held before finite.empty _ 1 (key_stays _ _ _ _ 1 (c.in_ok-write_key.ensures.set keyed) h)) c.rp_id.ensures)

pub returns-clause-crash : goal.returns-clause-crash
returns-clause-crash g c db clean r =
    let low = c.commit.ensures.clean in
    let before : IsClean (g.S.Store.view c.write_mark.new.store) = omega (arith, low, clean) in
    let keyed = c.in_ok-write_mark.ensures.writes.quiet.clean before in
    let reserved = c.in_ok-write_key.ensures.writes.quiet.clean keyed in
    let empty = c.in_ok-reserve.ensures.writes.quiet.clean reserved in
    elim (c.commit.ensures.crash db r) [
      | inl now ↦ inr (subst (HoldsSite finite.empty c.args.party.now.rp_id 1) (sym now.1)
          (marked_new _ _ _ _ _ 1 (c.in_ok-check_new.ensures.new empty) (c.in_ok-reserve.ensures.set reserved)
          (λ h. c.in_ok-write_mark.ensures.held before finite.empty _ 1 (key_stays _ _ _ _ 1 (c.in_ok-write_key.ensures.set keyed) h)) c.rp_id.ensures))
      | inr was ↦ inl (c.check_new.ensures.quiet.crash db (c.reserve.ensures.writes.quiet.crash db (c.write_key.ensures.writes.quiet.crash db (c.write_mark.ensures.writes.quiet.crash db was))))
    ]

pub returns-in_err-commit-clause-crash : goal.returns-in_err-commit-clause-crash
returns-in_err-commit-clause-crash g c db clean r =
    let low = c.commit.ensures.clean in
    let before : IsClean (g.S.Store.view c.write_mark.new.store) = omega (arith, low, clean) in
    let keyed = c.in_ok-write_mark.ensures.writes.quiet.clean before in
    let reserved = c.in_ok-write_key.ensures.writes.quiet.clean keyed in
    let empty = c.in_ok-reserve.ensures.writes.quiet.clean reserved in
    elim (c.commit.ensures.crash db r) [
      | inl now ↦ inr (subst (HoldsSite finite.empty c.args.party.now.rp_id 1) (sym now.1)
          (marked_new _ _ _ _ _ 1 (c.in_ok-check_new.ensures.new empty) (c.in_ok-reserve.ensures.set reserved)
          (λ h. c.in_ok-write_mark.ensures.held before finite.empty _ 1 (key_stays _ _ _ _ 1 (c.in_ok-write_key.ensures.set keyed) h)) c.rp_id.ensures))
      | inr was ↦ inl (c.check_new.ensures.quiet.crash db (c.reserve.ensures.writes.quiet.crash db (c.write_key.ensures.writes.quiet.crash db (c.write_mark.ensures.writes.quiet.crash db was))))
    ]

pub returns-in_err-write_mark-clause-cause : goal.returns-in_err-write_mark-clause-cause
returns-in_err-write_mark-clause-cause g c clean =
    let keyed = c.in_err-write_mark.ensures.writes.quiet.clean clean in
    let reserved = c.in_ok-write_key.ensures.writes.quiet.clean keyed in
    let empty = c.in_ok-reserve.ensures.writes.quiet.clean reserved in
    let set = c.in_ok-write_key.ensures.set keyed in
    let up = c.check_new.ensures.quiet.counts in
    let on = c.reserve.ensures.writes.quiet.counts in
    let further = c.write_key.ensures.writes.quiet.counts in
    let reals = c.write_key.ensures.writes.schema.reals ∙ c.reserve.ensures.writes.schema.reals ∙ c.in_ok-check_new.ensures.reals empty in
    passed_up c.from_residual-in_err-write_mark.result _ (IfCreateStore _) c.from_residual-in_err-write_mark.ensures.1
    (start_cause_since (g.S.Store.view c.args.store.now) (g.S.Store.view c.write_key.new.store) (g.S.Store.faults c.args.store.now) (g.S.Store.faults c.write_key.new.store)
    (g.S.Store.faults c.write_mark.new.store) _ _ c.in_err-write_mark.field-0.0 (ap (λ v. v.is_broken) set.is ∙ set.sound) (omega (arith, up, on, further))
    (λ refused. inl (inr (subst (λ (k : ℕ → ℕ). ¬ IsStorableRow (k 6) (mark_row c.args.life 0)) reals refused))) (c.in_err-write_mark.ensures.cause clean))

pub returns-in_err-write_key-clause-cause : goal.returns-in_err-write_key-clause-cause
returns-in_err-write_key-clause-cause g c clean =
    let reserved = c.in_err-write_key.ensures.writes.quiet.clean clean in
    let empty = c.in_ok-reserve.ensures.writes.quiet.clean reserved in
    let set = c.in_ok-reserve.ensures.set reserved in
    let up = c.check_new.ensures.quiet.counts in
    let on = c.reserve.ensures.writes.quiet.counts in
    let reals = c.reserve.ensures.writes.schema.reals ∙ c.in_ok-check_new.ensures.reals empty in
    passed_up c.from_residual-in_err-write_key.result _ (IfCreateStore _) c.from_residual-in_err-write_key.ensures.1
    (start_cause_since (g.S.Store.view c.args.store.now) (g.S.Store.view c.reserve.new.store) (g.S.Store.faults c.args.store.now) (g.S.Store.faults c.reserve.new.store)
    (g.S.Store.faults c.write_key.new.store) _ _ c.in_err-write_key.field-0.0 (ap (λ v. v.is_broken) set.is ∙ set.sound) (omega (arith, up, on))
    (λ refused. inr (subst (λ (k : ℕ → ℕ). ¬ IsStorableRow (k 7) (key_row c.args.key.now)) reals refused)) (c.in_err-write_key.ensures.cause clean))

pub returns-clause-key : goal.returns-clause-key
returns-clause-key g c clean =
    let low = c.commit.ensures.clean in
    let before : IsClean (g.S.Store.view c.write_mark.new.store) = omega (arith, low, clean) in
    let keyed = c.in_ok-write_mark.ensures.writes.quiet.clean before in
    let reserved = c.in_ok-write_key.ensures.writes.quiet.clean keyed in
    let empty = c.in_ok-reserve.ensures.writes.quiet.clean reserved in
    subst (HasKey c.args.key.now) (sym (ap (λ v. v.trees) (c.in_ok-commit.ensures.ok clean).is))
    (key_new _ _ _ _ _ _ c.args.key.now (c.in_ok-check_new.ensures.new empty) (c.in_ok-reserve.ensures.set reserved) (c.in_ok-write_key.ensures.set keyed)
    (c.in_ok-write_mark.ensures.set before))

pub returns-clause-none : goal.returns-clause-none
returns-clause-none g c clean =
    let low = c.commit.ensures.clean in
    let before : IsClean (g.S.Store.view c.write_mark.new.store) = omega (arith, low, clean) in
    let keyed = c.in_ok-write_mark.ensures.writes.quiet.clean before in
    let reserved = c.in_ok-write_key.ensures.writes.quiet.clean keyed in
    let empty = c.in_ok-reserve.ensures.writes.quiet.clean reserved in
    subst (λ db. HoldsEndings 8 finite.empty db × HoldsEndings 9 finite.empty db) (sym (ap (λ v. v.trees) (c.in_ok-commit.ensures.ok clean).is))
    (endings_new _ _ _ _ _ _ _ (c.in_ok-check_new.ensures.new empty) (c.in_ok-reserve.ensures.set reserved) (c.in_ok-write_key.ensures.set keyed)
    (c.in_ok-write_mark.ensures.set before))
