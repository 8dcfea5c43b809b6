-- What is owed of `StoredSite::commit`.
use Rattle.std.proofs.Common.{ℕ, inl, inr, sym, ◌∙◌, subst}
use Rattle.sqlite_trees.specs.View.{IsStorableRow}
use Rattle.site_rows.proofs.Causes.{passed_up}
use Rattle.site_stored.specs.State.{HoldsSite, mark_row}
use Rattle.site_stored.proofs.Causes.{caused_since}
use Rattle.site_stored.proofs.Reserved.{both_set}
use Rattle.site_stored.proofs.kept.StoredSite.commit.Goals as goal

pub returns-clause-crash : goal.returns-clause-crash
returns-clause-crash g c =
    rw (← c.self.view_is) (λ db r. elim (c.commit.ensures.crash db r) [
      | inl now ↦ inl (both_set _ _ _ (g.S.Store.view c.self.inside.held.store).trees _ _ _ _ _ _ now.1 (c.in_ok-put_mark.ensures.trees now.0)
          (c.in_ok-reserve.ensures.trees (c.in_ok-put_mark.ensures.writes.quiet.clean now.0)) c.rp_id.ensures c.to_commit-reserved.ensures.moved)
      | inr was ↦ inr (c.reserve.ensures.writes.quiet.crash db (c.put_mark.ensures.writes.quiet.crash db was))
    ])

pub returns-in_err-commit-clause-crash : goal.returns-in_err-commit-clause-crash
returns-in_err-commit-clause-crash g c =
    rw (← c.self.view_is) (λ db r. elim (c.commit.ensures.crash db r) [
      | inl now ↦ inl (both_set _ _ _ (g.S.Store.view c.self.inside.held.store).trees _ _ _ _ _ _ now.1 (c.in_ok-put_mark.ensures.trees now.0)
          (c.in_ok-reserve.ensures.trees (c.in_ok-put_mark.ensures.writes.quiet.clean now.0)) c.rp_id.ensures c.to_commit-reserved.ensures.moved)
      | inr was ↦ inr (c.reserve.ensures.writes.quiet.crash db (c.put_mark.ensures.writes.quiet.crash db was))
    ])

pub returns-clause-held : goal.returns-clause-held
returns-clause-held g c =
    rw (← c.self.view_is) (λ clean placed held.
    let marked = c.in_ok-commit.ensures.clean clean in
    let reserved = c.in_ok-put_mark.ensures.writes.quiet.clean marked in
    let numbers = c.in_ok-reserve.ensures.held reserved placed c.self.inside.held.reserved
    (subst (λ id. HoldsSite placed id c.self.inside.held.reserved (g.S.Store.view c.self.inside.held.store).trees) (sym c.rp_id.ensures) held.holds) in
    let stands = c.in_ok-put_mark.ensures.held marked placed _ _ numbers in
    record {
      holds = subst (HoldsSite placed c.self.inside.party.rp_id c.commit.new.self.reserved) (sym (c.in_ok-commit.ensures.same clean))
          (subst (λ n. HoldsSite placed c.self.inside.party.rp_id n (g.S.Store.view c.put_mark.new.self.store).trees)
          (sym (c.in_ok-commit.ensures.open.2 ∙ c.in_ok-put_mark.ensures.writes.opened.2))
          (subst (λ id. HoldsSite placed id c.reserve.new.self.reserved (g.S.Store.view c.put_mark.new.self.store).trees) c.rp_id.ensures stands));
      count = held.count;
      last = held.last;
    })

pub returns-in_err-put_mark-clause-cause : goal.returns-in_err-put_mark-clause-cause
returns-in_err-put_mark-clause-cause g c =
    rw (← c.self.view_is) (λ clean.
    passed_up c.from_residual-in_err-put_mark.result c.in_err-put_mark.field-0.0 _ c.from_residual-in_err-put_mark.ensures.1
    (caused_since (g.S.Store.view c.self.inside.held.store) (g.S.Store.view c.reserve.new.self.store) (g.S.Store.faults c.self.inside.held.store)
    (g.S.Store.faults c.reserve.new.self.store) (g.S.Store.faults c.put_mark.new.self.store) _ _ _ _ c.in_err-put_mark.field-0.0 c.reserve.ensures.writes.quiet.counts
    (λ refused. inr (subst (λ (k : ℕ → ℕ). ¬ IsStorableRow (k 6) (mark_row c.self.inside.next_mark c.self.inside.mark)) c.reserve.ensures.writes.reals refused))
    (λ no. no) (c.in_err-put_mark.ensures.cause clean)))
