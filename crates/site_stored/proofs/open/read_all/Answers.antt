-- What is owed of `read_all`.
use Rattle.std.proofs.Common.{ap, sym, subst, ◌∙◌}
use Rattle.site_stored.specs.State.{HasKey, HasMark}
use Rattle.site_stored.proofs.Counting.{counted, highest, one_number}
use Rattle.site_stored.proofs.open.read_all.Goals as goal

pub returns-clause-found : goal.returns-clause-found
returns-clause-found g c clean placed next h =
    let same = c.in_ok-counted.ensures.reads.same in
    let marked = c.in_ok-mark.ensures.reads.same in
    let keyed = c.in_ok-key.ensures.reads.same in
    let after = same.clean clean in
    let between = marked.clean after in
    let before = keyed.clean between in
    let first = c.in_ok-next.ensures.reads.same in
    let mid = ap (λ v. v.trees) (same.view clean) in
    let seen = c.in_ok-counted.ensures.counted clean in
    let rows = sym (ap (λ t. t 0) mid) ∙ h.credentials.table in (
      one_number c.args.rp_id.now _ next (g.S.Store.view c.rest.new.store).trees (c.in_ok-next.ensures.row before) (sym (ap (λ v. v.trees 2) (first.view before)) ∙ sym (ap (λ v. v.trees 2) (keyed.view between)) ∙ sym (ap (λ v. v.trees 2) (marked.view after)) ∙ sym (ap (λ t. t 2) mid) ∙ h.site),
      counted placed _ c.in_ok-counted.counted.count rows seen.0,
      λ p d there. highest placed _ c.in_ok-counted.counted.last p d rows seen.1 there,
    )

pub returns-clause-mark : goal.returns-clause-mark
returns-clause-mark g c clean =
    let same = c.in_ok-counted.ensures.reads.same in
    let marked = c.in_ok-mark.ensures.reads.same in
    let after = same.clean clean in
    subst (HasMark c.in_ok-mark.mark) (sym (ap (λ v. v.trees) (same.view clean) ∙ ap (λ v. v.trees) (marked.view after))) (c.in_ok-mark.ensures.mark after)

pub returns-clause-key : goal.returns-clause-key
returns-clause-key g c clean =
    let same = c.in_ok-counted.ensures.reads.same in
    let marked = c.in_ok-mark.ensures.reads.same in
    let keyed = c.in_ok-key.ensures.reads.same in
    let after = same.clean clean in
    let between = marked.clean after in
    subst (HasKey c.in_ok-key.key) (sym (ap (λ v. v.trees) (same.view clean) ∙ ap (λ v. v.trees) (marked.view after) ∙ ap (λ v. v.trees) (keyed.view between)))
    (c.in_ok-key.ensures.key between)
