-- What is owed of `StoredSite::detail`.
use Rattle.std.proofs.Common.{ap, inl, subst, ◌∙◌}
use Rattle.site_state.specs.RowViews.{row_view}
use Rattle.site_stored.specs.Private.{IsFoundAs}
use Rattle.site_stored.proofs.kept.StoredSite.detail.Goals as goal

pub returns-clause-told : goal.returns-clause-told
returns-clause-told g c =
    rw (← c.self.view_is) (λ clean placed held details d.
    let mid = c.in_ok-detail.ensures.reads.same.clean clean in
    let same = c.in_ok-found.ensures.reads.same.view mid in
    inl (
      c.in-Some.found.place,
      row_view c.in-Some.found.credential,
      subst (IsFoundAs placed c.args.id.now) c.in-Some.is (c.in_ok-found.ensures.found mid placed held.holds.credentials),
      c.in_ok-detail.ensures.found clean details (ap (λ v. v.trees 5) same ∙ d),
    ))
