-- What is owed of `delete_found`.
use Rattle.std.proofs.Common.{◌∙◌, ap, sym, Some}
use Rattle.site_stored.proofs.change.delete_found.Goals as goal

pub returns-clause-told : goal.returns-clause-told
returns-clause-told g c = (
  c.in-Some.found,
  c.in-Some.is,
  λ clean. (
    g.S.Store.view c.remove.new.self.store,
    λ placed holds there. c.in_ok-remove.ensures.written (c.in_ok-forget.ensures.writes.quiet.clean clean) placed holds (there ∙ ap Some (sym c.lent.ensures)),
    c.in_ok-forget.ensures.forgotten clean,
  ),
)
