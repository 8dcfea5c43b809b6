-- What is owed of `Sessions::skip_to`.
use Rattle.std.proofs.Common.{◌≤◌, subst, sym}
use Rattle.site_state.specs.SessionViews.{sessions_view}
use Rattle.site_state.proofs.Numbered.{numbers_skipped}
use Rattle.site_state.proofs.sessions.Sessions.skip_to.Goals as goal

pub invariant_of-self : goal.invariant_of-self
invariant_of-self c = (
  c.self.invariant.0,
  c.self.invariant.1,
  numbers_skipped (sessions_view c.self.inside.by_number.entries) c.self.inside.next c.args.next
      (subst (λ s. s.next ≤ c.args.next) (sym c.self.view_is) c.requires) c.self.invariant.2,
)
