-- What is owed of `Sessions::close`.
use Rattle.std.proofs.Common.{◌∙◌, ap, subst, sym}
use Rattle.std.specs.Prelude.{is_some, option_map}
use Rattle.site_state.specs.Sessions.{HaveNumbers}
use Rattle.site_state.specs.SessionViews.{session_view, sessions_view}
use Rattle.site_state.proofs.Maps.{closed, get_seen, open_with, seen_there, well_closed}
use Rattle.site_state.proofs.Numbered.{numbers_closed}
use Rattle.site_state.proofs.sessions.Sessions.close.Goals as goal

pub invariant_of-self : goal.invariant_of-self
invariant_of-self c =
    let well = well_closed c.self.inside.by_number c.remove.new.self c.args.session c.remove.result
    c.remove.ensures.updates.0 c.remove.ensures.value c.remove.ensures.len (c.self.invariant.0, c.self.invariant.1) in
    let is = closed c.self.inside.by_number c.remove.new.self c.args.session c.remove.ensures.updates.0 in (
      well.0,
      well.1,
      subst (HaveNumbers c.self.inside.next) (sym is)
          (numbers_closed (sessions_view c.self.inside.by_number.entries) c.self.inside.next c.args.session c.self.invariant.2),
    )

pub returns-clause-told : goal.returns-clause-told
returns-clause-told c =
    rw (← c.self.view_is) (c.is_some.ensures ∙ sym (seen_there c.remove.result) ∙ ap (λ o. is_some (option_map session_view o)) c.remove.ensures.value
    ∙ sym (ap is_some (get_seen c.self.inside.by_number c.args.session)))

pub returns-clause-closed : goal.returns-clause-closed
returns-clause-closed c =
    rw (← c.self.view_is) (ap (open_with c.self.inside.max_open c.self.inside.next)
    (closed c.self.inside.by_number c.remove.new.self c.args.session c.remove.ensures.updates.0))
