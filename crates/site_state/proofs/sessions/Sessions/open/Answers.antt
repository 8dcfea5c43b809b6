-- What is owed of `Sessions::open`.
use Rattle.std.proofs.Common.{◌≤◌, ap, subst, sym}
use Rattle.site_state.specs.Sessions.{HaveNumbers}
use Rattle.site_state.specs.SessionViews.{session_view, sessions_view}
use Rattle.site_state.proofs.Maps.{open_with, opened, well_opened}
use Rattle.site_state.proofs.Numbered.{numbers_opened}
use Rattle.site_state.proofs.sessions.Sessions.open.Goals as goal

pub invariant_of-self-2 : goal.invariant_of-self-2
invariant_of-self-2 c =
    let well = well_opened c.self.inside.by_number c.insert.new.self c.args.number c.args.session c.in_ok-insert.field-0
    c.in_ok-insert.ensures.updates.0 c.in_ok-insert.ensures.old c.in_ok-insert.ensures.len (c.self.invariant.0, c.self.invariant.1) c.requires.limits in
    let is = opened c.self.inside.by_number c.insert.new.self c.args.number c.args.session c.in_ok-insert.ensures.updates.0 in (
      well.0,
      well.1,
      subst (HaveNumbers c.args.next) (sym is) (numbers_opened (sessions_view c.self.inside.by_number.entries) c.self.inside.next c.args.next c.args.number
          (session_view c.args.session) (subst (λ s. s.next ≤ c.args.next) (sym c.self.view_is) c.requires.next) c.self.invariant.2 c.requires.number),
    )

pub returns-clause-opened : goal.returns-clause-opened
returns-clause-opened c =
    rw (← c.self.view_is) (ap (open_with c.self.inside.max_open c.args.next)
    (opened c.self.inside.by_number c.insert.new.self c.args.number c.args.session c.in_ok-insert.ensures.updates.0))
