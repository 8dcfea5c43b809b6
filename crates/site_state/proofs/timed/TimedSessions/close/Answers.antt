-- What is owed of `TimedSessions::close`.
use Rattle.std.proofs.Common.{sym, subst}
use Rattle.site_state.specs.Timed.{HasRoom, HaveMoments, Timed}
use Rattle.site_state.proofs.Ages.{ended_there, have_ended, room_ended}
use Rattle.site_state.proofs.timed.TimedSessions.close.Goals as goal

pub invariant_of-self : goal.invariant_of-self
invariant_of-self c =
    let s : Timed = record { open_sessions = c.self.inside.open_sessions; began = c.self.inside.began } in
    let is = ended_there s c.args.session c.close.new.self c.remove.new.self c.close.ensures.closed c.remove.ensures in
    (subst HaveMoments (sym is) (have_ended s c.args.session c.self.invariant.0), subst HasRoom (sym is) (room_ended s c.args.session c.self.invariant.1))
