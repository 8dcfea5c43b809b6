-- What is owed of `TimedSessions::expire`.
use Rattle.std.proofs.Common.{ap, sym, subst, ◌∙◌}
use Rattle.site_state.specs.Timed.{HaveMoments, Timed, since}
use Rattle.site_state.specs.Private.{removed}
use Rattle.site_state.proofs.Ages.{have_left, room_left, without_older}
use Rattle.site_state.proofs.timed.TimedSessions.expire.Goals as goal

pub invariant_of-self : goal.invariant_of-self
invariant_of-self c =
    let s : Timed = record { open_sessions = c.self.inside.open_sessions; began = c.self.inside.began } in
    let t : Timed = record { open_sessions = c.close_all.new.open_sessions; began = c.close_all.new.began } in
    let is = without_older c.in_ok-ended.ended.items c.args.before s c.close_all.new.open_sessions c.close_all.new.began c.in_ok-ended.ensures c.self.invariant.0
    (c.close_all.ensures.closed ∙ ap (λ ns. record s.open_sessions { expected = removed ns s.open_sessions.expected }) c.deref.ensures.value)
    (c.close_all.ensures.moments ∙ ap (λ ns. removed ns s.began) c.deref.ensures.value) in (
      subst HaveMoments (sym is) (have_left s c.args.before c.self.invariant.0),
      room_left s t c.args.before c.close_all.result is c.close_all.ensures.count c.self.invariant.1,
    )

pub returns-clause-expired : goal.returns-clause-expired
returns-clause-expired c =
    let s : Timed = record { open_sessions = c.self.inside.open_sessions; began = c.self.inside.began } in
    let is = without_older c.in_ok-ended.ended.items c.args.before s c.close_all.new.open_sessions c.close_all.new.began c.in_ok-ended.ensures c.self.invariant.0
    (c.close_all.ensures.closed ∙ ap (λ ns. record s.open_sessions { expected = removed ns s.open_sessions.expected }) c.deref.ensures.value)
    (c.close_all.ensures.moments ∙ ap (λ ns. removed ns s.began) c.deref.ensures.value) in
    is ∙ ap (since c.args.before) c.self.view_is
