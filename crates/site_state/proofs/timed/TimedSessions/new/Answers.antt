-- What is owed of `TimedSessions::new`.
use Rattle.std.proofs.Common.{ap, ◌∙◌}
use Rattle.site_state.specs.Sessions.{OpenSessions}
use Rattle.site_state.proofs.Ages.{have_none, room_new}
use Rattle.site_state.proofs.timed.TimedSessions.new.Goals as goal

pub invariant_of-result : goal.invariant_of-result
invariant_of-result c =
    let none = ap (λ (x : OpenSessions). x.expected) (c.set_max_open.ensures) ∙ ap (λ (x : OpenSessions). x.expected) c.new-open_sessions.ensures in
    let most = ap (λ (x : OpenSessions). x.max_open) c.set_max_open.ensures in
    (have_none c.set_max_open.new.self c.new.result none c.new.ensures, room_new c.set_max_open.new.self c.new.result c.args.most none most)
