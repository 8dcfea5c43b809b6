-- What the loop of `close_all` keeps.
use Rattle.std.proofs.Common.{◌≡◌, ◌≤◌, ◌+◌, take}
use Rattle.std.specs.FinMap as finite
use Rattle.site_state.specs.Private.{removed}
use Rattle.site_state.proofs.timed.close_all.Given as goal

abbrev pub invariant-loop-session : goal.invariant-loop-session
invariant-loop-session l =
    (l.open_sessions ≡ record l.fn.open_sessions { expected = removed (take l.session-index l.sessions) l.fn.open_sessions.expected })
    × (l.began ≡ removed (take l.session-index l.sessions) l.fn.began)
    × (l.count + finite.len l.open_sessions.expected ≡ finite.len l.fn.open_sessions.expected)
    × (l.count ≤ l.session-index)
