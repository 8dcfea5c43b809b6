-- What is owed of `close_all`.
use Rattle.std.proofs.Common.{◌≡◌, ◌∙◌, ap, arith, get_or, sym}
use Rattle.std.specs.Prelude.{is_some, true, false}
use Rattle.std.specs.FinMap as finite
use Rattle.site_state.specs.Sessions.{OpenSessions}
use Rattle.site_state.proofs.Ages.{none_closed, one_closed, removed_next, without_next}
use Rattle.site_state.proofs.timed.close_all.Goals.{then-close, else-close}
use Rattle.site_state.proofs.timed.close_all.Goals as goal

pub loop-session-preserved : goal.loop-session-preserved
loop-session-preserved c =
    let n = get_or c.args.sessions.now c.loop-session.session-index 0 in
    let m = c.loop-session.open_sessions.expected in
    let kept = c.loop-session.invariant.2 in
    let bound = c.loop-session.invariant.3 in
    let left : finite.len c.close.new.self.expected ≡ finite.len (finite.remove m n) =
    ap (λ (x : OpenSessions). finite.len x.expected) c.close.ensures.closed in (
      without_next c.args.sessions.now c.loop-session.session-index 0 c.args.open_sessions.now c.loop-session.open_sessions c.close.new.self
          c.loop-session-test.true c.loop-session.invariant.0 c.close.ensures.closed,
      c.remove.ensures ∙ ap (λ b. finite.remove b n) c.loop-session.invariant.1
          ∙ sym (removed_next c.args.sessions.now c.loop-session.session-index 0 c.args.began.now c.loop-session-test.true),
      elim c.if-close.branch [
        | then-close w ↦
            let open_ : is_some (finite.get m n) ≡ true = sym c.close.ensures.told ∙ w.if-close.true in
            let one = one_closed m n open_ in
            let count = w.count-is in
            omega (arith, kept, left, one, count)
        | else-close w ↦
            let closed_ : is_some (finite.get m n) ≡ false = sym c.close.ensures.told ∙ w.if-close.false in
            let none = none_closed m n closed_ in
            let count = w.count-is in
            omega (arith, kept, left, none, count)
      ],
      elim c.if-close.branch [
        | then-close w ↦ let count = w.count-is in omega (arith, bound, count)
        | else-close w ↦ let count = w.count-is in omega (arith, bound, count)
      ],
    )
