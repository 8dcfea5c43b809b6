-- What is owed of `Sessions::admit`.
use Rattle.std.proofs.Common.{◌<◌, arith, refl, rules, sym, subst}
use Rattle.refusal_order.proofs.Laws.{first_at}
use Rattle.site_state.proofs.sessions.Sessions.admit.Goals as goal

pub returns-then-not-is_input-clause-refused : goal.returns-then-not-is_input-clause-refused
returns-then-not-is_input-clause-refused c profile asked is =
    first_at 0 refl (search rules) (λ input. let yes = is.1 input in let no = c.if-not-is_input.true in absurd cc)

pub returns-then-not-has_room-clause-refused : goal.returns-then-not-has_room-clause-refused
returns-then-not-has_room-clause-refused c profile asked is =
    first_at 1 refl (is.0 c.if-not-is_input.false, tt) (λ room. let yes = c.has_room.ensures.1 room in let no = c.if-not-has_room.true in absurd cc)

pub returns-then-self-clause-refused : goal.returns-then-self-clause-refused
returns-then-self-clause-refused c profile asked is =
    first_at 2 refl (is.0 c.if-not-is_input.false, (c.has_room.ensures.0 c.if-not-has_room.false, tt)) (λ room.
    let seen = subst (λ s. s.next < 18446744073709551615) (sym c.self.view_is) room in
    absurd (omega (arith, seen, c.if-self.true)))
