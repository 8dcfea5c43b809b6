-- What is owed of `answered`.
use Rattle.std.proofs.Common.{Ok, Err, refl}
use Rattle.key_pin.specs.Host.{refused}
use Rattle.key_pin.specs.Pieces.{IsOutcome, outcome_view}
use Rattle.key_pin.proofs.state.ClientPin.answered.Goals as goal

pub returns-in_ok-reply-in-Ok-clause-done : goal.returns-in_ok-reply-in-Ok-clause-done
returns-in_ok-reply-in-Ok-clause-done c =
    let is : IsOutcome c.args.outcome (Ok (outcome_view c.in-Ok.outcome)) = rw c.in-Ok.is refl in
    (Ok (outcome_view c.in-Ok.outcome), is, c.in_ok-reply-in-Ok.ensures, c.carry_out.ensures)

pub returns-in_ok-reply-in-Err-Refused-clause-done : goal.returns-in_ok-reply-in-Err-Refused-clause-done
returns-in_ok-reply-in-Err-Refused-clause-done c =
    let is : IsOutcome c.args.outcome (Err (refused c.in-Err-Refused.status)) = rw (c.in-Err-Refused.is, c.in-Err-Refused.field-0-is) refl in
    (Err (refused c.in-Err-Refused.status), is, c.in_ok-reply-in-Err-Refused.ensures, refl)
