-- What is owed of `token_by_pin`.
use Rattle.client_ceremony.proofs.Stages.{first_halts, then_halts}
use Rattle.pin_client_messages.specs.CommandView.{point_view}
use Rattle.client_ceremony.proofs.tokens.token_by_pin.Goals as goal

pub returns-in-Err-clause-halts : goal.returns-in-Err-clause-halts
returns-in-Err-clause-halts c =
    first_halts c.in-Err.ensures.halts

pub returns-in-Err-agreement-clause-halts : goal.returns-in-Err-agreement-clause-halts
returns-in-Err-agreement-clause-halts c =
    then_halts c.in-Ok.pin.now c.in-Ok.ensures.pin (first_halts c.in-Err-agreement.ensures.halts)

pub returns-in-Ok-asked_by_pin-clause-token : goal.returns-in-Ok-asked_by_pin-clause-token
returns-in-Ok-asked_by_pin-clause-token c =
    (c.in-Ok.pin.now, c.in-Ok.ensures.pin, point_view c.in-Ok-agreement.peer, c.in-Ok-agreement.ensures.point, c.in-Ok-asked_by_pin.ensures.token)

pub returns-in-Err-asked_by_pin-clause-halts : goal.returns-in-Err-asked_by_pin-clause-halts
returns-in-Err-asked_by_pin-clause-halts c =
    then_halts c.in-Ok.pin.now c.in-Ok.ensures.pin (then_halts (point_view c.in-Ok-agreement.peer) c.in-Ok-agreement.ensures.point c.in-Err-asked_by_pin.ensures.halts)
