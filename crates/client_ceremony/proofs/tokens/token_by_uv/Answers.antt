-- What is owed of `token_by_uv`.
use Rattle.client_ceremony.proofs.Stages.{first_halts, then_halts}
use Rattle.pin_client_messages.specs.CommandView.{point_view}
use Rattle.client_ceremony.proofs.tokens.token_by_uv.Goals as goal

pub returns-in-Err-clause-halts : goal.returns-in-Err-clause-halts
returns-in-Err-clause-halts c =
    first_halts c.in-Err.ensures.halts

pub returns-in-Ok-asked_by_uv-clause-token : goal.returns-in-Ok-asked_by_uv-clause-token
returns-in-Ok-asked_by_uv-clause-token c =
    (point_view c.in-Ok.peer, c.in-Ok.ensures.point, c.in-Ok-asked_by_uv.ensures.token)

pub returns-in-Err-asked_by_uv-clause-halts : goal.returns-in-Err-asked_by_uv-clause-halts
returns-in-Err-asked_by_uv-clause-halts c =
    then_halts (point_view c.in-Ok.peer) c.in-Ok.ensures.point c.in-Err-asked_by_uv.ensures.halts
