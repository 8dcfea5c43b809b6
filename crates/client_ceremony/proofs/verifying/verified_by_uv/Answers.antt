-- What is owed of `verified_by_uv`.
use Rattle.client_ceremony.proofs.Stages.{first_halts, then_halts}
use Rattle.client_ceremony.proofs.verifying.verified_by_uv.Goals as goal

pub returns-in-Err-clause-halts : goal.returns-in-Err-clause-halts
returns-in-Err-clause-halts c =
    first_halts c.in-Err.ensures.halts

pub returns-in-Ok-by_token-clause-verified : goal.returns-in-Ok-by_token-clause-verified
returns-in-Ok-by_token-clause-verified c =
    (c.in-Ok.token.now, c.in-Ok.ensures.token, c.in-Ok-by_token.ensures.verified)

pub returns-in-Err-by_token-clause-halts : goal.returns-in-Err-by_token-clause-halts
returns-in-Err-by_token-clause-halts c =
    then_halts c.in-Ok.token.now c.in-Ok.ensures.token c.in-Err-by_token.ensures.halts
