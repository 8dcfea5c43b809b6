-- What is owed of `with_uv`.
use Rattle.client_ceremony.proofs.Stages.{then_halts}
use Rattle.client_ceremony.specs.Exchanges.{at_once}
use Rattle.client_ceremony.specs.Pieces.{so}
use Rattle.std.proofs.Common.{refl}
use Rattle.client_ceremony.proofs.verifying.with_uv.Goals as goal

pub returns-in-Err-clause-halts : goal.returns-in-Err-clause-halts
returns-in-Err-clause-halts c =
    so (at_once (c.in-Err.refusal, c.in-Err.ensures.none, refl))

pub returns-in-Ok-verified_by_uv-clause-verified : goal.returns-in-Ok-verified_by_uv-clause-verified
returns-in-Ok-verified_by_uv-clause-verified c =
    (c.in-Ok.protocol, c.in-Ok.ensures.told, c.in-Ok-verified_by_uv.ensures.verified)

pub returns-in-Err-verified_by_uv-clause-halts : goal.returns-in-Err-verified_by_uv-clause-halts
returns-in-Err-verified_by_uv-clause-halts c =
    then_halts c.in-Ok.protocol c.in-Ok.ensures.told c.in-Err-verified_by_uv.ensures.halts
