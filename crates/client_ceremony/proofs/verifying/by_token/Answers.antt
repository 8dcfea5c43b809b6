-- What is owed of `by_token`.
use Rattle.client_ceremony.proofs.Exchanging.{by_param}
use Rattle.client_ceremony.specs.Pieces.{so}
use Rattle.std.proofs.Common.{ap, ℕ}
use Rattle.client_ceremony.proofs.verifying.by_token.Goals as goal

pub returns-in-Ok-clause-verified : goal.returns-in-Ok-clause-verified
returns-in-Ok-clause-verified c =
    (c.in-Ok.param.now, c.in-Ok.ensures.param, ap (λ (n : ℕ). by_param c.in-Ok.param.now n c.args.place) c.number.ensures)

pub returns-in-Err-clause-halts : goal.returns-in-Err-clause-halts
returns-in-Err-clause-halts c =
    so (c.in-Err.stop, c.in-Err.ensures.stops, c.stopped.ensures)
