-- What is owed of `outgoing`.
use Rattle.std.proofs.Common.{subst}
use Rattle.std.proofs.lemmas.Result.{err_from_is_err_and}
use Rattle.client.specs.Steps.{IsFramed, IsNotSent}
use Rattle.client.proofs.Refusals.{sending_fails, passes_all, asks}
use Rattle.client.proofs.asking.outgoing.Goals as goal

pub returns-in_err-packets-clause-refused : goal.returns-in_err-packets-clause-refused
returns-in_err-packets-clause-refused c = λ x may request.
    let p = err_from_is_err_and c.from_residual.result c.from_residual.ensures.1 in
    rw (p.1, p.2) (sending_fails x c.in_err-packets.field-0.0 may
    (subst (λ q. IsNotSent q c.in_err-packets.field-0.0) request c.in_err-packets.ensures.refused))

pub returns-clause-passes : goal.returns-clause-passes
returns-clause-passes c = λ x may request.
    passes_all x c.args.cid c.in_ok-packets.packets.items may
    (subst (λ q. IsFramed q c.args.cid c.in_ok-packets.packets.items) request c.in_ok-packets.ensures.framed)

pub returns-clause-asks : goal.returns-clause-asks
returns-clause-asks c = λ x same request.
    asks x c.args.cid c.args.client_data.items c.in_ok-packets.packets.items same
    (subst (λ q. IsFramed q c.args.cid c.in_ok-packets.packets.items) request c.in_ok-packets.ensures.framed)
