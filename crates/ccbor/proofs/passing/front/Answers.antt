-- What is owed of `front`.
use Rattle.std.proofs.Common.{◌∙◌, false, arith}
use Rattle.ccbor.proofs.Decoding.{known_rest, front_value}
use Rattle.ccbor.proofs.passing.front.Goals as goal

pub returns-in_err-rest : goal.returns-in_err-rest
returns-in_err-rest c = rw c.from_residual.ensures (λ v a b canon is. let e = c.in_err-rest.ensures
    ∙ known_rest false v a b c.args.bytes.now canon is in absurd cc)

pub returns : goal.returns
returns c = rw c.span_before.ensures (front_value c.args.bytes.now c.in_ok-rest.rest.now (λ i. omega (arith, c.type_inv.bytes i)) c.in_ok-rest.ensures)
