-- What is owed of `known_front`.
use Rattle.std.proofs.Common.{◌≡◌, ◌∙◌, true}
use Rattle.ccbor.proofs.Decoding.{known_rest}
use Rattle.ccbor.proofs.Leaves.{front_is}
use Rattle.ccbor.proofs.passing.known_front.Goals as goal

pub returns-in_err-rest : goal.returns-in_err-rest
returns-in_err-rest c = rw c.from_residual.ensures (λ x a more canon is. let e = c.in_err-rest.ensures
    ∙ known_rest true x a more c.args.bytes.now canon is in absurd cc)

pub returns : goal.returns
returns c = λ x a more canon is.
    let e = c.in_ok-rest.ensures ∙ known_rest true x a more c.args.bytes.now canon is in
    let same : c.in_ok-rest.rest.now ≡ more = cc in
    (rw (c.span_before.ensures, same) (front_is c.args.bytes.now a more is), same)
