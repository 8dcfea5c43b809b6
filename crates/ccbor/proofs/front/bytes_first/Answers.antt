-- What is owed of `bytes_first`.
use Rattle.std.proofs.Common.{arith}
use Rattle.ccbor.proofs.BytesFirst.{bytes_spelled}
use Rattle.ccbor.proofs.front.bytes_first.Goals as goal

pub returns : goal.returns
returns c =
    let h = c.in-Ok in
    let k = c.in-Ok-content_at in
    bytes_spelled c.args.bytes.now h.rest.now k.content.now k.rest.now h.head.major h.head.argument (λ i. omega (arith, c.type_inv.bytes i)) h.ensures
    (omega arith) k.ensures
