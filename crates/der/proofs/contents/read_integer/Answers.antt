-- What is owed of `read_integer`.
use Rattle.std.proofs.Common.{arith}
use Rattle.der.proofs.Integers.{integer_found, integer_none}
use Rattle.der.proofs.contents.read_integer.Goals as goal

pub returns-clause-found : goal.returns-clause-found
returns-clause-found c = integer_found c.args.content.now c.integer_in.result (λ i. omega (arith, c.type_inv.content i)) c.integer_in.ensures.exact

pub returns-clause-none : goal.returns-clause-none
returns-clause-none c = integer_none c.args.content.now c.integer_in.result c.integer_in.ensures.exact
