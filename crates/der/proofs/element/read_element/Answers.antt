-- What is owed of `read_element`.
use Rattle.std.proofs.Common.{arith}
use Rattle.der.proofs.Clauses.{element_found, element_none, element_refused}
use Rattle.der.proofs.element.read_element.Goals as goal

pub returns-clause-found : goal.returns-clause-found
returns-clause-found c = element_found c.args.bytes.now c.element_at.result (λ i. omega (arith, c.type_inv.bytes i)) c.element_at.ensures

pub returns-clause-none : goal.returns-clause-none
returns-clause-none c = element_none c.args.bytes.now c.element_at.result c.element_at.ensures

pub returns-clause-refused : goal.returns-clause-refused
returns-clause-refused c = element_refused c.args.bytes.now c.element_at.result (λ i. omega (arith, c.type_inv.bytes i)) c.element_at.ensures
