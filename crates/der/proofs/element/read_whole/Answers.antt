-- What is owed of `read_whole`.
use Rattle.std.proofs.Common.{arith}
use Rattle.der.proofs.Clauses.{whole_found, whole_none, whole_trailing, whole_refused}
use Rattle.der.proofs.element.read_whole.Goals as goal

pub returns-clause-found : goal.returns-clause-found
returns-clause-found c = whole_found c.args.tag c.args.bytes.now c.whole_at.result c.requires (λ i. omega (arith, c.type_inv.bytes i)) c.whole_at.ensures

pub returns-clause-none : goal.returns-clause-none
returns-clause-none c = whole_none c.args.tag c.args.bytes.now c.whole_at.result c.whole_at.ensures

pub returns-clause-trailing : goal.returns-clause-trailing
returns-clause-trailing c = whole_trailing c.args.tag c.args.bytes.now c.whole_at.result c.requires (λ i. omega (arith, c.type_inv.bytes i)) c.whole_at.ensures

pub returns-clause-refused : goal.returns-clause-refused
returns-clause-refused c = whole_refused c.args.tag c.args.bytes.now c.whole_at.result c.requires (λ i. omega (arith, c.type_inv.bytes i)) c.whole_at.ensures
