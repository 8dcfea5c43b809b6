-- What is owed of `read_tagged`.
use Rattle.std.proofs.Common.{arith}
use Rattle.der.proofs.Clauses.{tagged_found, tagged_none, tagged_refused}
use Rattle.der.proofs.element.read_tagged.Goals as goal

pub returns-clause-found : goal.returns-clause-found
returns-clause-found c = tagged_found c.args.tag c.args.bytes.now c.tagged_at.result c.requires (λ i. omega (arith, c.type_inv.bytes i)) c.tagged_at.ensures

pub returns-clause-none : goal.returns-clause-none
returns-clause-none c = tagged_none c.args.tag c.args.bytes.now c.tagged_at.result c.tagged_at.ensures

pub returns-clause-refused : goal.returns-clause-refused
returns-clause-refused c = tagged_refused c.args.tag c.args.bytes.now c.tagged_at.result (λ i. omega (arith, c.type_inv.bytes i)) c.tagged_at.ensures
