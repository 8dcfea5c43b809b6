-- What is owed of `read_optional`.
use Rattle.std.proofs.Common.{arith}
use Rattle.der.proofs.Clauses.{optional_found, optional_none, optional_absence, optional_refused}
use Rattle.der.proofs.element.read_optional.Goals as goal

pub returns-clause-found : goal.returns-clause-found
returns-clause-found c = optional_found c.args.tag c.args.bytes.now c.optional_at.result c.requires (λ i. omega (arith, c.type_inv.bytes i)) c.optional_at.ensures

pub returns-clause-absent : goal.returns-clause-absent
returns-clause-absent c = optional_absence c.args.tag c.args.bytes.now c.optional_at.result c.requires (λ i. omega (arith, c.type_inv.bytes i)) c.optional_at.ensures

pub returns-clause-none : goal.returns-clause-none
returns-clause-none c = optional_none c.args.tag c.args.bytes.now c.optional_at.result c.optional_at.ensures

pub returns-clause-refused : goal.returns-clause-refused
returns-clause-refused c = optional_refused c.args.tag c.args.bytes.now c.optional_at.result (λ i. omega (arith, c.type_inv.bytes i)) c.optional_at.ensures
