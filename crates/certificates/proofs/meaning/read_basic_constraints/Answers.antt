-- What is owed of `read_basic_constraints`.
use Rattle.std.proofs.Common.{arith}
use Rattle.certificates.proofs.Meant.{constraints_found, constraints_none}
use Rattle.certificates.proofs.meaning.read_basic_constraints.Goals as goal

pub returns-clause-found : goal.returns-clause-found
returns-clause-found c = constraints_found c.args.value.now c.constraints_in.result (λ i. omega (arith, c.type_inv.value i)) c.constraints_in.ensures

pub returns-clause-none : goal.returns-clause-none
returns-clause-none c = constraints_none c.args.value.now c.constraints_in.result c.constraints_in.ensures
