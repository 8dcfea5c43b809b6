-- What is owed of `read_aaguid`.
use Rattle.std.proofs.Common.{arith}
use Rattle.certificates.proofs.Meant.{aaguid_found, aaguid_none}
use Rattle.certificates.proofs.meaning.read_aaguid.Goals as goal

pub returns-clause-found : goal.returns-clause-found
returns-clause-found c = aaguid_found c.args.value.now c.aaguid_in.result (λ i. omega (arith, c.type_inv.value i)) c.aaguid_in.ensures

pub returns-clause-none : goal.returns-clause-none
returns-clause-none c = aaguid_none c.args.value.now c.aaguid_in.result c.aaguid_in.ensures
