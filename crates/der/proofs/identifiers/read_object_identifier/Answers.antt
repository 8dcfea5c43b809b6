-- What is owed of `read_object_identifier`.
use Rattle.std.proofs.Common.{arith}
use Rattle.der.proofs.ObjectIdentifiers.{identifier_found, identifier_none}
use Rattle.der.proofs.identifiers.read_object_identifier.Goals as goal

pub returns-clause-found : goal.returns-clause-found
returns-clause-found c =
    identifier_found c.args.content.now c.object_identifier_in.result (λ i. omega (arith, c.type_inv.content i)) c.object_identifier_in.ensures

pub returns-clause-none : goal.returns-clause-none
returns-clause-none c = identifier_none c.args.content.now c.object_identifier_in.result c.object_identifier_in.ensures
