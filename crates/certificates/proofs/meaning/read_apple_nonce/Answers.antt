-- What is owed of `read_apple_nonce`.
use Rattle.std.proofs.Common.{arith}
use Rattle.certificates.proofs.Meant.{nonce_found, nonce_none}
use Rattle.certificates.proofs.meaning.read_apple_nonce.Goals as goal

pub returns-clause-found : goal.returns-clause-found
returns-clause-found c = nonce_found c.args.value.now c.nonce_in.result (λ i. omega (arith, c.type_inv.value i)) c.nonce_in.ensures

pub returns-clause-none : goal.returns-clause-none
returns-clause-none c = nonce_none c.args.value.now c.nonce_in.result c.nonce_in.ensures
