-- What is owed of `read_certificate`.
use Rattle.std.proofs.Common.{arith}
use Rattle.certificates.proofs.Whole.{certificate_found, certificate_signed, certificate_none}
use Rattle.certificates.proofs.certificate.read_certificate.Goals as goal

pub returns-clause-found : goal.returns-clause-found
returns-clause-found c = certificate_found c.args.bytes.now c.certificate_at.result (λ i. omega (arith, c.type_inv.bytes i)) c.certificate_at.ensures

pub returns-clause-signed : goal.returns-clause-signed
returns-clause-signed c = certificate_signed c.args.bytes.now c.certificate_at.result (λ i. omega (arith, c.type_inv.bytes i)) c.certificate_at.ensures

pub returns-clause-none : goal.returns-clause-none
returns-clause-none c = certificate_none c.args.bytes.now c.certificate_at.result c.certificate_at.ensures
