-- What is owed of `seal_registration`.
use Rattle.std.proofs.Common.{arith, rules}
use Rattle.site_seal.proofs.sealing.seal_registration.Goals as goal

pub returns-clause-session : goal.returns-clause-session
returns-clause-session c = (omega arith, record { user = search rules; algorithms = search rules; challenge = search rules })
