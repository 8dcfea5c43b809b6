-- What is owed of `find_extension`.
use Rattle.std.proofs.Common.{refl}
use Rattle.certificates.proofs.Found.{found_of}
use Rattle.certificates.proofs.extension.find_extension.Goals as goal

pub returns-clause-found : goal.returns-clause-found
returns-clause-found c = found_of c.args.content.now c.args.identifier.now c.first.result (c.in_ok-check_distinct.ensures.found refl) c.first.ensures.found
