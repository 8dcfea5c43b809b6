-- What is owed of `attested_at`.
use Rattle.std.proofs.Common.{sym}
use Rattle.authdata.proofs.Joins.{to_the_end}
use Rattle.authdata.proofs.Firsts.{credential_refused}
use Rattle.authdata.proofs.reading.attested_at.Goals as goal

pub returns-in-Err-clause-refused : goal.returns-in-Err-clause-refused
returns-in-Err-clause-refused c = credential_refused c.args.profile c.args.bytes.now _ (sym c.if-is_set.ensures) c.in-Err.ensures.refused

pub returns-else-is_set-clause-found : goal.returns-else-is_set-clause-found
returns-else-is_set-clause-found c = sym (to_the_end 37 c.args.bytes.now)
