-- What is owed of `key_from`.
use Rattle.std.proofs.Common.{rules}
use Rattle.passkey_c.proofs.input.key_from.Goals as goal

pub returns-in-Ok-clause-kept : goal.returns-in-Ok-clause-kept
returns-in-Ok-clause-kept c = (search rules, (search rules, (search rules, tt)))
