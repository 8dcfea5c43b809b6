-- What is owed of `profiles`.
use Rattle.authdata.proofs.NoRefusal.{closed, level3, opened}
use Rattle.authdata.proofs.law.profiles.Goals as goal

pub returns-clause-taken : goal.returns-clause-taken
returns-clause-taken c = opened

pub returns-clause-strict : goal.returns-clause-strict
returns-clause-strict c = closed

pub returns-clause-level3 : goal.returns-clause-level3
returns-clause-level3 c = level3
