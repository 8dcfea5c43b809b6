-- What is owed of `sizes`.
use Rattle.authdata.proofs.Unique.{length-bare, length-exact, length-low, length-least}
use Rattle.authdata.proofs.law.sizes.Goals as goal

pub returns-clause-bare : goal.returns-clause-bare
returns-clause-bare c = length-bare

pub returns-clause-attested : goal.returns-clause-attested
returns-clause-attested c = length-low

pub returns-clause-least : goal.returns-clause-least
returns-clause-least c = length-least

pub returns-clause-exact : goal.returns-clause-exact
returns-clause-exact c = length-exact
