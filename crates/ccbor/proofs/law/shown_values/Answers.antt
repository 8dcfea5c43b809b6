-- What is owed of `shown_values`.
use Rattle.ccbor.proofs.Shows.{shown_is}
use Rattle.ccbor.proofs.Elements.{shown_pairs_is}
use Rattle.ccbor.proofs.law.shown_values.Goals as goal

pub returns-clause-value : goal.returns-clause-value
returns-clause-value c = shown_is

pub returns-clause-pairs : goal.returns-clause-pairs
returns-clause-pairs c = shown_pairs_is
