-- What is owed of `one_outcome`.
use Rattle.hidlink.proofs.Laws.{one_carried, one_death, not_both, packets_taken}
use Rattle.hidlink.proofs.collection.one_outcome.Goals as goal

pub returns-clause-carried : goal.returns-clause-carried
returns-clause-carried c = one_carried

pub returns-clause-dies : goal.returns-clause-dies
returns-clause-dies c = λ cid j k ps kind other low all. one_death cid j k ps kind other low (packets_taken j ps all)

pub returns-clause-apart : goal.returns-clause-apart
returns-clause-apart c = not_both
