-- What is owed of `one_history`.
use Rattle.hidlink.proofs.Most.{at_most}
use Rattle.hidlink.proofs.Readings.{one_reading}
use Rattle.hidlink.proofs.Steps.{one_state, leaves_some}
use Rattle.hidlink.proofs.transaction.one_history.Goals as goal

pub returns-clause-one : goal.returns-clause-one
returns-clause-one c = one_reading

pub returns-clause-one_state : goal.returns-clause-one_state
returns-clause-one_state c = one_state

pub returns-clause-every : goal.returns-clause-every
returns-clause-every c = leaves_some

pub returns-clause-most : goal.returns-clause-most
returns-clause-most c = at_most
