-- What is owed of `whole`.
use Rattle.ccbor.proofs.Shows.{none_refused}
use Rattle.pin_key_messages.proofs.reading.whole.Goals as goal

pub returns-in-Err-clause-none : goal.returns-in-Err-clause-none
returns-in-Err-clause-none c = none_refused _ c.args.bytes.now c.in-Err.ensures.errors c.in-Err.ensures.none c.in-Err.ensures.front
