-- What is owed of `one_reading`.
use Rattle.authdata.proofs.Unique.{one_front, one_value}
use Rattle.authdata.proofs.law.one_reading.Goals as goal

pub returns-clause-one_value : goal.returns-clause-one_value
returns-clause-one_value c = one_value

pub returns-clause-one_front : goal.returns-clause-one_front
returns-clause-one_front c = one_front
