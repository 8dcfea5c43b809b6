-- What is owed of `serialised_texts`.
use Rattle.clientdata.proofs.ReadBack.{one_record, seen_of-text}
use Rattle.clientdata.proofs.law.serialised_texts.Goals as goal

pub returns-clause-read : goal.returns-clause-read
returns-clause-read c = seen_of-text

pub returns-clause-one_record : goal.returns-clause-one_record
returns-clause-one_record c = one_record
