-- What is owed of `one_object`.
use Rattle.authdata.proofs.Objects.{one_object}
use Rattle.authdata.proofs.law.one_object.Goals as goal

pub returns : goal.returns
returns c = one_object
