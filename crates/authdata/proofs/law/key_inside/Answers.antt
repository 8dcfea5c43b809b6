-- What is owed of `key_inside`.
use Rattle.authdata.proofs.NoRefusal.{key_inside}
use Rattle.authdata.proofs.law.key_inside.Goals as goal

pub returns : goal.returns
returns c = key_inside
