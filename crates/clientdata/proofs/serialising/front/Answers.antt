-- What is owed of `front`.
use Rattle.std.proofs.Common.{rules}
use Rattle.clientdata.specs.Serialised.{client_data_front}
use Rattle.clientdata.proofs.serialising.front.Goals as goal

pub returns : goal.returns
unfolding client_data_front
returns c = search rules
