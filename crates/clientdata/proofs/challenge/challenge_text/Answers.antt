-- What is owed of `challenge_text`.
use Rattle.std.proofs.Common.{rules}
use Rattle.clientdata.specs.Serialised.{challenge_text_of}
use Rattle.clientdata.proofs.challenge.challenge_text.Goals as goal

pub returns : goal.returns
unfolding challenge_text_of
returns c = search rules
