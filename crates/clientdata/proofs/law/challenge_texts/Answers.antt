-- What is owed of `challenge_texts`.
use Rattle.clientdata.proofs.OneText.{one_challenge}
use Rattle.clientdata.proofs.law.challenge_texts.Goals as goal

pub returns : goal.returns
returns c = one_challenge
