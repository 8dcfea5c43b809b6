-- What is owed of `digest_lengths`.
use Rattle.sha2.proofs.Facts256.{length-sha256}
use Rattle.clientdata.proofs.law.digest_lengths.Goals as goal

pub returns : goal.returns
returns c = length-sha256
