-- What is owed of `abandon`.
use Rattle.agreement.proofs.acting.abandon.Goals as goal

pub returns : goal.returns
returns c = c.abandon.ensures.closed
