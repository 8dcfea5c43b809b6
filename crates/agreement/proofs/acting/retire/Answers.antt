-- What is owed of `retire`.
use Rattle.agreement.proofs.acting.retire.Goals as goal

pub returns : goal.returns
returns c = λ was. c.retire.ensures.after was
