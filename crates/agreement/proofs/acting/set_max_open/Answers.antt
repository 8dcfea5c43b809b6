-- What is owed of `set_max_open`.
use Rattle.agreement.proofs.acting.set_max_open.Goals as goal

pub returns : goal.returns
returns c = c.set_max_open.ensures
