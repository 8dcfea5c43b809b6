-- What is owed of `agreed`.
use Rattle.pin_protocols.proofs.session.agreed.Goals as goal

pub returns-in-Ok-clause-agreed : goal.returns-in-Ok-clause-agreed
returns-in-Ok-clause-agreed c = (c.in-Ok.answer.now, c.in-Ok.ensures.answered, c.parts.ensures)
