-- What is owed of `pin_laws`.
use Rattle.key_pin.proofs.Laws.{laws}
use Rattle.key_pin.proofs.law.pin_laws.Goals as goal

pub returns : goal.returns
returns c = laws
