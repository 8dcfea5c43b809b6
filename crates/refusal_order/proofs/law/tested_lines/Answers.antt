-- What is owed of `tested_lines`.
use Rattle.refusal_order.proofs.Laws.{tested}
use Rattle.refusal_order.proofs.law.tested_lines.Goals as goal

pub returns : goal.returns
returns g c = tested
