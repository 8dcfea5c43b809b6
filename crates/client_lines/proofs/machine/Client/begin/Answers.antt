-- What is owed of `begin`.
use Rattle.std.proofs.Common.{inr, refl}
use Rattle.client_lines.proofs.machine.Client.begin.Goals as goal

pub returns-in-Ok : goal.returns-in-Ok
returns-in-Ok c = inr (c.in-Ok.ceremony, refl, c.in-Ok.ensures)
