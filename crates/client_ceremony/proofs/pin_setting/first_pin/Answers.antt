-- What is owed of `first_pin`.
use Rattle.client_ceremony.proofs.Stages.{first_halts, then_halts}
use Rattle.client_ceremony.specs.Exchanges.{at_once}
use Rattle.client_ceremony.specs.Pieces.{so}
use Rattle.pin_client_messages.specs.CommandView.{point_view}
use Rattle.std.proofs.Common.{refl}
use Rattle.client_ceremony.proofs.pin_setting.first_pin.Goals as goal

pub returns-in-Err : goal.returns-in-Err
returns-in-Err c =
    so (at_once (c.in-Err.refusal, c.in-Err.ensures.not, refl))

pub returns-in-Ok-agreement : goal.returns-in-Ok-agreement
returns-in-Ok-agreement c =
    then_halts c.in-Ok.protocol c.in-Ok.ensures.sets (then_halts (point_view c.in-Ok-agreement.peer) c.in-Ok-agreement.ensures.point c.set_to.ensures)

pub returns-in-Err-agreement : goal.returns-in-Err-agreement
returns-in-Err-agreement c =
    then_halts c.in-Ok.protocol c.in-Ok.ensures.sets (first_halts c.in-Err-agreement.ensures.halts)
