-- What is owed of `agreement`.
use Rattle.client_ceremony.proofs.Stages.{first_halts}
use Rattle.client_ceremony.specs.Exchanges.{later}
use Rattle.client_ceremony.specs.Pieces.{so}
use Rattle.pin_client_messages.specs.ReplyView.{reply_view}
use Rattle.std.proofs.Common.{refl}
use Rattle.client_ceremony.proofs.replies.agreement.Goals as goal

pub returns-in-Err-clause-halts : goal.returns-in-Err-clause-halts
returns-in-Err-clause-halts c =
    first_halts c.in-Err.ensures.halts

pub returns-in-Ok-point_of-clause-point : goal.returns-in-Ok-point_of-clause-point
returns-in-Ok-point_of-clause-point c =
    (reply_view c.in-Ok.told, c.in-Ok.ensures.told, c.in-Ok-point_of.ensures.point)

pub returns-in-Err-point_of-clause-halts : goal.returns-in-Err-point_of-clause-halts
returns-in-Err-point_of-clause-halts c =
    so (later (reply_view c.in-Ok.told) c.in-Ok.ensures.told (c.in-Err-point_of.refusal, c.in-Err-point_of.ensures.none, refl))
