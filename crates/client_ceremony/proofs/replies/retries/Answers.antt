-- What is owed of `retries`.
use Rattle.client_ceremony.proofs.Stages.{first_halts}
use Rattle.client_ceremony.specs.Exchanges.{later}
use Rattle.client_ceremony.specs.Pieces.{so}
use Rattle.pin_client_messages.specs.ReplyView.{reply_view}
use Rattle.std.proofs.Common.{refl, sym}
use Rattle.client_ceremony.proofs.replies.retries.Goals as goal

pub returns-in-Err-clause-halts : goal.returns-in-Err-clause-halts
returns-in-Err-clause-halts c =
    first_halts c.in-Err.ensures.halts

pub returns-in-Some-clause-halts : goal.returns-in-Some-clause-halts
returns-in-Some-clause-halts c =
    so (later (reply_view c.in-Ok.told) c.in-Ok.ensures.told (c.in-Some.refusal, sym c.in-Some.ensures, refl))

pub returns-in-None-clause-left : goal.returns-in-None-clause-left
returns-in-None-clause-left c =
    (reply_view c.in-Ok.told, c.in-Ok.ensures.told, sym c.in-None.ensures, refl)
