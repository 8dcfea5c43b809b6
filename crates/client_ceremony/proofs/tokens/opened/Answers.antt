-- What is owed of `opened`.
use Rattle.client_ceremony.proofs.Stages.{first_halts, then_halts}
use Rattle.pin_client_messages.specs.ReplyView.{reply_view}
use Rattle.client_ceremony.proofs.tokens.opened.Goals as goal

pub returns-in-Err-clause-halts : goal.returns-in-Err-clause-halts
returns-in-Err-clause-halts c =
    first_halts c.in-Err.ensures.halts

pub returns-in-Ok-token_of-clause-token : goal.returns-in-Ok-token_of-clause-token
returns-in-Ok-token_of-clause-token c =
    (reply_view c.in-Ok.told, c.in-Ok.ensures.told, c.in-Ok-token_of.ensures.token)

pub returns-in-Err-token_of-clause-halts : goal.returns-in-Err-token_of-clause-halts
returns-in-Err-token_of-clause-halts c =
    then_halts (reply_view c.in-Ok.told) c.in-Ok.ensures.told c.in-Err-token_of.ensures.halts
