-- What is owed of `assertion_reply`.
use Rattle.client_ceremony.proofs.assertions.assertion_reply.Goals as goal

pub returns-in-Ok-clause-told : goal.returns-in-Ok-clause-told
returns-in-Ok-clause-told c =
    c.in-Ok.ensures.found

pub returns-in-Err-clause-unread : goal.returns-in-Err-clause-unread
returns-in-Err-clause-unread c =
    (c.in-Err.e, c.in-Err.ensures.refused, c.of_reply.ensures)
