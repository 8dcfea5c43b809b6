-- What is owed of `creation_reply_after`.
use Rattle.ccbor.specs.Viewing.{shown}
use Rattle.ctap_replies.specs.ReplyView.{creation_reply_view}
use Rattle.ctap_replies.proofs.Laws.{creation_is, creation_refused}
use Rattle.ctap_replies.proofs.reading.creation_reply_after.Goals as goal

pub returns-in-Ok-clause-found : goal.returns-in-Ok-clause-found
returns-in-Ok-clause-found c =
    creation_is (shown c.in_ok-value.value) c.args.rest.now c.in_ok-value.ensures.found (creation_reply_view c.in-Ok.reply) c.in-Ok.ensures

pub returns-in-Err-clause-refused : goal.returns-in-Err-clause-refused
returns-in-Err-clause-refused c =
    rw c.from.ensures (creation_refused (shown c.in_ok-value.value) c.args.rest.now c.in_ok-value.ensures.found c.in-Err.e c.in-Err.ensures)
