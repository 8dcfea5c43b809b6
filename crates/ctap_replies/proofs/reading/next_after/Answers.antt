-- What is owed of `next_after`.
use Rattle.ccbor.specs.Viewing.{shown}
use Rattle.ctap_replies.specs.ReplyView.{lent_assertion_view}
use Rattle.ctap_replies.proofs.Laws.{next_is, next_none, next_numbered}
use Rattle.ctap_replies.proofs.reading.next_after.Goals as goal

pub returns-in-None-clause-found : goal.returns-in-None-clause-found
returns-in-None-clause-found c =
    next_is (shown c.in_ok-value.value) c.args.rest.now c.in_ok-value.ensures.found
    (lent_assertion_view c.in-Ok.reply) c.in-Ok.ensures c.in-None.is

pub returns-in-Some-clause-refused : goal.returns-in-Some-clause-refused
returns-in-Some-clause-refused c =
    next_numbered (shown c.in_ok-value.value) c.args.rest.now c.in_ok-value.ensures.found
    (lent_assertion_view c.in-Ok.reply) _ c.in-Ok.ensures c.in-Some.is

pub returns-in-Err-clause-refused : goal.returns-in-Err-clause-refused
returns-in-Err-clause-refused c = next_none (shown c.in_ok-value.value) c.args.rest.now c.in_ok-value.ensures.found c.in-Err.ensures
