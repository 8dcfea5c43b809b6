-- What is owed of `assertion_after`.
use Rattle.std.proofs.Common.{◌∷◌}
use Rattle.ccbor.specs.Viewing.{shown}
use Rattle.ctap_replies.specs.ReplyView.{lent_assertion_view}
use Rattle.ctap_replies.proofs.Laws.{assertion_is, assertion_none, is_assertion_reply}
use Rattle.ctap_replies.proofs.reading.assertion_after.Goals as goal

pub returns-in-Ok-clause-found : goal.returns-in-Ok-clause-found
returns-in-Ok-clause-found c =
    assertion_is (shown c.in_ok-value.value) c.args.rest.now c.in_ok-value.ensures.found (lent_assertion_view c.in-Ok.reply) c.in-Ok.ensures

pub returns-in-Err-clause-refused : goal.returns-in-Err-clause-refused
returns-in-Err-clause-refused c = assertion_none (shown c.in_ok-value.value) c.args.rest.now c.in_ok-value.ensures.found c.in-Err.ensures

pub returns-in-Some-clause-found : goal.returns-in-Some-clause-found
returns-in-Some-clause-found c = is_assertion_reply (lent_assertion_view c.in-Some.reply) (0 ∷ c.args.rest.now) c.in-Some.ensures
