-- What is owed of `assertion_command`.
use Rattle.client_ceremony.specs.Commands.{AssertionBytes}
use Rattle.client_ceremony.specs.Pieces.{for, no_room}
use Rattle.ctap_open_replies.specs.ReplyView.{info_view}
use Rattle.ctap_open_requests.specs.Limits.{IsRefused}
use Rattle.ctap_open_requests.specs.Requests.{Assertion, AssertionOf}
use Rattle.std.proofs.Common.{refl, subst}
use Rattle.client_ceremony.proofs.commands.assertion_command.Goals as goal

pub returns-in-Err-clause-none : goal.returns-in-Err-clause-none
returns-in-Err-clause-none c =
    no_room refl

pub returns-in-Ok-write_assertion-clause-written : goal.returns-in-Ok-write_assertion-clause-written
returns-in-Ok-write_assertion-clause-written c =
    subst (λ (q : Assertion). AssertionBytes (info_view c.args.info.now) q c.in-Ok-write_assertion.command.items) c.in-Ok.ensures c.in-Ok-write_assertion.ensures.written

pub returns-in-Err-write_assertion-clause-none : goal.returns-in-Err-write_assertion-clause-none
returns-in-Err-write_assertion-clause-none c =
    for (c.in-Err-write_assertion.e, subst (λ (q : Assertion). IsRefused (info_view c.args.info.now) q.options q.allow (AssertionOf q) c.in-Err-write_assertion.e) c.in-Ok.ensures c.in-Err-write_assertion.ensures.refused, c.of_request.ensures)
