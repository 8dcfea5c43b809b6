-- What is owed of `next_reply_bytes`.
use Rattle.ctap_replies.specs.ReplyView.{lent_assertion_view}
use Rattle.ctap_replies.proofs.AssertionBytes.{next_unnumbered}
use Rattle.ctap_replies.proofs.writing.next_reply_bytes.Goals as goal

pub returns-in-None-clause-spelled : goal.returns-in-None-clause-spelled
returns-in-None-clause-spelled c = c.write_assertion.ensures.next c.in-None.is

pub returns-in-Some-clause-unfit : goal.returns-in-Some-clause-unfit
returns-in-Some-clause-unfit c = λ e bs. next_unnumbered (lent_assertion_view c.args.reply.now) _ bs c.in-Some.is
