-- What is owed of `without_user`.
use Rattle.std.proofs.Common.{sym, ◌∙◌}
use Rattle.ctap_replies.specs.ReplyView.{lent_assertion_view}
use Rattle.ctap_replies.proofs.UsualReplies.{nothing_left, without_user}
use Rattle.ctap_replies.proofs.usual.without_user.Goals as goal

pub returns-then-is_empty : goal.returns-then-is_empty
returns-then-is_empty c = without_user (lent_assertion_view c.in_ok-reply.reply) c.args.bytes.now c.in_ok-reply.rest.now c.in_ok-reply.ensures
    (nothing_left c.in_ok-reply.rest.now (sym c.is_empty.ensures ∙ c.if-is_empty.true))
