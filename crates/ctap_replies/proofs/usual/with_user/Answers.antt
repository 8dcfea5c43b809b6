-- What is owed of `with_user`.
use Rattle.std.proofs.Common.{refl, sym, ◌∙◌}
use Rattle.ctap_replies.specs.ReplyView.{lent_assertion_view}
use Rattle.ctap_replies.proofs.UsualReplies.{nothing_left, with_user}
use Rattle.ctap_replies.proofs.usual.with_user.Goals as goal

pub returns : goal.returns
returns c =
    let user = c.in_ok-user in
    with_user (lent_assertion_view c.in_ok-reply.reply) _ user.user.now c.args.bytes.now c.in_ok-reply.rest.now c.in_ok-rest.rest.now user.rest.now
    c.in_ok-reply.ensures refl user.ensures.0 c.in_ok-rest.ensures user.ensures.1
    (nothing_left user.rest.now (sym c.is_empty.ensures ∙ c.if-not-is_empty.false))
