-- What is owed of `put_assertion`.
use Rattle.ctap_replies.specs.ReplyView.{lent_assertion_view}
use Rattle.ctap_replies.proofs.AssertionBytes.{written}
use Rattle.ctap_replies.proofs.assertions.put_assertion.Goals as goal

pub returns : goal.returns
returns c =
    written (lent_assertion_view c.args.reply.now) c.member_count.result c.args.out.now.items c.push.new.self.items c.append_map_head.new.out.items
    c.put_required.new.out.items c.put_user_if_there.new.out.items c.put_number_if_there.new.out.items
    c.member_count.ensures c.in_ok-push.ensures.items c.in_ok-append_map_head.ensures.ok c.in_ok-put_required.ensures c.in_ok-put_user_if_there.ensures
    c.in_ok-put_number_if_there.ensures
