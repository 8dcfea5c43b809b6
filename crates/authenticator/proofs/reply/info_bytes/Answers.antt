-- What is owed of `info_bytes`.
use Rattle.std.proofs.Common.{rules}
use Rattle.ctap_replies.specs.ReplyView.{info_view}
use Rattle.authenticator.proofs.Replies.{info_message}
use Rattle.authenticator.proofs.reply.info_bytes.Goals as goal

pub written-requires : goal.written-requires
written-requires c = info_message (info_view c.in_ok-info.info) c.args.aaguid.now c.args.uv c.in_ok-info.ensures (search rules)
