-- What is owed of `pin_told`.
use Rattle.client_ceremony.proofs.Exchanging.{told_of, unread_of, untold_next}
use Rattle.client_ceremony.proofs.Stages.{ends, or_more}
use Rattle.client_ceremony.specs.Facts.{facts}
use Rattle.client_ceremony.specs.Pieces.{so}
use Rattle.client_ceremony.specs.Tokens.{Asking}
use Rattle.pin_client_messages.specs.CommandView.{command_view}
use Rattle.pin_client_messages.specs.Replies.{TellsPin}
use Rattle.pin_client_messages.specs.ReplyView.{reply_view}
use Rattle.std.proofs.Common.{inl, inr}
use Rattle.client_ceremony.proofs.replies.pin_told.Goals as goal

pub returns-in-Err-clause-halts : goal.returns-in-Err-clause-halts
returns-in-Err-clause-halts c =
    or_more (λ e. inl e) (ends c.in-Err.ensures.none)

pub returns-in-Err-reply_to-clause-halts : goal.returns-in-Err-reply_to-clause-halts
returns-in-Err-reply_to-clause-halts c =
    so (inr (untold_next (facts c.args.known.now) c.args.place (Asking c.args.protocol (command_view c.args.command.now)) c.in-Ok.message c.in-Ok.ensures.written TellsPin c.in-Err-reply_to.halt c.in-Err-reply_to.ensures.sends))

pub returns-in-Ok-pin_reply-clause-told : goal.returns-in-Ok-pin_reply-clause-told
returns-in-Ok-pin_reply-clause-told c =
    told_of (facts c.args.known.now) c.args.place (Asking c.args.protocol (command_view c.args.command.now)) c.in-Ok.message c.in-Ok.ensures.written TellsPin (reply_view c.in-Ok-pin_reply.told) c.in-Ok-reply_to.reply.now c.in-Ok-reply_to.ensures.replied c.in-Ok-pin_reply.ensures.told

pub returns-in-Err-pin_reply-clause-halts : goal.returns-in-Err-pin_reply-clause-halts
returns-in-Err-pin_reply-clause-halts c =
    so (inr (unread_of (facts c.args.known.now) c.args.place (Asking c.args.protocol (command_view c.args.command.now)) c.in-Ok.message c.in-Ok.ensures.written TellsPin c.in-Ok-reply_to.reply.now c.in-Err-pin_reply.refusal c.in-Ok-reply_to.ensures.replied c.in-Err-pin_reply.ensures.unread))
