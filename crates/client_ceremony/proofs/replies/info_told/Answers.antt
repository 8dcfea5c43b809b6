-- What is owed of `info_told`.
use Rattle.client_ceremony.proofs.Exchanging.{told_of, unread_of, untold_next}
use Rattle.client_ceremony.specs.Ceremonies.{GetsInfo}
use Rattle.client_ceremony.specs.Facts.{facts}
use Rattle.client_ceremony.specs.Pieces.{no_memory, so}
use Rattle.ctap_open_replies.specs.Replies.{TellsInfo}
use Rattle.ctap_open_replies.specs.ReplyView.{info_view}
use Rattle.std.proofs.Common.{refl}
use Rattle.client_ceremony.proofs.replies.info_told.Goals as goal

pub returns-in-Err-clause-halts : goal.returns-in-Err-clause-halts
returns-in-Err-clause-halts c =
    no_memory refl

pub returns-in-Err-reply_to-clause-halts : goal.returns-in-Err-reply_to-clause-halts
returns-in-Err-reply_to-clause-halts c =
    so (untold_next (facts c.args.known.now) 0 GetsInfo c.in-Ok.message c.in-Ok.ensures TellsInfo c.in-Err-reply_to.halt c.in-Err-reply_to.ensures.sends)

pub returns-in-Ok-info_reply-clause-told : goal.returns-in-Ok-info_reply-clause-told
returns-in-Ok-info_reply-clause-told c =
    told_of (facts c.args.known.now) 0 GetsInfo c.in-Ok.message c.in-Ok.ensures TellsInfo (info_view c.in-Ok-info_reply.info) c.in-Ok-reply_to.reply.now c.in-Ok-reply_to.ensures.replied c.in-Ok-info_reply.ensures.told

pub returns-in-Err-info_reply-clause-halts : goal.returns-in-Err-info_reply-clause-halts
returns-in-Err-info_reply-clause-halts c =
    so (unread_of (facts c.args.known.now) 0 GetsInfo c.in-Ok.message c.in-Ok.ensures TellsInfo c.in-Ok-reply_to.reply.now c.in-Err-info_reply.refusal c.in-Ok-reply_to.ensures.replied c.in-Err-info_reply.ensures.unread)
