-- What is owed of `token_told`.
use Rattle.client_ceremony.proofs.Exchanging.{told_of, unread_of, untold_next}
use Rattle.client_ceremony.specs.Facts.{facts}
use Rattle.client_ceremony.specs.Pieces.{so}
use Rattle.pin_client_messages.specs.Replies.{TellsPin}
use Rattle.pin_client_messages.specs.ReplyView.{reply_view}
use Rattle.std.proofs.Common.{List, refl, ℕ, ◌≡◌}
use Rattle.client_ceremony.proofs.tokens.token_told.Goals as goal

pub returns-in-Err-clause-halts : goal.returns-in-Err-clause-halts
returns-in-Err-clause-halts c =
    so (untold_next (facts c.args.known.now) c.args.place (λ (m : List ℕ). m ≡ c.args.request.items) c.args.request refl TellsPin c.in-Err.halt c.in-Err.ensures.sends)

pub returns-in-Ok-pin_reply-clause-told : goal.returns-in-Ok-pin_reply-clause-told
returns-in-Ok-pin_reply-clause-told c =
    told_of (facts c.args.known.now) c.args.place (λ (m : List ℕ). m ≡ c.args.request.items) c.args.request refl TellsPin (reply_view c.in-Ok-pin_reply.told) c.in-Ok.reply.now c.in-Ok.ensures.replied c.in-Ok-pin_reply.ensures.told

pub returns-in-Err-pin_reply-clause-halts : goal.returns-in-Err-pin_reply-clause-halts
returns-in-Err-pin_reply-clause-halts c =
    so (unread_of (facts c.args.known.now) c.args.place (λ (m : List ℕ). m ≡ c.args.request.items) c.args.request refl TellsPin c.in-Ok.reply.now c.in-Err-pin_reply.refusal c.in-Ok.ensures.replied c.in-Err-pin_reply.ensures.unread)
