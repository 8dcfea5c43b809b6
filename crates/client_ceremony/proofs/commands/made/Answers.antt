-- What is owed of `made`.
use Rattle.client_ceremony.proofs.Exchanging.{told_of, unread_of, untold_next}
use Rattle.client_ceremony.specs.Facts.{facts}
use Rattle.client_ceremony.specs.Pieces.{so}
use Rattle.ctap_open_replies.specs.Replies.{TellsCreation}
use Rattle.ctap_open_replies.specs.ReplyView.{creation_view}
use Rattle.std.proofs.Common.{List, inl, inr, refl, ℕ, ◌≡◌}
use Rattle.client_ceremony.proofs.commands.made.Goals as goal

pub returns-in-Err : goal.returns-in-Err
returns-in-Err c =
    so (inl (untold_next (facts c.args.known.now) c.args.place (λ (m : List ℕ). m ≡ c.args.command.items) c.args.command refl TellsCreation c.in-Err.halt c.in-Err.ensures.sends))

pub returns-in-Ok-creation_reply : goal.returns-in-Ok-creation_reply
returns-in-Ok-creation_reply c =
    so (inr (c.in-Ok-creation_reply.creation, told_of (facts c.args.known.now) c.args.place (λ (m : List ℕ). m ≡ c.args.command.items) c.args.command refl TellsCreation (creation_view c.in-Ok-creation_reply.creation) c.in-Ok.reply.now c.in-Ok.ensures.replied c.in-Ok-creation_reply.ensures.told, refl))

pub returns-in-Err-creation_reply : goal.returns-in-Err-creation_reply
returns-in-Err-creation_reply c =
    so (inl (unread_of (facts c.args.known.now) c.args.place (λ (m : List ℕ). m ≡ c.args.command.items) c.args.command refl TellsCreation c.in-Ok.reply.now c.in-Err-creation_reply.refusal c.in-Ok.ensures.replied c.in-Err-creation_reply.ensures.unread))
