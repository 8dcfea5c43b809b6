-- What is owed of `first_told`.
use Rattle.client_ceremony.proofs.Exchanging.{told_of, unread_of, untold_next}
use Rattle.client_ceremony.specs.Facts.{facts}
use Rattle.client_ceremony.specs.Pieces.{so}
use Rattle.ctap_open_replies.specs.Replies.{TellsAssertion}
use Rattle.ctap_open_replies.specs.ReplyView.{assertion_view}
use Rattle.std.proofs.Common.{Bor, List, refl, ℕ, ◌≡◌}
use Rattle.std.specs.Prelude.{option_map}
use Rattle.client_ceremony.proofs.assertions.first_told.Goals as goal

pub returns-in-Err-clause-halts : goal.returns-in-Err-clause-halts
returns-in-Err-clause-halts c =
    so (untold_next (facts c.args.known.now) c.args.place (λ (m : List ℕ). m ≡ c.args.command.items) c.args.command refl (TellsAssertion (option_map (λ (b : Bor (List ℕ)). b.now) c.args.listed)) c.in-Err.halt c.in-Err.ensures.sends)

pub returns-in-Ok-assertion_reply-clause-told : goal.returns-in-Ok-assertion_reply-clause-told
returns-in-Ok-assertion_reply-clause-told c =
    told_of (facts c.args.known.now) c.args.place (λ (m : List ℕ). m ≡ c.args.command.items) c.args.command refl (TellsAssertion (option_map (λ (b : Bor (List ℕ)). b.now) c.args.listed)) (assertion_view c.in-Ok-assertion_reply.assertion) c.in-Ok.reply.now c.in-Ok.ensures.replied c.in-Ok-assertion_reply.ensures.told

pub returns-in-Err-assertion_reply-clause-halts : goal.returns-in-Err-assertion_reply-clause-halts
returns-in-Err-assertion_reply-clause-halts c =
    so (unread_of (facts c.args.known.now) c.args.place (λ (m : List ℕ). m ≡ c.args.command.items) c.args.command refl (TellsAssertion (option_map (λ (b : Bor (List ℕ)). b.now) c.args.listed)) c.in-Ok.reply.now c.in-Err-assertion_reply.refusal c.in-Ok.ensures.replied c.in-Err-assertion_reply.ensures.unread)
