-- What is owed of `registration`.
use Rattle.client_ceremony.proofs.Exchanging.{exactly, makes_more}
use Rattle.client_ceremony.proofs.Stages.{ends, first_halts, or_more, then_halts}
use Rattle.client_ceremony.specs.Commands.{CreationBytes, creation_of}
use Rattle.client_ceremony.specs.Facts.{facts}
use Rattle.client_ceremony.specs.Pieces.{verified_view}
use Rattle.ctap_open_replies.specs.ReplyView.{info_view}
use Rattle.std.proofs.Common.{List, inl, inr, ℕ, ◌≡◌}
use Rattle.client_ceremony.proofs.commands.registration.Goals as goal

pub returns-in-Err : goal.returns-in-Err
returns-in-Err c =
    first_halts c.in-Err.ensures.halts

pub returns-in-Ok-creation_command : goal.returns-in-Ok-creation_command
returns-in-Ok-creation_command c =
    then_halts (verified_view c.in-Ok.verified) c.in-Ok.ensures.verified (or_more (λ h. inr (makes_more (facts c.args.known.now) c.in-Ok.verified.place (λ (m : List ℕ). m ≡ c.in-Ok-creation_command.command.items) (CreationBytes (info_view c.args.info.now) (creation_of (info_view c.args.info.now) c.args.creating.now (verified_view c.in-Ok.verified))) (exactly (CreationBytes (info_view c.args.info.now) (creation_of (info_view c.args.info.now) c.args.creating.now (verified_view c.in-Ok.verified))) c.in-Ok-creation_command.command.items c.in-Ok-creation_command.ensures.written) c.made.result h)) c.made.ensures)

pub returns-in-Err-creation_command : goal.returns-in-Err-creation_command
returns-in-Err-creation_command c =
    then_halts (verified_view c.in-Ok.verified) c.in-Ok.ensures.verified (or_more (λ h. inl h) (ends c.in-Err-creation_command.ensures.none))
