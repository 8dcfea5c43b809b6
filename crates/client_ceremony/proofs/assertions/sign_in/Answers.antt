-- What is owed of `sign_in`.
use Rattle.client_ceremony.proofs.Exchanging.{exactly, signs_more}
use Rattle.client_ceremony.proofs.Stages.{ends, first_halts, or_more, then_halts}
use Rattle.client_ceremony.specs.Commands.{AssertionBytes, Signs, alone, assertion_of}
use Rattle.client_ceremony.specs.Facts.{facts}
use Rattle.client_ceremony.specs.Pieces.{OrMemory, verified_view}
use Rattle.ctap_open_replies.specs.ReplyView.{info_view}
use Rattle.std.proofs.Common.{Bor, List, Option, inl, inr, map, subst, ℕ, ◌≡◌}
use Rattle.client_ceremony.proofs.assertions.sign_in.Goals as goal

pub returns-in-Err : goal.returns-in-Err
returns-in-Err c =
    first_halts c.in-Err.ensures.halts

pub returns-in-Ok-assertion_command : goal.returns-in-Ok-assertion_command
returns-in-Ok-assertion_command c =
    then_halts (verified_view c.in-Ok.verified) c.in-Ok.ensures.verified (or_more (λ h. inr (signs_more (facts c.args.known.now) c.in-Ok.verified.place (λ (m : List ℕ). m ≡ c.in-Ok-assertion_command.command.items) (AssertionBytes (info_view c.args.info.now) (assertion_of c.args.asserting.now (verified_view c.in-Ok.verified))) (exactly (AssertionBytes (info_view c.args.info.now) (assertion_of c.args.asserting.now (verified_view c.in-Ok.verified))) c.in-Ok-assertion_command.command.items c.in-Ok-assertion_command.ensures.written) (alone (map (λ (b : Bor (List ℕ)). b.now) c.args.asserting.now.allow.now)) c.signed.result h))
    (subst (λ (l : Option (List ℕ)). OrMemory (Signs (facts c.args.known.now) c.in-Ok.verified.place (λ (m : List ℕ). m ≡ c.in-Ok-assertion_command.command.items) l) c.signed.result) c.alone.ensures c.signed.ensures))

pub returns-in-Err-assertion_command : goal.returns-in-Err-assertion_command
returns-in-Err-assertion_command c =
    then_halts (verified_view c.in-Ok.verified) c.in-Ok.ensures.verified (or_more (λ h. inl h) (ends c.in-Err-assertion_command.ensures.none))
