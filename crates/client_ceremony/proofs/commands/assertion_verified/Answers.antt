-- What is owed of `assertion_verified`.
use Rattle.client_ceremony.specs.Commands.{assertion_scope}
use Rattle.client_ceremony.specs.Facts.{facts}
use Rattle.client_ceremony.specs.Pieces.{OrMemory, verified_view}
use Rattle.client_ceremony.specs.Tokens.{Unverified, Verifies}
use Rattle.client_ceremony.specs.declared.way.Way.{Way}
use Rattle.ctap_open_replies.specs.ReplyView.{info_view}
use Rattle.std.proofs.Common.{subst}
use Rattle.client_ceremony.proofs.commands.assertion_verified.Goals as goal

pub returns-in-Ok-clause-verified : goal.returns-in-Ok-clause-verified
returns-in-Ok-clause-verified c =
    subst (λ (w : Way). Verifies (facts c.args.known.now) (info_view c.args.info.now) w (assertion_scope c.args.asserting.now) c.args.asserting.now.client_data_hash.now (verified_view c.in-Ok.verified)) c.assertion_way-way.ensures c.in-Ok.ensures.verified

pub returns-in-Err-clause-halts : goal.returns-in-Err-clause-halts
returns-in-Err-clause-halts c =
    subst (λ (w : Way). OrMemory (Unverified (facts c.args.known.now) (info_view c.args.info.now) w (assertion_scope c.args.asserting.now) c.args.asserting.now.client_data_hash.now) c.in-Err.halt) c.assertion_way-way.ensures c.in-Err.ensures.halts
