-- What is owed of `seal_sign_in`.
use Rattle.std.proofs.Common.{arith, rules}
use Rattle.verification.specs.Views.{sign_in_view}
use Rattle.site_seal.proofs.Texts.{sealed_within}
use Rattle.site_seal.proofs.sealing.seal_sign_in.Goals as goal

pub returns-clause-session : goal.returns-clause-session
returns-clause-session c = (omega arith, sealed_within c.args.key.now (sign_in_view c.args.session.now) (c.if-not-is_sign_in.ensures.0 (search rules)) c.in_ok-text.ensures.challenge)
