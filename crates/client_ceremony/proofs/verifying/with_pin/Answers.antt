-- What is owed of `with_pin`.
use Rattle.client_ceremony.proofs.Stages.{then_halts}
use Rattle.client_ceremony.specs.Exchanges.{at_once}
use Rattle.client_ceremony.specs.Facts.{facts}
use Rattle.client_ceremony.specs.Pieces.{OrMemory, so, verified_view}
use Rattle.client_ceremony.specs.Tokens.{UnverifiedByPin, VerifiesByPin}
use Rattle.pin_protocols.specs.Flows.{Scope}
use Rattle.std.proofs.Common.{Option, refl, subst}
use Rattle.client_ceremony.proofs.verifying.with_pin.Goals as goal

pub returns-in-Err-clause-halts : goal.returns-in-Err-clause-halts
returns-in-Err-clause-halts c =
    so (at_once (c.in-Err.refusal, c.in-Err.ensures.none, refl))

pub returns-in-Ok-verified_by_pin-clause-verified : goal.returns-in-Ok-verified_by_pin-clause-verified
returns-in-Ok-verified_by_pin-clause-verified c =
    (c.in-Ok.protocol, c.in-Ok.ensures.told, subst (λ (s : Option Scope). VerifiesByPin (facts c.args.known.now) c.in-Ok.protocol s c.args.hash.now (verified_view c.in-Ok-verified_by_pin.verified)) c.pin_scope.ensures c.in-Ok-verified_by_pin.ensures.verified)

pub returns-in-Err-verified_by_pin-clause-halts : goal.returns-in-Err-verified_by_pin-clause-halts
returns-in-Err-verified_by_pin-clause-halts c =
    then_halts c.in-Ok.protocol c.in-Ok.ensures.told (subst (λ (s : Option Scope). OrMemory (UnverifiedByPin (facts c.args.known.now) c.in-Ok.protocol s c.args.hash.now) c.in-Err-verified_by_pin.halt) c.pin_scope.ensures c.in-Err-verified_by_pin.ensures.halts)
