-- What is owed of `begun`.
use Rattle.std.proofs.Common.{◌≡◌, inl, inr}
use Rattle.pin_client_messages.specs.CommandView.{point_view}
use Rattle.pin_protocols.specs.Asks.{entries}
use Rattle.pin_protocols.specs.Flows.{IsSessionAsk}
use Rattle.pin_protocols.specs.Protocols.{IsDerivation, agreement_ask}
use Rattle.pin_protocols.proofs.Stopping.{stops_more}
use Rattle.pin_protocols.proofs.session.begun.Goals as goal

pub returns-in-Err-clause-stops : goal.returns-in-Err-clause-stops
returns-in-Err-clause-stops c =
    stops_more (entries c.args.answers.now) (λ a. a ≡ agreement_ask (point_view c.args.peer.now)) (IsSessionAsk (entries c.args.answers.now) c.args.protocol (point_view c.args.peer.now)) (λ a h. inl h) c.in-Err.e c.in-Err.ensures.stops

pub returns-in-Ok-shared_secret-clause-agreed : goal.returns-in-Ok-shared_secret-clause-agreed
returns-in-Ok-shared_secret-clause-agreed c = (c.in-Ok.agreement.z.now, c.in-Ok.ensures.agreed, c.in-Ok-shared_secret.ensures.secret)

pub returns-in-Err-shared_secret-clause-stops : goal.returns-in-Err-shared_secret-clause-stops
returns-in-Err-shared_secret-clause-stops c =
    stops_more (entries c.args.answers.now) (IsDerivation (entries c.args.answers.now) c.args.protocol c.in-Ok.agreement.z.now) (IsSessionAsk (entries c.args.answers.now) c.args.protocol (point_view c.args.peer.now))
    (λ a h. inr (point_view c.in-Ok.agreement.own, c.in-Ok.agreement.z.now, c.in-Ok.ensures.agreed, h)) c.in-Err-shared_secret.e c.in-Err-shared_secret.ensures.stops
