-- What is owed of `token_request`.
use Rattle.std.proofs.Common.{◌≡◌, ℕ, Vec, Global, inl, inr}
use Rattle.std.specs.Prelude.{option_map}
use Rattle.pin_client_messages.specs.CommandView.{command_view, point_view}
use Rattle.pin_protocols.specs.Asks.{entries}
use Rattle.pin_protocols.specs.Flows.{IsSessionAsk, IsTokenAsk, IsTokenByPin}
use Rattle.pin_protocols.specs.FlowView.{scope_view}
use Rattle.pin_protocols.specs.FlowView.{secret_view}
use Rattle.pin_protocols.specs.Pins.{pin_hash}
use Rattle.pin_protocols.specs.Protocols.{encryption}
use Rattle.pin_protocols.proofs.Stopping.{none_made, sent_made, sent_none}
use Rattle.pin_protocols.proofs.requests.token_request.Goals as goal

pub returns-in-Err-clause-none : goal.returns-in-Err-clause-none
returns-in-Err-clause-none c =
    none_made (entries c.args.answers.now) (IsSessionAsk (entries c.args.answers.now) c.args.protocol (point_view c.args.peer.now)) (IsTokenAsk (entries c.args.answers.now) c.args.protocol (point_view c.args.peer.now) c.args.pin.now) (λ a h. inl h) c.args.protocol (λ f. ⊥) (IsTokenByPin (entries c.args.answers.now) c.args.protocol (point_view c.args.peer.now) c.args.pin.now (option_map scope_view c.args.scope)) c.in-Err.e c.in-Err.ensures.stops

pub returns-in-Err-sealed_hash-clause-none : goal.returns-in-Err-sealed_hash-clause-none
returns-in-Err-sealed_hash-clause-none c =
    none_made (entries c.args.answers.now) (λ a. a ≡ encryption c.args.protocol c.in-Ok.session.secret.aes.items (pin_hash c.args.pin.now)) (IsTokenAsk (entries c.args.answers.now) c.args.protocol (point_view c.args.peer.now) c.args.pin.now) (λ a h. inr ((point_view c.in-Ok.session.own), (secret_view c.in-Ok.session.secret), c.in-Ok.ensures.agreed, h)) c.args.protocol (λ f. ⊥) (IsTokenByPin (entries c.args.answers.now) c.args.protocol (point_view c.args.peer.now) c.args.pin.now (option_map scope_view c.args.scope)) c.in-Err-sealed_hash.e c.in-Err-sealed_hash.ensures.stops

pub returns-clause-made : goal.returns-clause-made
returns-clause-made c = sent_made {V = Vec ℕ Global} (λ v. v.items) (entries c.args.answers.now) c.args.protocol (IsTokenAsk (entries c.args.answers.now) c.args.protocol (point_view c.args.peer.now) c.args.pin.now) (λ f. ⊥) (IsTokenByPin (entries c.args.answers.now) c.args.protocol (point_view c.args.peer.now) c.args.pin.now (option_map scope_view c.args.scope)) (command_view c.by_pin-command.result) ((point_view c.in-Ok.session.own), (secret_view c.in-Ok.session.secret), c.in-Ok-sealed_hash.sealed.now, c.in-Ok.ensures.agreed, c.in-Ok-sealed_hash.ensures.sealed, c.by_pin-command.ensures) c.sent.result c.sent.ensures.sent

pub returns-clause-none : goal.returns-clause-none
returns-clause-none c = sent_none {V = Vec ℕ Global} (λ v. v.items) (entries c.args.answers.now) c.args.protocol (IsTokenAsk (entries c.args.answers.now) c.args.protocol (point_view c.args.peer.now) c.args.pin.now) (λ f. ⊥) (IsTokenByPin (entries c.args.answers.now) c.args.protocol (point_view c.args.peer.now) c.args.pin.now (option_map scope_view c.args.scope)) (command_view c.by_pin-command.result) ((point_view c.in-Ok.session.own), (secret_view c.in-Ok.session.secret), c.in-Ok-sealed_hash.sealed.now, c.in-Ok.ensures.agreed, c.in-Ok-sealed_hash.ensures.sealed, c.by_pin-command.ensures) c.sent.result c.sent.ensures.unfit c.sent.ensures.errors
