-- What is owed of `set_pin_request`.
use Rattle.std.proofs.Common.{◌≡◌, ℕ, Vec, Global, inl, inr, Some, refl}
use Rattle.pin_client_messages.specs.CommandView.{point_view}
use Rattle.pin_client_messages.specs.Commands.{set_pin}
use Rattle.pin_protocols.specs.Asks.{entries}
use Rattle.pin_protocols.specs.Flows.{IsSessionAsk, IsSetPin, IsSetPinAsk}
use Rattle.pin_protocols.specs.FlowView.{secret_view}
use Rattle.pin_protocols.specs.Pins.{padded, pin_fault}
use Rattle.pin_protocols.specs.Protocols.{authentication, encryption}
use Rattle.pin_protocols.proofs.Stopping.{none_made, sent_made, sent_none}
use Rattle.pin_protocols.proofs.requests.set_pin_request.Goals as goal

pub returns-in-Err-clause-none : goal.returns-in-Err-clause-none
returns-in-Err-clause-none c =
    none_made (entries c.args.answers.now) (IsSessionAsk (entries c.args.answers.now) c.args.protocol (point_view c.args.peer.now)) (IsSetPinAsk (entries c.args.answers.now) c.args.protocol (point_view c.args.peer.now) c.args.new_pin.now) (λ a h. inl h) c.args.protocol (λ f. pin_fault c.args.min c.args.new_pin.now ≡ Some f) (IsSetPin (entries c.args.answers.now) c.args.protocol (point_view c.args.peer.now) c.args.new_pin.now) c.in-Err.e c.in-Err.ensures.stops

pub returns-in-Err-sealed_pin-clause-none : goal.returns-in-Err-sealed_pin-clause-none
returns-in-Err-sealed_pin-clause-none c =
    none_made (entries c.args.answers.now) (λ a. a ≡ encryption c.args.protocol c.in-Ok.session.secret.aes.items (padded c.args.new_pin.now)) (IsSetPinAsk (entries c.args.answers.now) c.args.protocol (point_view c.args.peer.now) c.args.new_pin.now) (λ a h. inr ((point_view c.in-Ok.session.own), (secret_view c.in-Ok.session.secret), c.in-Ok.ensures.agreed, inl h)) c.args.protocol (λ f. pin_fault c.args.min c.args.new_pin.now ≡ Some f) (IsSetPin (entries c.args.answers.now) c.args.protocol (point_view c.args.peer.now) c.args.new_pin.now) c.in-Err-sealed_pin.e c.in-Err-sealed_pin.ensures.stops

pub returns-in-Err-tagged-clause-none : goal.returns-in-Err-tagged-clause-none
returns-in-Err-tagged-clause-none c =
    none_made (entries c.args.answers.now) (λ a. a ≡ authentication c.in-Ok.session.secret.hmac.items c.in-Ok-sealed_pin.sealed.now) (IsSetPinAsk (entries c.args.answers.now) c.args.protocol (point_view c.args.peer.now) c.args.new_pin.now) (λ a h. inr ((point_view c.in-Ok.session.own), (secret_view c.in-Ok.session.secret), c.in-Ok.ensures.agreed, inr (c.in-Ok-sealed_pin.sealed.now, c.in-Ok-sealed_pin.ensures.sealed, h))) c.args.protocol (λ f. pin_fault c.args.min c.args.new_pin.now ≡ Some f) (IsSetPin (entries c.args.answers.now) c.args.protocol (point_view c.args.peer.now) c.args.new_pin.now) c.in-Err-tagged.e c.in-Err-tagged.ensures.stops

pub returns-clause-made : goal.returns-clause-made
returns-clause-made c = sent_made {V = Vec ℕ Global} (λ v. v.items) (entries c.args.answers.now) c.args.protocol (IsSetPinAsk (entries c.args.answers.now) c.args.protocol (point_view c.args.peer.now) c.args.new_pin.now) (λ f. pin_fault c.args.min c.args.new_pin.now ≡ Some f) (IsSetPin (entries c.args.answers.now) c.args.protocol (point_view c.args.peer.now) c.args.new_pin.now) (set_pin (point_view c.in-Ok.session.own) c.in-Ok-tagged.param.now c.in-Ok-sealed_pin.sealed.now) ((point_view c.in-Ok.session.own), (secret_view c.in-Ok.session.secret), c.in-Ok-sealed_pin.sealed.now, c.in-Ok-tagged.param.now, c.in-Ok.ensures.agreed, c.in-Ok-sealed_pin.ensures.sealed, c.in-Ok-tagged.ensures.tagged, refl) c.sent.result c.sent.ensures.sent

pub returns-clause-none : goal.returns-clause-none
returns-clause-none c = sent_none {V = Vec ℕ Global} (λ v. v.items) (entries c.args.answers.now) c.args.protocol (IsSetPinAsk (entries c.args.answers.now) c.args.protocol (point_view c.args.peer.now) c.args.new_pin.now) (λ f. pin_fault c.args.min c.args.new_pin.now ≡ Some f) (IsSetPin (entries c.args.answers.now) c.args.protocol (point_view c.args.peer.now) c.args.new_pin.now) (set_pin (point_view c.in-Ok.session.own) c.in-Ok-tagged.param.now c.in-Ok-sealed_pin.sealed.now) ((point_view c.in-Ok.session.own), (secret_view c.in-Ok.session.secret), c.in-Ok-sealed_pin.sealed.now, c.in-Ok-tagged.param.now, c.in-Ok.ensures.agreed, c.in-Ok-sealed_pin.ensures.sealed, c.in-Ok-tagged.ensures.tagged, refl) c.sent.result c.sent.ensures.unfit c.sent.ensures.errors
