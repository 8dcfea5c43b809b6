-- What is owed of `change_pin_request`.
use Rattle.std.proofs.Common.{◌≡◌, ℕ, Vec, Global, inl, inr, Some, ◌++◌, refl}
use Rattle.pin_client_messages.specs.CommandView.{point_view}
use Rattle.pin_client_messages.specs.Commands.{change_pin}
use Rattle.pin_protocols.specs.Asks.{entries}
use Rattle.pin_protocols.specs.Flows.{IsChangePin, IsChangePinAsk, IsSessionAsk}
use Rattle.pin_protocols.specs.FlowView.{secret_view}
use Rattle.pin_protocols.specs.Pins.{padded, pin_fault, pin_hash}
use Rattle.pin_protocols.specs.Protocols.{authentication, encryption}
use Rattle.pin_protocols.proofs.Stopping.{none_made, sent_made, sent_none}
use Rattle.pin_protocols.proofs.requests.change_pin_request.Goals as goal

pub returns-in-Err-clause-none : goal.returns-in-Err-clause-none
returns-in-Err-clause-none c =
    none_made (entries c.args.answers.now) (IsSessionAsk (entries c.args.answers.now) c.args.protocol (point_view c.args.peer.now)) (IsChangePinAsk (entries c.args.answers.now) c.args.protocol (point_view c.args.peer.now) c.args.pin.now c.args.new_pin.now) (λ a h. inl h) c.args.protocol (λ f. pin_fault c.args.min c.args.new_pin.now ≡ Some f) (IsChangePin (entries c.args.answers.now) c.args.protocol (point_view c.args.peer.now) c.args.pin.now c.args.new_pin.now) c.in-Err.e c.in-Err.ensures.stops

pub returns-in-Err-sealed_pin-clause-none : goal.returns-in-Err-sealed_pin-clause-none
returns-in-Err-sealed_pin-clause-none c =
    none_made (entries c.args.answers.now) (λ a. a ≡ encryption c.args.protocol c.in-Ok.session.secret.aes.items (padded c.args.new_pin.now)) (IsChangePinAsk (entries c.args.answers.now) c.args.protocol (point_view c.args.peer.now) c.args.pin.now c.args.new_pin.now) (λ a h. inr ((point_view c.in-Ok.session.own), (secret_view c.in-Ok.session.secret), c.in-Ok.ensures.agreed, inl h)) c.args.protocol (λ f. pin_fault c.args.min c.args.new_pin.now ≡ Some f) (IsChangePin (entries c.args.answers.now) c.args.protocol (point_view c.args.peer.now) c.args.pin.now c.args.new_pin.now) c.in-Err-sealed_pin.e c.in-Err-sealed_pin.ensures.stops

pub returns-in-Err-sealed_hash-clause-none : goal.returns-in-Err-sealed_hash-clause-none
returns-in-Err-sealed_hash-clause-none c =
    none_made (entries c.args.answers.now) (λ a. a ≡ encryption c.args.protocol c.in-Ok.session.secret.aes.items (pin_hash c.args.pin.now)) (IsChangePinAsk (entries c.args.answers.now) c.args.protocol (point_view c.args.peer.now) c.args.pin.now c.args.new_pin.now) (λ a h. inr ((point_view c.in-Ok.session.own), (secret_view c.in-Ok.session.secret), c.in-Ok.ensures.agreed, inr (inl h))) c.args.protocol (λ f. pin_fault c.args.min c.args.new_pin.now ≡ Some f) (IsChangePin (entries c.args.answers.now) c.args.protocol (point_view c.args.peer.now) c.args.pin.now c.args.new_pin.now) c.in-Err-sealed_hash.e c.in-Err-sealed_hash.ensures.stops

pub returns-in-Err-tagged_both-clause-none : goal.returns-in-Err-tagged_both-clause-none
returns-in-Err-tagged_both-clause-none c =
    none_made (entries c.args.answers.now) (λ a. a ≡ authentication c.in-Ok.session.secret.hmac.items (c.in-Ok-sealed_pin.sealed.now ++ c.in-Ok-sealed_hash.sealed.now)) (IsChangePinAsk (entries c.args.answers.now) c.args.protocol (point_view c.args.peer.now) c.args.pin.now c.args.new_pin.now) (λ a h. inr ((point_view c.in-Ok.session.own), (secret_view c.in-Ok.session.secret), c.in-Ok.ensures.agreed, inr (inr (c.in-Ok-sealed_pin.sealed.now, c.in-Ok-sealed_hash.sealed.now, c.in-Ok-sealed_pin.ensures.sealed, c.in-Ok-sealed_hash.ensures.sealed, h)))) c.args.protocol (λ f. pin_fault c.args.min c.args.new_pin.now ≡ Some f) (IsChangePin (entries c.args.answers.now) c.args.protocol (point_view c.args.peer.now) c.args.pin.now c.args.new_pin.now) c.in-Err-tagged_both.e c.in-Err-tagged_both.ensures.stops

pub returns-clause-made : goal.returns-clause-made
returns-clause-made c = sent_made {V = Vec ℕ Global} (λ v. v.items) (entries c.args.answers.now) c.args.protocol (IsChangePinAsk (entries c.args.answers.now) c.args.protocol (point_view c.args.peer.now) c.args.pin.now c.args.new_pin.now) (λ f. pin_fault c.args.min c.args.new_pin.now ≡ Some f) (IsChangePin (entries c.args.answers.now) c.args.protocol (point_view c.args.peer.now) c.args.pin.now c.args.new_pin.now) (change_pin (point_view c.in-Ok.session.own) c.in-Ok-tagged_both.param.now c.in-Ok-sealed_pin.sealed.now c.in-Ok-sealed_hash.sealed.now) ((point_view c.in-Ok.session.own), (secret_view c.in-Ok.session.secret), c.in-Ok-sealed_pin.sealed.now, c.in-Ok-sealed_hash.sealed.now, c.in-Ok-tagged_both.param.now, c.in-Ok.ensures.agreed, c.in-Ok-sealed_pin.ensures.sealed, c.in-Ok-sealed_hash.ensures.sealed, c.in-Ok-tagged_both.ensures.tagged, refl) c.sent.result c.sent.ensures.sent

pub returns-clause-none : goal.returns-clause-none
returns-clause-none c = sent_none {V = Vec ℕ Global} (λ v. v.items) (entries c.args.answers.now) c.args.protocol (IsChangePinAsk (entries c.args.answers.now) c.args.protocol (point_view c.args.peer.now) c.args.pin.now c.args.new_pin.now) (λ f. pin_fault c.args.min c.args.new_pin.now ≡ Some f) (IsChangePin (entries c.args.answers.now) c.args.protocol (point_view c.args.peer.now) c.args.pin.now c.args.new_pin.now) (change_pin (point_view c.in-Ok.session.own) c.in-Ok-tagged_both.param.now c.in-Ok-sealed_pin.sealed.now c.in-Ok-sealed_hash.sealed.now) ((point_view c.in-Ok.session.own), (secret_view c.in-Ok.session.secret), c.in-Ok-sealed_pin.sealed.now, c.in-Ok-sealed_hash.sealed.now, c.in-Ok-tagged_both.param.now, c.in-Ok.ensures.agreed, c.in-Ok-sealed_pin.ensures.sealed, c.in-Ok-sealed_hash.ensures.sealed, c.in-Ok-tagged_both.ensures.tagged, refl) c.sent.result c.sent.ensures.unfit c.sent.ensures.errors
