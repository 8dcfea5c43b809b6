-- What is owed of `uv_token_request`.
use Rattle.std.proofs.Common.{ℕ, Vec, Global, refl}
use Rattle.std.specs.Prelude.{option_map}
use Rattle.pin_client_messages.specs.CommandView.{point_view}
use Rattle.pin_client_messages.specs.Commands.{token_by_uv}
use Rattle.pin_protocols.specs.Asks.{entries}
use Rattle.pin_protocols.specs.Flows.{IsSessionAsk, IsTokenByUv}
use Rattle.pin_protocols.specs.FlowView.{scope_view}
use Rattle.pin_protocols.specs.FlowView.{secret_view}
use Rattle.pin_protocols.proofs.Stopping.{none_made, sent_made, sent_none}
use Rattle.pin_protocols.proofs.requests.uv_token_request.Goals as goal

pub returns-in-Err-clause-none : goal.returns-in-Err-clause-none
returns-in-Err-clause-none c =
    none_made (entries c.args.answers.now) (IsSessionAsk (entries c.args.answers.now) c.args.protocol (point_view c.args.peer.now)) (IsSessionAsk (entries c.args.answers.now) c.args.protocol (point_view c.args.peer.now)) (λ a h. h) c.args.protocol (λ f. ⊥) (IsTokenByUv (entries c.args.answers.now) c.args.protocol (point_view c.args.peer.now) (scope_view c.args.scope.now)) c.in-Err.e c.in-Err.ensures.stops

pub returns-clause-made : goal.returns-clause-made
returns-clause-made c = sent_made {V = Vec ℕ Global} (λ v. v.items) (entries c.args.answers.now) c.args.protocol (IsSessionAsk (entries c.args.answers.now) c.args.protocol (point_view c.args.peer.now)) (λ f. ⊥) (IsTokenByUv (entries c.args.answers.now) c.args.protocol (point_view c.args.peer.now) (scope_view c.args.scope.now)) (token_by_uv (point_view c.in-Ok.session.own) c.args.scope.now.permissions (option_map (λ b. b.now) c.args.scope.now.rp_id)) ((point_view c.in-Ok.session.own), (secret_view c.in-Ok.session.secret), c.in-Ok.ensures.agreed, refl) c.sent.result c.sent.ensures.sent

pub returns-clause-none : goal.returns-clause-none
returns-clause-none c = sent_none {V = Vec ℕ Global} (λ v. v.items) (entries c.args.answers.now) c.args.protocol (IsSessionAsk (entries c.args.answers.now) c.args.protocol (point_view c.args.peer.now)) (λ f. ⊥) (IsTokenByUv (entries c.args.answers.now) c.args.protocol (point_view c.args.peer.now) (scope_view c.args.scope.now)) (token_by_uv (point_view c.in-Ok.session.own) c.args.scope.now.permissions (option_map (λ b. b.now) c.args.scope.now.rp_id)) ((point_view c.in-Ok.session.own), (secret_view c.in-Ok.session.secret), c.in-Ok.ensures.agreed, refl) c.sent.result c.sent.ensures.unfit c.sent.ensures.errors
