-- What is owed of `pin_uv_auth_token`.
use Rattle.std.proofs.Common.{◌≡◌, true, length, inl, inr, rules}
use Rattle.pin_client_messages.specs.CommandView.{point_view}
use Rattle.pin_protocols.specs.Asks.{entries}
use Rattle.pin_protocols.specs.Flows.{IsSessionAsk}
use Rattle.pin_protocols.specs.FlowView.{secret_view}
use Rattle.pin_protocols.specs.Protocols.{decryption, is_token_size}
use Rattle.pin_protocols.proofs.Stopping.{no_token}
use Rattle.pin_protocols.proofs.token.pin_uv_auth_token.Goals as goal

pub returns-in-Err-clause-none : goal.returns-in-Err-clause-none
returns-in-Err-clause-none c =
    no_token (entries c.args.answers.now) (IsSessionAsk (entries c.args.answers.now) c.args.protocol (point_view c.args.peer.now)) (IsSessionAsk (entries c.args.answers.now) c.args.protocol (point_view c.args.peer.now)) (λ a h. h) c.args.protocol (point_view c.args.peer.now) c.args.told.now (λ a h. inl h) c.in-Err.e
    c.in-Err.ensures.stops

pub returns-in-Ok-opened-clause-token : goal.returns-in-Ok-opened-clause-token
returns-in-Ok-opened-clause-token c =
    let size : is_token_size c.args.protocol (length c.args.told.now) ≡ true = search rules in
    (size, (point_view c.in-Ok.session.own), (secret_view c.in-Ok.session.secret), c.in-Ok.ensures.agreed, c.in-Ok-opened.ensures.opened)

pub returns-clause-none : goal.returns-clause-none
returns-clause-none c =
    no_token (entries c.args.answers.now) (λ a. a ≡ decryption c.args.protocol c.in-Ok.session.secret.aes.items c.args.told.now) (λ a. a ≡ decryption c.args.protocol c.in-Ok.session.secret.aes.items c.args.told.now)
    (λ a h. h) c.args.protocol (point_view c.args.peer.now) c.args.told.now (λ a h. inr ((point_view c.in-Ok.session.own), (secret_view c.in-Ok.session.secret), c.in-Ok.ensures.agreed, h)) c.in-Err-opened.e c.in-Err-opened.ensures.stops
