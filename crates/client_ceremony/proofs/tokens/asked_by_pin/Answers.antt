-- What is owed of `asked_by_pin`.
use Rattle.client_ceremony.proofs.Exchanging.{exactly, has_token_more, unopened_more}
use Rattle.client_ceremony.proofs.Stages.{or_more}
use Rattle.client_ceremony.specs.Facts.{facts}
use Rattle.client_ceremony.specs.Pieces.{so}
use Rattle.client_ceremony.specs.Tokens.{ByPin}
use Rattle.pin_client_messages.specs.CommandView.{point_view}
use Rattle.pin_protocols.specs.FlowView.{scope_view}
use Rattle.std.proofs.Common.{List, inl, inr, ℕ, ◌≡◌}
use Rattle.std.specs.Prelude.{option_map}
use Rattle.client_ceremony.proofs.tokens.asked_by_pin.Goals as goal

pub returns-in-Err-clause-halts : goal.returns-in-Err-clause-halts
returns-in-Err-clause-halts c =
    so (inl (c.in-Err.stop, c.in-Err.ensures.none, c.stopped.ensures))

pub returns-in-Ok-opened-clause-token : goal.returns-in-Ok-opened-clause-token
returns-in-Ok-opened-clause-token c =
    has_token_more (facts c.args.known.now) 3 (λ (m : List ℕ). m ≡ c.in-Ok.request.items) (ByPin (facts c.args.known.now) c.args.protocol (point_view c.args.peer.now) c.args.pin.now (option_map scope_view c.args.scope)) (exactly (ByPin (facts c.args.known.now) c.args.protocol (point_view c.args.peer.now) c.args.pin.now (option_map scope_view c.args.scope)) c.in-Ok.request.items c.in-Ok.ensures.made) c.args.protocol (point_view c.args.peer.now) c.in-Ok-opened.token.now c.in-Ok-opened.ensures.token

pub returns-in-Err-opened-clause-halts : goal.returns-in-Err-opened-clause-halts
returns-in-Err-opened-clause-halts c =
    or_more (λ u. inr (unopened_more (facts c.args.known.now) 3 (λ (m : List ℕ). m ≡ c.in-Ok.request.items) (ByPin (facts c.args.known.now) c.args.protocol (point_view c.args.peer.now) c.args.pin.now (option_map scope_view c.args.scope)) (exactly (ByPin (facts c.args.known.now) c.args.protocol (point_view c.args.peer.now) c.args.pin.now (option_map scope_view c.args.scope)) c.in-Ok.request.items c.in-Ok.ensures.made) c.args.protocol (point_view c.args.peer.now) c.in-Err-opened.halt u)) c.in-Err-opened.ensures.halts
