-- What is owed of `set_to`.
use Rattle.client_ceremony.proofs.Exchanging.{done_more, exactly}
use Rattle.client_ceremony.proofs.Stages.{or_more}
use Rattle.client_ceremony.specs.Ceremonies.{min_length}
use Rattle.client_ceremony.specs.Facts.{facts}
use Rattle.client_ceremony.specs.Pieces.{so}
use Rattle.ctap_open_replies.specs.ReplyView.{info_view}
use Rattle.pin_client_messages.specs.CommandView.{point_view}
use Rattle.pin_protocols.specs.Flows.{IsSetPin, IsSetPinAsk, NoRequest, Requests}
use Rattle.pin_protocols.specs.Pins.{pin_fault}
use Rattle.std.proofs.Common.{List, None, Some, inl, inr, subst, ℕ, ◌≡◌}
use Rattle.client_ceremony.proofs.pin_setting.set_to.Goals as goal

pub returns-in-Ok : goal.returns-in-Ok
returns-in-Ok c =
    let fit : pin_fault (min_length (info_view c.args.info.now)) c.args.new_pin.now ≡ None = subst (λ (n : ℕ). pin_fault n c.args.new_pin.now ≡ None) c.min_pin_length-min.ensures c.in-Ok.ensures.fit in
    or_more (λ d. inr (fit, done_more (facts c.args.known.now) 2 (λ (m : List ℕ). m ≡ c.in-Ok.request.items) (Requests c.args.protocol (IsSetPin (facts c.args.known.now).answers c.args.protocol (point_view c.args.peer.now) c.args.new_pin.now)) (exactly (Requests c.args.protocol (IsSetPin (facts c.args.known.now).answers c.args.protocol (point_view c.args.peer.now) c.args.new_pin.now)) c.in-Ok.request.items c.in-Ok.ensures.made) c.done.result d)) c.done.ensures

pub returns-in-Err : goal.returns-in-Err
returns-in-Err c =
    so (inl (c.in-Err.stop, subst (λ (n : ℕ). NoRequest (facts c.args.known.now).answers c.args.protocol (IsSetPinAsk (facts c.args.known.now).answers c.args.protocol (point_view c.args.peer.now) c.args.new_pin.now) (λ f. pin_fault n c.args.new_pin.now ≡ Some f) (IsSetPin (facts c.args.known.now).answers c.args.protocol (point_view c.args.peer.now) c.args.new_pin.now) c.in-Err.stop) c.min_pin_length-min.ensures c.in-Err.ensures.none, c.stopped.ensures))
