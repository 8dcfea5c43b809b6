-- A history with one call more.
use Rattle.std.proofs.Common.{◌≡◌, ℕ, List, [], ◌∷◌, ◌++◌, subst}
use Rattle.hidframe.specs.declared.Packet.{Packet}
use Rattle.hidframe.specs.Packets.{Fields, fields}
use Rattle.hidlink.specs.declared.transaction.DeviceEvent.{DeviceEvent}
use Rattle.hidlink.specs.Ranks.{TransactionState, DeviceState, response}
use Rattle.hidlink.specs.History.{DeviceCall, Took, Leaves}
use Rattle.hidlink.specs.Machine.{Does, Effect, to, effect, packet_effect}
use Rattle.hidlink.proofs.Steps.{leaves-push}

-- a history with a call that does this
pub leaves_to : {h : List DeviceCall} {n k : ℕ} {s t : TransactionState} (call : DeviceCall) → Leaves h n s → effect n s call ≡ to k t
    → Leaves (h ++ call ∷ []) k t
leaves_to {h} {n} {k} {s} {t} call l e = subst (λ (x : Effect). Leaves (h ++ call ∷ []) x.channels x.after) e (leaves-push h n s call l)

-- a packet's history
pub took : (old new : DeviceState) (p : Packet) (f : Fields) (step : DeviceEvent) → fields p ≡ f
    → Does new step (packet_effect old.channels old.state f) (response old.channels old.state f)
    → (h : List DeviceCall) → Leaves h old.channels old.state → Leaves (h ++ Took p ∷ []) new.channels new.state
took old new p f step says d h l = rw (d.0, ← says) (leaves-push h old.channels old.state (Took p) l)
