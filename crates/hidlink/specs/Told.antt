-- What a device's answer to a packet tells of its work: CTAP 2.1 sections 11.2.5 and 11.2.9.1.5.
use Rattle.std.specs.Prelude.{◌≡◌, ◌≤◌, ℕ, List, [], ◌∷◌, Option, Some, None}
use Rattle.hidframe.specs.declared.Packet.{Packet}
use Rattle.hidframe.specs.Packets.{Fields, Initial, Continuation}
use Rattle.hidframe.specs.declared.ctaphid.TheConstants.{CTAPHID_CANCEL}
use Rattle.hidlink.specs.declared.transaction.DeviceEvent.{DeviceEvent}
use Rattle.hidlink.specs.declared.transaction.DeviceEvent.TheVariants.{Quiet, Request, Cancelled, Aborted}
use Rattle.hidlink.specs.Ranks.{TransactionState, Idle, Receiving, Working, IsWorking, Response, tells}

-- the request that it works on: its channel and its payload
abbrev pub work : TransactionState → Option (ℕ × List ℕ)
work Idle = None
work (Receiving cid cmd len next bytes) = None
work (Working cid payload) = Some (cid, payload)

-- a CANCEL on the channel of the request that it works on
abbrev pub IsCancel : TransactionState → Fields → Type 0
IsCancel Idle f = ⊥
IsCancel (Receiving cid cmd len next bytes) f = ⊥
IsCancel (Working cid payload) (Initial c cmd len area) = (c ≡ cid) × (cmd ≡ CTAPHID_CANCEL)
IsCancel (Working cid payload) (Continuation c seq area) = ⊥

-- A packet that says f took a device from s to t, and the step tells of it: it works on a request on c,
-- and on none before; it works on none, and on one before; it is to give up the one that it works on;
-- or none of these, and the work is as it was.
abbrev pub TellsEvent : TransactionState → Fields → TransactionState → DeviceEvent → Type 0
TellsEvent s f t (Request c) = (work s ≡ None) × ((payload : List ℕ) × (work t ≡ Some (c, payload)))
TellsEvent s f t Aborted = IsWorking s × (work t ≡ None)
TellsEvent s f t Cancelled = IsCancel s f × (work t ≡ work s)
TellsEvent s f t Quiet = (IsCancel s f → ⊥) × (work t ≡ work s)

-- channel c is one of the n that are out
abbrev pub IsOut : ℕ → ℕ → Type 0
IsOut n c = (1 ≤ c) × (c ≤ n)

-- what comes of a packet of a request on c, before these others of it: nothing, or of the last the request
abbrev pub told_before : ℕ → List Packet → Response
told_before c [] = tells (Request c)
told_before c (p ∷ ps) = tells Quiet
