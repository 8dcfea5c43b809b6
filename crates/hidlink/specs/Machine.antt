-- The plain program of the device: what a call does to the channels and the state. The crate's private
-- functions are proved against it; no public clause cites it. What it means is in History.antt.
use Rattle.std.specs.Prelude.{◌≡◌, ◌<◌, ◌≤◌, ◌*◌, ℕ, ◌+◌, ◌==◌, nat_lt, List, ◌++◌, length, take, if◌then◌else◌}
use Rattle.hidframe.specs.Packets.{Fields, Initial, Continuation, fields}
use Rattle.hidframe.specs.Frames.{continuation_count}
use Rattle.hidframe.specs.declared.ctaphid.TheConstants.{CONT_DATA_SIZE, CTAPHID_CBOR, INIT_DATA_SIZE, MAX_PAYLOAD_SIZE}
use Rattle.hidlink.specs.declared.arbitration.TheConstants.{MAX_CHANNELS}
use Rattle.hidlink.specs.Ranks.{TransactionState, Idle, Receiving, Working, IsWorking, Response, DeviceState, chosen, packets_of}
use Rattle.hidlink.specs.declared.arbitration.Arbitration.{Arbitration}
use Rattle.hidlink.specs.declared.arbitration.Arbitration.TheVariants.{Refused, NewChannel, ChannelAnew, Interrupted, Cancelled, Ignored, Begins}
use Rattle.hidlink.specs.declared.transaction.DeviceEvent.{DeviceEvent}
use Rattle.hidlink.specs.declared.transaction.Phase.{Phase}
use Rattle.hidlink.specs.declared.transaction.Phase.TheVariants as phase
use Rattle.hidlink.specs.History.{DeviceCall, Took, Answered, Kept, Expired}

-- the channels handed out and the state after a call
pub record Effect : Type 0 where
  pub channels : ℕ
  pub after : TransactionState

abbrev pub to : ℕ → TransactionState → Effect
to n s = record { channels = n; after = s }

abbrev pub came : ℕ → ℕ → ℕ → ℕ → ℕ → List ℕ → Effect
came n c cmd len next bytes =
    if nat_lt next (continuation_count len) then to n (Receiving c cmd len next bytes)
    else (if cmd == CTAPHID_CBOR then to n (Working c (take len bytes)) else to n Idle)

-- what a choice does
abbrev pub chosen_effect : ℕ → TransactionState → ℕ → ℕ → ℕ → List ℕ → Arbitration → Effect
chosen_effect n s c cmd len area (Refused code) = to n s
chosen_effect n s c cmd len area NewChannel = to (n + 1) s
chosen_effect n s c cmd len area ChannelAnew = to n Idle
chosen_effect n s c cmd len area Interrupted = to n Idle
chosen_effect n s c cmd len area Cancelled = to n s
chosen_effect n s c cmd len area Ignored = to n s
chosen_effect n s c cmd len area Begins = came n c cmd len 0 area

-- what a packet does that says this
abbrev pub packet_effect : ℕ → TransactionState → Fields → Effect
packet_effect n s (Initial c cmd len area) = chosen_effect n s c cmd len area (chosen n s c cmd len)
packet_effect n Idle (Continuation c seq area) = to n Idle
packet_effect n (Working cid payload) (Continuation c seq area) = to n (Working cid payload)
packet_effect n (Receiving cid cmd len next bytes) (Continuation c seq area) =
    if cid == c then (if seq == next then came n cid cmd len (next + 1) (bytes ++ area) else to n Idle)
    else to n (Receiving cid cmd len next bytes)

-- what a call does
abbrev pub effect : ℕ → TransactionState → DeviceCall → Effect
effect n s (Took p) = packet_effect n s (fields p)
effect n Idle (Answered m) = to n Idle
effect n (Receiving cid cmd len next bytes) (Answered m) = to n (Receiving cid cmd len next bytes)
effect n (Working cid payload) (Answered m) = if nat_lt MAX_PAYLOAD_SIZE (length m) then to n (Working cid payload) else to n Idle
effect n s (Kept status) = to n s
effect n Idle Expired = to n Idle
effect n (Working cid payload) Expired = to n (Working cid payload)
effect n (Receiving cid cmd len next bytes) Expired = to n Idle

-- what a choice may rest on
abbrev pub MayChoose : ℕ → TransactionState → ℕ → ℕ → Arbitration → Type 0
MayChoose n s cmd len (Refused code) = Unit {0}
MayChoose n s cmd len NewChannel = n < MAX_CHANNELS
MayChoose n s cmd len ChannelAnew = Unit {0}
MayChoose n s cmd len Interrupted = Unit {0}
MayChoose n s cmd len Cancelled = IsWorking s
MayChoose n s cmd len Ignored = Unit {0}
MayChoose n s cmd len Begins = (len ≤ MAX_PAYLOAD_SIZE) × (s ≡ Idle)

-- what it shows in this phase with these bytes
abbrev pub state_view : Phase → List ℕ → TransactionState
state_view phase.Idle bytes = Idle
state_view (phase.Receiving cid cmd len next) bytes = Receiving cid cmd len next bytes
state_view (phase.Working cid) bytes = Working cid bytes

abbrev pub PhaseFits : Phase → List ℕ → Type 0
PhaseFits phase.Idle bytes = Unit {0}
PhaseFits (phase.Receiving cid cmd len next) bytes = (length bytes ≡ INIT_DATA_SIZE + CONT_DATA_SIZE * next) × (next < continuation_count len)
    × (len ≤ MAX_PAYLOAD_SIZE)
PhaseFits (phase.Working cid) bytes = length bytes ≤ MAX_PAYLOAD_SIZE

-- what a packet made of a device, and what the call told
abbrev pub Does : DeviceState → DeviceEvent → Effect → Response → Type 0
Does new step effect response =
    (new ≡ record { channels = effect.channels; state = effect.after; left = packets_of response.sent }) × (step ≡ response.step)
