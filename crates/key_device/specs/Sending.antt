-- An answer to the request that the device works on (CTAP 2.1, section 11.2).
use Rattle.std.specs.Prelude.{◌≡◌, ◌<◌, ◌⊎◌, ℕ, List, [], ◌∷◌, ◌++◌, length}
use Rattle.hidframe.specs.declared.Packet.{Packet}
use Rattle.hidframe.specs.declared.ctaphid.TheConstants.{CTAPHID_CBOR, MAX_PAYLOAD_SIZE}
use Rattle.hidlink.specs.History.{DeviceCall, Answered, Leaves}
use Rattle.hidlink.specs.Ranks.{DeviceState, Idle, on_working, packets_of}

-- the device has answered with this message, whose packets stand after those that were there, and is idle
pub record IsSent (old : DeviceState) (before : List Packet) (message : List ℕ) (new : DeviceState) (after : List Packet) : Type 0 where
  pub packets : after ≡ before ++ packets_of (on_working old.state CTAPHID_CBOR message)
  pub idle : new.state ≡ Idle
  pub history : (h : List DeviceCall) → Leaves h old.channels old.state → Leaves (h ++ Answered message ∷ []) new.channels new.state

-- by the reply, or by status 0x7F alone, only where the reply is longer than a message
abbrev pub IsAnswered : DeviceState → List Packet → List ℕ → DeviceState → List Packet → Type 0
IsAnswered old before reply new after = IsSent old before reply new after ⊎ ((MAX_PAYLOAD_SIZE < length reply) × IsSent old before (0x7F ∷ []) new after)
