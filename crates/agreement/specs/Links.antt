-- What is used of the laws of packets, channels and devices.
use Rattle.std.specs.Prelude.{◌≡◌, ◌≢◌, ◌<◌, ◌≤◌, ◌^◌, ◌++◌, [], ◌∷◌, List, ℕ, length, map, slice_index, take}
use Rattle.hidframe.specs.declared.Packet.{Packet}
use Rattle.hidframe.specs.declared.ctaphid.TheConstants.{CTAPHID_CBOR, MAX_PAYLOAD_SIZE}
use Rattle.hidframe.specs.Frames.{TheZeroFrames, ZeroFrames}
use Rattle.hidframe.specs.Packets.{fields}
use Rattle.hidframe.specs.Pieces.{frame_list}
use Rattle.hidlink.specs.History.{Answered, DeviceCall, Kept, Leaves, Took}
use Rattle.hidlink.specs.Ranks.{Idle, TransactionState, Working, response}
use Rattle.hidlink.specs.Told.{IsOut, told_before}
use Rattle.hidlink.specs.Wire.{Carries}

pub record Links : Type 0 where
  pub frames : (c cmd : ℕ) (m : List ℕ) → c < 2 ^ 32 → cmd < 128 → length m ≤ MAX_PAYLOAD_SIZE → ((k : ℕ) → slice_index m k < 256)
      → TheZeroFrames c cmd m (frame_list c cmd m)
  pub comes : (h : List DeviceCall) (n c : ℕ) (m : List ℕ) (ps : List Packet) → Leaves h n Idle → IsOut n c → m ≢ []
      → ZeroFrames c CTAPHID_CBOR m ps → Leaves (h ++ map Took ps) n (Working c m)
  pub quiet : (h : List DeviceCall) (n c : ℕ) (m : List ℕ) (before : List Packet) (p : Packet) (after : List Packet)
      → Leaves h n Idle → IsOut n c → m ≢ [] → ZeroFrames c CTAPHID_CBOR m (before ++ p ∷ after)
      → (s : TransactionState) × Leaves (h ++ map Took before) n s × (response n s (fields p) ≡ told_before c after)
  pub kept : (h : List DeviceCall) (n c status : ℕ) (m : List ℕ) → Leaves h n (Working c m) → Leaves (h ++ Kept status ∷ []) n (Working c m)
  pub answered : (h : List DeviceCall) (n c : ℕ) (m reply : List ℕ) → Leaves h n (Working c m) → length reply ≤ MAX_PAYLOAD_SIZE
      → Leaves (h ++ Answered reply ∷ []) n Idle
  pub one_state : (h : List DeviceCall) (n k : ℕ) (s t : TransactionState) → Leaves h n s → Leaves h k t → (n ≡ k) × (s ≡ t)
  pub most : (h : List DeviceCall) (n : ℕ) (s : TransactionState) → Leaves h n s → n ≤ 65535
  pub carried : (c j k : ℕ) (ps : List Packet) (cmd other : ℕ) (m n : List ℕ) → j ≤ length ps → k ≤ length ps
      → Carries c (take j ps) cmd m → Carries c (take k ps) other n → (j ≡ k) × (cmd ≡ other) × (m ≡ n)
