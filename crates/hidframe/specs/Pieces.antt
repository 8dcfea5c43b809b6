-- The zero-filled frame list written out, packet by packet. What it means is in Frames.antt; that both
-- are one is the law `one_frame_list`.
use Rattle.std.specs.Prelude.{ℕ, ◌+◌, ◌-◌, ◌*◌, List, [], ◌∷◌, ◌++◌, length, map, replicate, take, drop}
use Rattle.std.specs.List.{range_with_len}
use Rattle.std.specs.Int.{w16, w32, to_be_bytes}
use Rattle.std.proofs.Common.{suc, zero}
use Rattle.hidframe.specs.declared.Packet.{Packet}
use Rattle.hidframe.specs.Frames.{continuation_count}

-- zeros up to n bytes
abbrev pub padded : ℕ → List ℕ → List ℕ
padded n bytes = bytes ++ replicate (n - length bytes) 0

-- the packet that begins a message, and the one of number k that goes on, with these bytes and zeros
abbrev pub initial : ℕ → ℕ → ℕ → List ℕ → Packet
initial c cmd len bytes = record { 0 = (to_be_bytes w32 c ++ (128 + cmd) ∷ to_be_bytes w16 len) ++ padded 57 bytes }

abbrev pub continuation : ℕ → ℕ → List ℕ → Packet
continuation c k bytes = record { 0 = (to_be_bytes w32 c ++ k ∷ []) ++ padded 59 bytes }

-- packet i of the message
unfoldable pub item : ℕ → ℕ → List ℕ → ℕ → Packet
item c cmd m zero = initial c cmd (length m) (take 57 m)
item c cmd m (suc k) = continuation c k (take 59 (drop (57 + 59 * k) m))

-- how many packets a message of n bytes has
abbrev pub packet_count : ℕ → ℕ
packet_count n = 1 + continuation_count n

-- the packets of the message from packet i on
unfoldable pub items_from : ℕ → ℕ → List ℕ → ℕ → List Packet
items_from c cmd m i = map (item c cmd m) (range_with_len i (packet_count (length m) - i))

-- the packets of the message
abbrev pub frame_list : ℕ → ℕ → List ℕ → List Packet
frame_list c cmd m = items_from c cmd m 0
