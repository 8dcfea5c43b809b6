-- What a packet says: CTAP 2.1 section 11.2.4.
use Rattle.std.specs.Prelude.{◌≡◌, ℕ, ◌-◌, ◌<◌, List, [], ◌∷◌, length, slice_index, slice_range, nat_lt, if◌then◌else◌}
use Rattle.std.specs.Int.{w16, w32, from_be_bytes}
use Rattle.hidframe.specs.declared.ctaphid.TheConstants.{PACKET_SIZE}
use Rattle.hidframe.specs.declared.Packet.{Packet}
use Rattle.hidframe.specs.declared.Head.{Head}
use Rattle.hidframe.specs.declared.Head.TheVariants.{Init, Cont}

-- what a packet says: its channel, its command and length or its number, and its data area
pub data Fields : Type 0 where
  Initial : (cid cmd len : ℕ) (area : List ℕ) → Fields
  Continuation : (cid seq : ℕ) (area : List ℕ) → Fields

-- a packet has 64 bytes, each below 256
abbrev pub IsPacket : Packet → Type 0
IsPacket p = (length p.0 ≡ PACKET_SIZE) × ((k : ℕ) → slice_index p.0 k < 256)

-- byte i of a packet
abbrev pub byte : Packet → ℕ → ℕ
byte p i = slice_index p.0 i

-- the channel, big-endian
abbrev pub channel : Packet → ℕ
channel p = from_be_bytes w32 (byte p 0 ∷ byte p 1 ∷ byte p 2 ∷ byte p 3 ∷ [])

-- A byte after the channel of at least 128 begins a message: the command, the length, 57 bytes.
-- One below is the number of a continuation, with 59 bytes.
unfoldable pub fields : Packet → Fields
fields p = if nat_lt (byte p 4) 128
    then Continuation (channel p) (byte p 4) (slice_range p.0 5 64)
    else Initial (channel p) (byte p 4 - 128) (from_be_bytes w16 (byte p 5 ∷ byte p 6 ∷ []))
    (slice_range p.0 7 64)

-- what `read` answers of a packet that says this
abbrev pub Says : Head → Fields → Type 0
Says (Init cid cmd len area) said = said ≡ Initial cid cmd len area.now
Says (Cont cid seq area) said = said ≡ Continuation cid seq area.now

-- its data area is 57 or 59 bytes
abbrev pub HasArea : Head → Type 0
HasArea (Init cid cmd len area) = length area.now ≡ 57
HasArea (Cont cid seq area) = length area.now ≡ 59
