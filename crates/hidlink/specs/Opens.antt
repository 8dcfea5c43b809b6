-- The response to an INIT on the broadcast channel: CTAP 2.1 section 11.2.9.1.3.
use Rattle.std.specs.Prelude.{◌≡◌, ◌≢◌, ℕ, List, [], ◌∷◌, ◌++◌, take, slice_index, bit_and, Option, Some, None}
use Rattle.std.specs.List.{AllByRecursion}
use Rattle.std.specs.Int.{w32, from_be_bytes}
use Rattle.hidframe.specs.declared.Packet.{Packet}
use Rattle.hidframe.specs.declared.ctaphid.TheConstants.{CTAPHID_BROADCAST_CID, CTAPHID_RESERVED_CID, CTAPHID_INIT, PROTOCOL_VERSION, CAPABILITY_CBOR}
use Rattle.hidframe.specs.Packets.{Initial, fields}
use Rattle.hidlink.specs.declared.opening.Opening.{Opening}
use Rattle.hidlink.specs.declared.opening.Opening.TheVariants.{More, Channel}

-- These data bytes respond to the nonce and assign the channel c: they are the nonce, the channel, the
-- protocol's version, the device's three version bytes and the capabilities.
pub record Assigns (nonce area : List ℕ) (c : ℕ) : Type 0 where
  pub same_nonce : take 8 area ≡ nonce
  pub channel : c ≡ from_be_bytes w32 (slice_index area 8 ∷ slice_index area 9 ∷ slice_index area 10 ∷ slice_index area 11 ∷ [])
  pub unreserved : c ≢ CTAPHID_RESERVED_CID
  pub own : c ≢ CTAPHID_BROADCAST_CID
  pub version : slice_index area 12 ≡ PROTOCOL_VERSION
  pub cbor : bit_and (slice_index area 16) CAPABILITY_CBOR ≢ 0

-- the packet is a response to the nonce, of 17 bytes on the broadcast channel, that assigns c
pub record IsInitResponse (nonce : List ℕ) (p : Packet) (c : ℕ) : Type 0 where
  pub area : List ℕ
  pub says : fields p ≡ Initial CTAPHID_BROADCAST_CID CTAPHID_INIT 17 area
  pub assigns : Assigns nonce area c

abbrev pub IsNoInitResponse : List ℕ → Packet → Type 0
IsNoInitResponse nonce p = (c : ℕ) → IsInitResponse nonce p c → ⊥

-- the first response among the packets ps assigns the channel c
pub record Opens (nonce : List ℕ) (ps : List Packet) (c : ℕ) : Type 0 where
  pub before : List Packet
  pub response : Packet
  pub after : List Packet
  pub split : ps ≡ before ++ response ∷ after
  pub first : AllByRecursion (IsNoInitResponse nonce) before
  pub assigns : IsInitResponse nonce response c

-- an opener that sent this nonce and shows this channel, or none, got the packets ps
abbrev pub Heard : List ℕ → List Packet → Option ℕ → Type 0
Heard nonce ps None = AllByRecursion (IsNoInitResponse nonce) ps
Heard nonce ps (Some c) = Opens nonce ps c

-- what it tells of the channel
abbrev pub opened_channel : Opening → Option ℕ
opened_channel More = None
opened_channel (Channel cid) = Some cid

-- what callers see of an opener: the nonce that it sent, and the channel
pub record Asked : Type 0 where
  pub nonce : List ℕ
  pub channel : Option ℕ
