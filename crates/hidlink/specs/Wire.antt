-- What a list of packets carries on a channel: CTAP 2.1 sections 11.2.3 to 11.2.5, for the reply to
-- one CTAPHID_CBOR request. The relations are over the whole list.
use Rattle.std.specs.Prelude.{◌≡◌, ◌≢◌, ℕ, ◌<◌, ◌≤◌, ◌^◌, ◌⊎◌, ◌==◌, List, [], ◌∷◌, ◌++◌, length, map, filter, slice_index}
use Rattle.std.specs.List.{AllByRecursion}
use Rattle.hidframe.specs.declared.Packet.{Packet}
use Rattle.hidframe.specs.Packets.{Fields, Initial, Continuation, fields, IsPacket}
use Rattle.hidframe.specs.Frames.{Frames, continuations, continuation_count, joined}
use Rattle.hidframe.specs.declared.ctaphid.TheConstants.{CTAPHID_CBOR, CTAPHID_ERROR, CTAPHID_KEEPALIVE, STATUS_PROCESSING, STATUS_UPNEEDED, MAX_PAYLOAD_SIZE}
use Rattle.hidlink.specs.declared.collection.DeadKind.{DeadKind}
use Rattle.hidlink.specs.declared.collection.DeadKind.TheVariants.{WrongCommand, BadLength, BadKeepalive, StrayContinuation, WrongSequence, Interrupted}

-- the channel of a packet that says this
abbrev pub channel_of : Fields → ℕ
channel_of (Initial cid cmd len area) = cid
channel_of (Continuation cid seq area) = cid

-- the packets on channel c, in order
abbrev pub on : ℕ → List Packet → List Packet
on c ps = filter (λ p. channel_of (fields p) == c) ps

-- a keepalive (section 11.2.9.1.7): its one byte is a status
abbrev pub IsKeepalive : Fields → Type 0
IsKeepalive (Initial cid cmd len area) = (cmd ≡ CTAPHID_KEEPALIVE) × (len ≡ 1)
    × ((slice_index area 0 ≡ STATUS_PROCESSING) ⊎ (slice_index area 0 ≡ STATUS_UPNEEDED))
IsKeepalive (Continuation cid seq area) = ⊥

abbrev pub AreKeepalives : List Packet → Type 0
AreKeepalives ps = AllByRecursion (λ p. IsKeepalive (fields p)) ps

-- The last packet of ps is on c. Those on c are keepalives, then one message: CBOR, or an ERROR of one byte.
pub record Carries (c : ℕ) (ps : List Packet) (cmd : ℕ) (m : List ℕ) : Type 0 where
  pub before : List Packet
  pub last : Packet
  pub ends : ps ≡ before ++ last ∷ []
  pub last_on : channel_of (fields last) ≡ c
  pub waits : List Packet
  pub message : List Packet
  pub split : on c ps ≡ waits ++ message
  pub keepalives : AreKeepalives waits
  pub frames : Frames c cmd m message
  pub kind : (cmd ≡ CTAPHID_CBOR) ⊎ ((cmd ≡ CTAPHID_ERROR) × (length m ≡ 1))

-- qs is a beginning of ps, or the whole of it
abbrev pub IsBeginning : List Packet → List Packet → Type 0
IsBeginning qs ps = (more : List Packet) × (ps ≡ qs ++ more)

-- neither a beginning of ps nor a list that begins with ps carries anything on c
abbrev pub IsDead : ℕ → List Packet → Type 0
IsDead c ps = (qs : List Packet) (cmd : ℕ) (m : List ℕ)
    → IsBeginning qs ps ⊎ IsBeginning ps qs → Carries c qs cmd m → ⊥

-- a beginning of ps carries something on c
abbrev pub SomeCarries : ℕ → List Packet → Type 0
SomeCarries c ps = (qs : List Packet) × (cmd : ℕ) × (m : List ℕ)
    × IsBeginning qs ps × Carries c qs cmd m

-- a beginning of ps is dead
abbrev pub SomeIsDead : ℕ → List Packet → Type 0
SomeIsDead c ps = (qs : List Packet) × IsBeginning qs ps × IsDead c qs

-- one or the other: packets after ps change nothing any more
abbrev pub HasEnded : ℕ → List Packet → Type 0
HasEnded c ps = SomeCarries c ps ⊎ SomeIsDead c ps

-- The packets on c are keepalives, then less than all packets of a message of len bytes: these data
-- areas joined, with `next` continuations.
pub record OpenMessage (c : ℕ) (ps : List Packet) (len next : ℕ) (bytes : List ℕ) : Type 0 where
  pub waits : List Packet
  pub begun : List Packet
  pub first : List ℕ
  pub later : List (List ℕ)
  pub split : on c ps ≡ waits ++ begun
  pub keepalives : AreKeepalives waits
  pub room : len ≤ MAX_PAYLOAD_SIZE
  pub packets : map fields begun ≡ Initial c CTAPHID_CBOR len first ∷ continuations c 0 later
  pub number : length later ≡ next
  pub missing : next < continuation_count len
  pub so_far : bytes ≡ first ++ joined later

abbrev pub IsOpen : ℕ → List Packet → Type 0
IsOpen c ps = (len : ℕ) × (next : ℕ) × (bytes : List ℕ) × OpenMessage c ps len next bytes

-- what a packet at fault says, where no message is open
abbrev pub IsWrongCommand : Fields → Type 0
IsWrongCommand (Initial cid cmd len area) =
    (cmd ≢ CTAPHID_CBOR) × (cmd ≢ CTAPHID_ERROR) × (cmd ≢ CTAPHID_KEEPALIVE)
IsWrongCommand (Continuation cid seq area) = ⊥

abbrev pub IsBadLength : Fields → Type 0
IsBadLength (Initial cid cmd len area) = ((cmd ≡ CTAPHID_CBOR) × (MAX_PAYLOAD_SIZE < len))
    ⊎ (((cmd ≡ CTAPHID_ERROR) ⊎ (cmd ≡ CTAPHID_KEEPALIVE)) × (len ≢ 1))
IsBadLength (Continuation cid seq area) = ⊥

abbrev pub IsBadKeepalive : Fields → Type 0
IsBadKeepalive (Initial cid cmd len area) = (cmd ≡ CTAPHID_KEEPALIVE) × (len ≡ 1)
    × (slice_index area 0 ≢ STATUS_PROCESSING) × (slice_index area 0 ≢ STATUS_UPNEEDED)
IsBadKeepalive (Continuation cid seq area) = ⊥

abbrev pub IsContinuation : Fields → Type 0
IsContinuation (Initial cid cmd len area) = ⊥
IsContinuation (Continuation cid seq area) = Unit {0}

abbrev pub IsInitial : Fields → Type 0
IsInitial (Initial cid cmd len area) = Unit {0}
IsInitial (Continuation cid seq area) = ⊥

-- a continuation with another number than this
abbrev pub IsOtherNumber : ℕ → Fields → Type 0
IsOtherNumber next (Initial cid cmd len area) = ⊥
IsOtherNumber next (Continuation cid seq area) = seq ≢ next

-- the kind of fault of a packet that says this, after the packets ps
abbrev pub PacketFault : ℕ → List Packet → Fields → DeadKind → Type 0
PacketFault c ps f WrongCommand = (IsOpen c ps → ⊥) × IsWrongCommand f
PacketFault c ps f BadLength = (IsOpen c ps → ⊥) × IsBadLength f
PacketFault c ps f BadKeepalive = (IsOpen c ps → ⊥) × IsBadKeepalive f
PacketFault c ps f StrayContinuation = (IsOpen c ps → ⊥) × IsContinuation f
PacketFault c ps f WrongSequence = (len : ℕ) × (next : ℕ) × (bytes : List ℕ)
    × OpenMessage c ps len next bytes × IsOtherNumber next f
PacketFault c ps f Interrupted = IsOpen c ps × IsInitial f

-- ps is dead, no shorter beginning of it is, and its last packet has this kind of fault
pub record Dies (c : ℕ) (ps : List Packet) (kind : DeadKind) : Type 0 where
  pub before : List Packet
  pub last : Packet
  pub ends : ps ≡ before ++ last ∷ []
  pub dead : IsDead c ps
  pub shortest : IsDead c before → ⊥
  pub fault : PacketFault c before (fields last) kind

-- the number of a kind
abbrev pub number_of : DeadKind → ℕ
number_of WrongCommand = 1
number_of BadLength = 2
number_of BadKeepalive = 3
number_of StrayContinuation = 4
number_of WrongSequence = 5
number_of Interrupted = 6

-- What a collector shows: no message is open; one is, of `len` bytes, the next continuation having
-- the number `next`, and these bytes came; the message; the device's error; the kind of death.
pub data Shown : Type 0 where
  Waiting : Shown
  Receiving : (len next : ℕ) (bytes : List ℕ) → Shown
  Replied : (m : List ℕ) → Shown
  Failed : (code : ℕ) → Shown
  Died : (kind : DeadKind) → Shown

-- what it shows is so of the packets ps
abbrev pub Holds : ℕ → List Packet → Shown → Type 0
Holds c ps Waiting = AreKeepalives (on c ps)
Holds c ps (Receiving len next bytes) = OpenMessage c ps len next bytes
Holds c ps (Replied m) = (qs : List Packet) × IsBeginning qs ps × Carries c qs CTAPHID_CBOR m
Holds c ps (Failed code) = (qs : List Packet) × IsBeginning qs ps × Carries c qs CTAPHID_ERROR (code ∷ [])
Holds c ps (Died kind) = (qs : List Packet) × IsBeginning qs ps × Dies c qs kind

-- a collector of channel c that shows this got the packets ps
pub record Got (c : ℕ) (ps : List Packet) (shown : Shown) : Type 0 where
  pub channel : c < 2 ^ 32
  pub packets : AllByRecursion IsPacket ps
  pub holds : Holds c ps shown
