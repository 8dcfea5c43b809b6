-- What a device's calls mean: CTAP 2.1 section 11.2.5 (arbitration, transactions). A history is read
-- into parts: each is a transaction or a call by itself.
use Rattle.std.specs.Prelude.{◌≡◌, ◌≢◌, ℕ, Bool, false, ◌+◌, ◌<◌, ◌≤◌, ◌⊎◌, ◌==◌, List, [], ◌∷◌, ◌++◌, length, take, if◌then◌else◌}
use Rattle.std.specs.List.{AllByRecursion, flat_map}
use Rattle.hidframe.specs.declared.Packet.{Packet}
use Rattle.hidframe.specs.Packets.{Fields, Initial, Continuation, fields}
use Rattle.hidframe.specs.declared.ctaphid.TheConstants.{CTAPHID_CBOR, CTAPHID_PING, MAX_PAYLOAD_SIZE}
use Rattle.hidframe.specs.Frames.{continuations, continuation_count, joined}
use Rattle.hidlink.specs.Ranks.{TransactionState, Idle, Receiving, Working, rank}

-- a call of a device: a packet that it took, an answer, a keepalive, an expired time
pub data DeviceCall : Type 0 where
  Took : (p : Packet) → DeviceCall
  Answered : (m : List ℕ) → DeviceCall
  Kept : (status : ℕ) → DeviceCall
  Expired : DeviceCall

-- n channels being out, a packet has the rank r while the device is in the state s
abbrev pub FieldsRank : ℕ → TransactionState → ℕ → Fields → Type 0
FieldsRank n s r (Initial c cmd len area) = rank n s c cmd len ≡ r
FieldsRank n s r (Continuation c seq area) = ⊥

abbrev pub HasRank : ℕ → TransactionState → ℕ → DeviceCall → Type 0
HasRank n s r (Took p) = FieldsRank n s r (fields p)
HasRank n s r (Answered m) = ⊥
HasRank n s r (Kept status) = ⊥
HasRank n s r Expired = ⊥

-- the continuations on c among the calls, in order
abbrev pub continuations_on : ℕ → Fields → List Fields
continuations_on c (Initial cid cmd len area) = []
continuations_on c (Continuation cid seq area) =
    if cid == c then Continuation cid seq area ∷ [] else []

abbrev pub continuation_on : ℕ → DeviceCall → List Fields
continuation_on c (Took p) = continuations_on c (fields p)
continuation_on c (Answered m) = []
continuation_on c (Kept status) = []
continuation_on c Expired = []

abbrev pub continued : ℕ → List DeviceCall → List Fields
continued c calls = flat_map (continuation_on c) calls

-- a call that leaves a message alone that comes in on c
abbrev pub Unbroken : ℕ → ℕ → ℕ → ℕ → DeviceCall → Type 0
Unbroken n c cmd len call = (call ≢ Expired)
    × (HasRank n (Receiving c cmd len 0 []) 8 call → ⊥) × (HasRank n (Receiving c cmd len 0 []) 9 call → ⊥)

-- Calls of one transaction: a packet of rank 15 that begins a message of cmd and len on c, and calls
-- that don't break it off. Its continuations on c, picked out in order, have these data areas.
pub record Transaction (n : ℕ) (calls : List DeviceCall) (c cmd len : ℕ) (later : List (List ℕ)) (bytes : List ℕ) : Type 0 where
  pub first : Packet
  pub area : List ℕ
  pub others : List DeviceCall
  pub whole : calls ≡ Took first ∷ others
  pub begins : fields first ≡ Initial c cmd len area
  pub ranked : rank n Idle c cmd len ≡ 15
  pub numbered : continued c others ≡ continuations c 0 later
  pub bytes_so_far : bytes ≡ area ++ joined later
  -- no expire, no initial packet of rank 8 or 9
  pub unbroken : AllByRecursion (Unbroken n c cmd len) others

-- the message isn't all there
pub record IsIncoming (n : ℕ) (calls : List DeviceCall) (c cmd len next : ℕ) (bytes : List ℕ) : Type 0 where
  pub later : List (List ℕ)
  pub transaction : Transaction n calls c cmd len later bytes
  pub number : length later ≡ next
  pub missing : next < continuation_count len

-- the last of the calls is a packet on c, with which the message is all there
pub record IsComplete (n : ℕ) (calls : List DeviceCall) (c cmd : ℕ) (payload : List ℕ) : Type 0 where
  pub len : ℕ
  pub later : List (List ℕ)
  pub bytes : List ℕ
  pub transaction : Transaction n calls c cmd len later bytes
  pub all : length later ≡ continuation_count len
  pub message : payload ≡ take len bytes
  pub before : List DeviceCall
  pub last : Packet
  pub ends : calls ≡ before ++ Took last ∷ []
  pub last_counts : (before ≡ []) ⊎ (continuation_on c (Took last) ≢ [])

-- a call by which the work on c comes to its end
abbrev pub EndsWork : ℕ → ℕ → List ℕ → DeviceCall → Type 0
EndsWork n c payload (Took p) = HasRank n (Working c payload) 8 (Took p)
EndsWork n c payload (Answered m) = length m ≤ MAX_PAYLOAD_SIZE
EndsWork n c payload (Kept status) = ⊥
EndsWork n c payload Expired = ⊥

-- a complete request, and calls that don't end the work on it
pub record IsAtWork (n : ℕ) (calls : List DeviceCall) (c : ℕ) (payload : List ℕ) : Type 0 where
  pub request : List DeviceCall
  pub meanwhile : List DeviceCall
  pub split : calls ≡ request ++ meanwhile
  pub complete : IsComplete n request c CTAPHID_CBOR payload
  pub unended : AllByRecursion (λ call. EndsWork n c payload call → ⊥) meanwhile

-- a call that breaks off a transaction on c of which `next` continuations came
abbrev pub Breaks : ℕ → ℕ → ℕ → ℕ → ℕ → DeviceCall → Type 0
Breaks n c cmd len next call = (call ≡ Expired)
    ⊎ (HasRank n (Receiving c cmd len 0 []) 8 call ⊎ (HasRank n (Receiving c cmd len 0 []) 9 call
    ⊎ ((seq : ℕ) × (area : List ℕ) × (continuation_on c call ≡ Continuation c seq area ∷ []) × (seq ≢ next))))

-- the four ways in which a part is closed, n channels being out before it
pub data Closed (n : ℕ) : List DeviceCall → Type 0 where
  -- a call that is no packet of rank 15, by itself
  alone : (call : DeviceCall) → (HasRank n Idle 15 call → ⊥) → Closed n (call ∷ [])
  -- a complete PING
  pinged : (calls : List DeviceCall) (c : ℕ) (payload : List ℕ)
      → IsComplete n calls c CTAPHID_PING payload → Closed n calls
  -- a message that is broken off before it is complete
  broken : (before : List DeviceCall) (call : DeviceCall) (c cmd len next : ℕ) (bytes : List ℕ)
      → IsIncoming n before c cmd len next bytes → Breaks n c cmd len next call → Closed n (before ++ call ∷ [])
  -- a request whose work is ended
  ended : (before : List DeviceCall) (call : DeviceCall) (c : ℕ) (payload : List ℕ)
      → IsAtWork n before c payload → EndsWork n c payload call → Closed n (before ++ call ∷ [])

-- what the calls of an open part leave the device doing
abbrev pub Doing : ℕ → List DeviceCall → TransactionState → Type 0
Doing n calls Idle = calls ≡ []
Doing n calls (Receiving c cmd len next bytes) = IsIncoming n calls c cmd len next bytes
Doing n calls (Working c payload) = IsAtWork n calls c payload

-- whether a call is a packet of rank 6 of an idle device, which hands out a channel
abbrev pub assigns : ℕ → Fields → Bool
assigns n (Initial c cmd len area) = rank n Idle c cmd len == 6
assigns n (Continuation c seq area) = false

abbrev pub assigns_channel : ℕ → DeviceCall → Bool
assigns_channel n (Took p) = assigns n (fields p)
assigns_channel n (Answered m) = false
assigns_channel n (Kept status) = false
assigns_channel n Expired = false

-- how many channels are out after a part
abbrev pub channels_after : ℕ → List DeviceCall → ℕ
channels_after n [] = n
channels_after n (call ∷ []) = if assigns_channel n call then n + 1 else n
channels_after n (call ∷ next ∷ calls) = n

-- how many channels are out after the parts
abbrev pub channels : ℕ → List (List DeviceCall) → ℕ
channels n [] = n
channels n (part ∷ parts) = channels (channels_after n part) parts

-- no beginning of the calls that is shorter than they is closed
abbrev pub NoneShorter : ℕ → List DeviceCall → Type 0
NoneShorter n calls = (front : List DeviceCall) (call : DeviceCall) (rest : List DeviceCall)
    → calls ≡ front ++ call ∷ rest → Closed n front → ⊥

-- each part is closed, and no shorter beginning of it is
abbrev pub AreClosed : ℕ → List (List DeviceCall) → Type 0
AreClosed n [] = Unit {0}
AreClosed n (part ∷ parts) =
    Closed n part × NoneShorter n part × AreClosed (channels_after n part) parts

-- The history h is closed parts, and then an open one, which may have no call: no beginning of it is
-- closed.
pub record Reads (h : List DeviceCall) (parts : List (List DeviceCall)) (open_part : List DeviceCall) : Type 0 where
  pub whole : h ≡ flat_map (λ part. part) parts ++ open_part
  pub closed : AreClosed 0 parts
  pub shorter : NoneShorter (channels 0 parts) open_part
  pub is_open : Closed (channels 0 parts) open_part → ⊥

-- h leaves a device with n channels out doing this
pub record Leaves (h : List DeviceCall) (n : ℕ) (s : TransactionState) : Type 0 where
  pub parts : List (List DeviceCall)
  pub open_part : List DeviceCall
  pub reads : Reads h parts open_part
  pub out : n ≡ channels 0 parts
  pub doing : Doing n open_part s
