-- What a device answers to a packet: CTAP 2.1 sections 11.2.5 (arbitration) and 11.2.9 (commands). The
-- order of the lines, their error numbers and the answers to a broken, interrupted or cancelled
-- transaction are this project's own.
use Rattle.std.specs.Prelude.{ℕ, Bool, true, false, ◌+◌, ◌==◌, ◌&&◌, ◌||◌, not, nat_lt, List, [], ◌∷◌, ◌++◌, take, Option, Some, None, unwrap_or, if◌then◌else◌}
use Rattle.std.specs.List.{position_or_len}
use Rattle.std.specs.Int.{w32, to_be_bytes}
use Rattle.refusal_order.specs.Lines.{first_true}
use Rattle.hidframe.specs.declared.Packet.{Packet}
use Rattle.hidframe.specs.declared.ctaphid.TheConstants.{CTAPHID_BROADCAST_CID, CTAPHID_RESERVED_CID, CTAPHID_PING, CTAPHID_INIT, CTAPHID_CBOR}
use Rattle.hidframe.specs.declared.ctaphid.TheConstants.{CTAPHID_CANCEL, CTAPHID_ERROR, ERR_INVALID_CMD, ERR_INVALID_LEN, ERR_INVALID_SEQ}
use Rattle.hidframe.specs.declared.ctaphid.TheConstants.{ERR_MSG_TIMEOUT, ERR_CHANNEL_BUSY, ERR_INVALID_CHANNEL, ERR_OTHER, MAX_PAYLOAD_SIZE}
use Rattle.hidframe.specs.declared.ctaphid.TheConstants.{PROTOCOL_VERSION}
use Rattle.hidframe.specs.Packets.{Fields, Initial, Continuation}
use Rattle.hidframe.specs.Frames.{continuation_count}
use Rattle.hidframe.specs.Pieces.{frame_list}
use Rattle.hidlink.specs.declared.arbitration.Arbitration.{Arbitration}
use Rattle.hidlink.specs.declared.arbitration.Arbitration.TheVariants as choice
use Rattle.hidlink.specs.declared.arbitration.TheConstants.{MAX_CHANNELS}
use Rattle.hidlink.specs.declared.transaction.Refusal.{Refusal}
use Rattle.hidlink.specs.declared.transaction.Refusal.TheVariants.{NotWorking, TooLong}
use Rattle.hidlink.specs.declared.transaction.DeviceEvent.{DeviceEvent}
use Rattle.hidlink.specs.declared.transaction.DeviceEvent.TheVariants.{Quiet, Request, Cancelled, Aborted}

-- what a device is doing: nothing; receiving a message on a channel, its command, its length, the
-- number of the next continuation, the bytes so far; working on a request that came on a channel
pub data TransactionState : Type 0 where
  Idle : TransactionState
  Receiving : (cid cmd len next : ℕ) (bytes : List ℕ) → TransactionState
  Working : (cid : ℕ) (payload : List ℕ) → TransactionState

abbrev pub is_busy : TransactionState → Bool
is_busy Idle = false
is_busy (Receiving cid cmd len next bytes) = true
is_busy (Working cid payload) = true

abbrev pub is_receiving_on : TransactionState → ℕ → Bool
is_receiving_on Idle c = false
is_receiving_on (Receiving cid cmd len next bytes) c = cid == c
is_receiving_on (Working cid payload) c = false

abbrev pub is_working_on : TransactionState → ℕ → Bool
is_working_on Idle c = false
is_working_on (Receiving cid cmd len next bytes) c = false
is_working_on (Working cid payload) c = cid == c

-- a message to send
pub record Message : Type 0 where
  pub cid : ℕ
  pub cmd : ℕ
  pub payload : List ℕ

-- its packets
abbrev pub packets_of : Option Message → List Packet
packets_of None = []
packets_of (Some message) = frame_list message.cid message.cmd message.payload

-- an ERROR on c
abbrev pub error : ℕ → ℕ → Option Message
error c code = Some (record { cid = c; cmd = CTAPHID_ERROR; payload = code ∷ [] })

-- The answer to an INIT of this data area, on channel c: the nonce, the channel that is named, the
-- protocol's version, the device's versions 1, 0, 0, and the capabilities CBOR and NMSG.
abbrev pub init_response : ℕ → ℕ → List ℕ → Option Message
init_response c named area = Some (record {
  cid = c;
  cmd = CTAPHID_INIT;
  payload = take 8 area ++ (to_be_bytes w32 named ++ PROTOCOL_VERSION ∷ 1 ∷ 0 ∷ 0 ∷ 12 ∷ []);
})

-- what is sent, and what the call tells
pub record Response : Type 0 where
  pub sent : Option Message
  pub step : DeviceEvent

abbrev pub sends : Option Message → Response
sends message = record { sent = message; step = Quiet }

abbrev pub tells : DeviceEvent → Response
tells step = record { sent = None; step = step }

-- what comes of a message of which continuations up to `next` are there: more is missing, or a request
-- is complete, or a PING is sent back
abbrev pub on_receipt : ℕ → ℕ → ℕ → ℕ → List ℕ → Response
on_receipt c cmd len next bytes =
    if nat_lt next (continuation_count len) then tells Quiet
    else (if cmd == CTAPHID_CBOR then tells (Request c)
    else sends (Some (record { cid = c; cmd = CTAPHID_PING; payload = take len bytes })))

-- The table for an initial packet on c, n channels being out, of a device that is busy or not, and receives or works
-- on c or not: the ranks 1 to 14, each with the test whether it applies, and what is chosen.
abbrev pub choices : ℕ → Bool → Bool → Bool → ℕ → ℕ → ℕ → List (Bool × Arbitration)
choices n busy receiving working c cmd len =
    (c == CTAPHID_RESERVED_CID || (nat_lt n c && not (c == CTAPHID_BROADCAST_CID)), choice.Refused ERR_INVALID_CHANNEL)
    ∷ (c == CTAPHID_BROADCAST_CID && not (cmd == CTAPHID_INIT), choice.Refused ERR_INVALID_CHANNEL)
    ∷ (cmd == CTAPHID_INIT && not (len == 8), choice.Refused ERR_INVALID_LEN)
    ∷ ((cmd == CTAPHID_INIT && c == CTAPHID_BROADCAST_CID) && busy, choice.Refused ERR_CHANNEL_BUSY)
    ∷ ((cmd == CTAPHID_INIT && c == CTAPHID_BROADCAST_CID) && n == MAX_CHANNELS, choice.Refused ERR_OTHER)
    ∷ (cmd == CTAPHID_INIT && c == CTAPHID_BROADCAST_CID, choice.NewChannel)
    ∷ (cmd == CTAPHID_INIT && (busy && not (receiving || working)), choice.Refused ERR_CHANNEL_BUSY)
    ∷ (cmd == CTAPHID_INIT, choice.ChannelAnew)
    ∷ (receiving, choice.Interrupted)
    ∷ (cmd == CTAPHID_CANCEL && working, choice.Cancelled)
    ∷ (cmd == CTAPHID_CANCEL, choice.Ignored)
    ∷ (busy, choice.Refused ERR_CHANNEL_BUSY)
    ∷ (not (cmd == CTAPHID_PING) && not (cmd == CTAPHID_CBOR), choice.Refused ERR_INVALID_CMD)
    ∷ (nat_lt MAX_PAYLOAD_SIZE len || (cmd == CTAPHID_CBOR && len == 0), choice.Refused ERR_INVALID_LEN)
    ∷ []

-- what each choice sends, and tells
abbrev pub chosen_response : ℕ → TransactionState → ℕ → ℕ → ℕ → List ℕ → Arbitration → Response
chosen_response n s c cmd len area (choice.Refused code) = sends (error c code)
chosen_response n s c cmd len area choice.NewChannel = sends (init_response c (n + 1) area)
chosen_response n s c cmd len area choice.ChannelAnew = record { sent = init_response c c area; step = if is_working_on s c then Aborted else Quiet }
chosen_response n s c cmd len area choice.Interrupted = sends (error c ERR_INVALID_SEQ)
chosen_response n s c cmd len area choice.Cancelled = tells Cancelled
chosen_response n s c cmd len area choice.Ignored = tells Quiet
chosen_response n s c cmd len area choice.Begins = on_receipt c cmd len 0 area

-- the table of a device in this state
abbrev pub rank_lines : ℕ → TransactionState → ℕ → ℕ → ℕ → List (Bool × Arbitration)
rank_lines n s c cmd len = choices n (is_busy s) (is_receiving_on s c) (is_working_on s c) c cmd len

-- what is chosen for an initial packet: by the first line that applies; where none does, the message begins
abbrev pub chosen : ℕ → TransactionState → ℕ → ℕ → ℕ → Arbitration
chosen n s c cmd len = unwrap_or (first_true (rank_lines n s c cmd len)) choice.Begins

-- the rank of an initial packet: the number of the first line that applies, and 15 where none does
abbrev pub rank : ℕ → TransactionState → ℕ → ℕ → ℕ → ℕ
rank n s c cmd len = position_or_len (λ line. line.0) (rank_lines n s c cmd len) + 1

-- the response to a packet that says this
abbrev pub response : ℕ → TransactionState → Fields → Response
response n s (Initial c cmd len area) = chosen_response n s c cmd len area (chosen n s c cmd len)
response n Idle (Continuation c seq area) = tells Quiet
response n (Working cid payload) (Continuation c seq area) = tells Quiet
response n (Receiving cid cmd len next bytes) (Continuation c seq area) =
    if cid == c then (if seq == next then on_receipt cid cmd len (next + 1) (bytes ++ area) else sends (error cid ERR_INVALID_SEQ))
    else tells Quiet

-- what an expired time sends
abbrev pub expiry : TransactionState → Option Message
expiry Idle = None
expiry (Receiving cid cmd len next bytes) = error cid ERR_MSG_TIMEOUT
expiry (Working cid payload) = None

-- the channel and the payload of the request that it works on
abbrev pub working_channel : TransactionState → Option ℕ
working_channel Idle = None
working_channel (Receiving cid cmd len next bytes) = None
working_channel (Working cid payload) = Some cid

abbrev pub request_payload : TransactionState → Option (List ℕ)
request_payload Idle = None
request_payload (Receiving cid cmd len next bytes) = None
request_payload (Working cid payload) = Some payload

-- it receives; it works
abbrev pub IsReceiving : TransactionState → Type 0
IsReceiving Idle = ⊥
IsReceiving (Receiving cid cmd len next bytes) = Unit {0}
IsReceiving (Working cid payload) = ⊥

abbrev pub IsWorking : TransactionState → Type 0
IsWorking Idle = ⊥
IsWorking (Receiving cid cmd len next bytes) = ⊥
IsWorking (Working cid payload) = Unit {0}

-- a message of this command on the channel that it works on
abbrev pub on_working : TransactionState → ℕ → List ℕ → Option Message
on_working Idle cmd payload = None
on_working (Receiving cid other len next bytes) cmd payload = None
on_working (Working cid request) cmd payload = Some (record { cid = cid; cmd = cmd; payload = payload })

-- what callers see of a device: how many channels it handed out, what it is doing, the packets that
-- are left to send
pub record DeviceState : Type 0 where
  pub channels : ℕ
  pub state : TransactionState
  pub left : List Packet

-- the number of a refusal
abbrev pub refusal_number : Refusal → ℕ
refusal_number NotWorking = 6
refusal_number TooLong = 4
