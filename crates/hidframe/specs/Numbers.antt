-- The numbers of CTAPHID: CTAP 2.1 sections 11.2.3, 11.2.4 and 11.2.9.
use Rattle.std.specs.Prelude.{◌≡◌}
use Rattle.hidframe.specs.declared.ctaphid.TheConstants.{PACKET_SIZE, INIT_DATA_SIZE, CONT_DATA_SIZE, MAX_PAYLOAD_SIZE, CTAPHID_BROADCAST_CID}
use Rattle.hidframe.specs.declared.ctaphid.TheConstants.{CTAPHID_RESERVED_CID, CTAPHID_PING, CTAPHID_MSG, CTAPHID_LOCK, CTAPHID_INIT, CTAPHID_WINK}
use Rattle.hidframe.specs.declared.ctaphid.TheConstants.{CTAPHID_CBOR, CTAPHID_CANCEL, CTAPHID_KEEPALIVE, CTAPHID_ERROR, ERR_INVALID_CMD}
use Rattle.hidframe.specs.declared.ctaphid.TheConstants.{ERR_INVALID_PAR, ERR_INVALID_LEN, ERR_INVALID_SEQ, ERR_MSG_TIMEOUT, ERR_CHANNEL_BUSY}
use Rattle.hidframe.specs.declared.ctaphid.TheConstants.{ERR_INVALID_CHANNEL, ERR_OTHER, STATUS_PROCESSING, STATUS_UPNEEDED, PROTOCOL_VERSION}
use Rattle.hidframe.specs.declared.ctaphid.TheConstants.{CAPABILITY_WINK, CAPABILITY_CBOR, CAPABILITY_NMSG}

-- bytes: of a packet, of the data of an initial packet and of a continuation, and the most of a payload
abbrev pub HasSizes : Type 0
HasSizes = (PACKET_SIZE ≡ 64) × (INIT_DATA_SIZE ≡ 57) × (CONT_DATA_SIZE ≡ 59) × (MAX_PAYLOAD_SIZE ≡ 7609)

abbrev pub HasChannels : Type 0
HasChannels = (CTAPHID_RESERVED_CID ≡ 0) × (CTAPHID_BROADCAST_CID ≡ 4294967295)

-- without the bit of an initial packet
abbrev pub HasCommands : Type 0
HasCommands = (CTAPHID_PING ≡ 1) × (CTAPHID_MSG ≡ 3) × (CTAPHID_LOCK ≡ 4) × (CTAPHID_INIT ≡ 6)
    × (CTAPHID_WINK ≡ 8) × (CTAPHID_CBOR ≡ 16) × (CTAPHID_CANCEL ≡ 17) × (CTAPHID_KEEPALIVE ≡ 59)
    × (CTAPHID_ERROR ≡ 63)

abbrev pub HasErrors : Type 0
HasErrors = (ERR_INVALID_CMD ≡ 1) × (ERR_INVALID_PAR ≡ 2) × (ERR_INVALID_LEN ≡ 3) × (ERR_INVALID_SEQ ≡ 4)
    × (ERR_MSG_TIMEOUT ≡ 5) × (ERR_CHANNEL_BUSY ≡ 6) × (ERR_INVALID_CHANNEL ≡ 11) × (ERR_OTHER ≡ 127)

-- of a keepalive
abbrev pub HasStatuses : Type 0
HasStatuses = (STATUS_PROCESSING ≡ 1) × (STATUS_UPNEEDED ≡ 2)

-- what a response to INIT says: the protocol's version, and the bits of the capabilities
abbrev pub HasCapabilities : Type 0
HasCapabilities = (PROTOCOL_VERSION ≡ 2) × (CAPABILITY_WINK ≡ 1) × (CAPABILITY_CBOR ≡ 4) × (CAPABILITY_NMSG ≡ 8)
