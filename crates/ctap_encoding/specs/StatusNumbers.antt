-- The status bytes: CTAP 2.1 section 8.2.
use Rattle.std.specs.Prelude.{◌≡◌}
use Rattle.ctap_encoding.specs.declared.status.TheConstants.{OK, INVALID_COMMAND, INVALID_PARAMETER, CBOR_UNEXPECTED_TYPE, INVALID_CBOR}
use Rattle.ctap_encoding.specs.declared.status.TheConstants.{MISSING_PARAMETER, LIMIT_EXCEEDED, CREDENTIAL_EXCLUDED, UNSUPPORTED_ALGORITHM}
use Rattle.ctap_encoding.specs.declared.status.TheConstants.{OPERATION_DENIED, KEY_STORE_FULL, INVALID_OPTION, KEEPALIVE_CANCEL, NO_CREDENTIALS}
use Rattle.ctap_encoding.specs.declared.status.TheConstants.{NOT_ALLOWED, OTHER}
use Rattle.ctap_encoding.specs.declared.status.TheConstants.{PIN_INVALID, PIN_BLOCKED, PIN_AUTH_INVALID, PIN_AUTH_BLOCKED, PIN_NOT_SET}
use Rattle.ctap_encoding.specs.declared.status.TheConstants.{PUAT_REQUIRED, PIN_POLICY_VIOLATION, INVALID_SUBCOMMAND, UNAUTHORIZED_PERMISSION}

-- success, and those by which a request is refused as it is read
abbrev pub HasReadingStatuses : Type 0
HasReadingStatuses = (OK ≡ 0) × (INVALID_COMMAND ≡ 1) × (INVALID_PARAMETER ≡ 2) × (CBOR_UNEXPECTED_TYPE ≡ 17)
    × (INVALID_CBOR ≡ 18) × (MISSING_PARAMETER ≡ 20) × (LIMIT_EXCEEDED ≡ 21)

-- those by which an authenticator refuses a request that was read
abbrev pub HasRefusingStatuses : Type 0
HasRefusingStatuses = (CREDENTIAL_EXCLUDED ≡ 25) × (UNSUPPORTED_ALGORITHM ≡ 38) × (OPERATION_DENIED ≡ 39)
    × (KEY_STORE_FULL ≡ 40) × (INVALID_OPTION ≡ 44) × (KEEPALIVE_CANCEL ≡ 45) × (NO_CREDENTIALS ≡ 46)
    × (NOT_ALLOWED ≡ 48) × (OTHER ≡ 127)

-- those of a PIN and its tokens
abbrev pub HasPinStatuses : Type 0
HasPinStatuses = (PIN_INVALID ≡ 49) × (PIN_BLOCKED ≡ 50) × (PIN_AUTH_INVALID ≡ 51) × (PIN_AUTH_BLOCKED ≡ 52)
    × (PIN_NOT_SET ≡ 53) × (PUAT_REQUIRED ≡ 54) × (PIN_POLICY_VIOLATION ≡ 55) × (INVALID_SUBCOMMAND ≡ 62)
    × (UNAUTHORIZED_PERMISSION ≡ 64)
