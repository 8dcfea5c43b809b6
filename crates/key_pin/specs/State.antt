-- What an authenticator keeps for its PIN: CTAP 2.1, sections 6.5.1 and 6.5.2.
use Rattle.std.specs.Prelude.{◌-◌, ℕ, List, Bool, true, false, Option, Some, None, option_map, string_bytes, if◌then◌else◌}
use Rattle.pin_protocols.specs.declared.protocol.Protocol.{Protocol}
use Rattle.key_pin.specs.declared.state.ClientPin.{ClientPin}
use Rattle.key_pin.specs.declared.state.KeyPair.{KeyPair}
use Rattle.key_pin.specs.declared.state.Token.{Token}
use Rattle.key_pin.specs.declared.words.PinWords.{PinWords}

-- a pinUvAuthToken in use (6.5.2.1): by which protocol it authenticates, its bytes, its permissions, and its rp id once it has one
pub record PinToken : Type 0 where
  pub protocol : Protocol
  pub bytes : List ℕ
  pub permissions : ℕ
  pub rp_id : Option (List ℕ)

pub record PinState : Type 0 where
  -- LEFT(SHA-256(PIN), 16) of the PIN that is set
  pub pin : Option (List ℕ)
  -- pinRetries: how many wrong PINs are left (6.5.2.2)
  pub retries : ℕ
  -- how many wrong PINs there were in a row since the key was powered up (6.5.2.2)
  pub mismatches : ℕ
  -- the key pair of the key agreement (6.5.6); there is none until it is first asked for, and after a wrong PIN
  pub pair : Option KeyPair
  pub token : Option PinToken
  -- the try that is under way has been counted: the request is answered in more than one call
  pub counted : Bool

abbrev pub token_view : Token → PinToken
token_view t = record { protocol = t.protocol; bytes = t.bytes; permissions = t.permissions; rp_id = option_map string_bytes t.rp_id }

abbrev pub pin_view : ClientPin → PinState
pin_view p = record {
  pin = p.pin;
  retries = p.retries;
  mismatches = p.mismatches;
  pair = p.pair;
  token = option_map token_view p.token;
  counted = p.counted;
}

-- ---- what happens to it

-- a key that was never used, or was reset (6.6): no PIN, 8 retries
abbrev pub new_pin_state : PinState
new_pin_state = record { pin = None; retries = 8; mismatches = 0; pair = None; token = None; counted = false }

-- it is plugged in: the PIN and its retries are as they were (6.5.2, 6.5.6 initialize)
abbrev pub powered_up : PinState → PinState
powered_up s = record { pin = s.pin; retries = s.retries; mismatches = 0; pair = None; token = None; counted = false }

-- clearPinUvAuthTokenPermissionsExceptLbw (6.5.3): there are no large blobs here, so no permission is left
abbrev pub without_permissions : PinToken → PinToken
without_permissions t = record t { permissions = 0 }

abbrev pub spent : PinState → PinState
spent s = record s { token = option_map without_permissions s.token }

-- stopUsingPinUvAuthToken (6.5.3)
abbrev pub without_token : PinState → PinState
without_token s = record s { token = None }

-- ---- what a request does to it before it is answered

abbrev pub pair_or : PinWords → Option KeyPair → KeyPair
pair_or words None = record { key = words.secret; x = words.x; y = words.y }
pair_or words (Some pair) = pair

abbrev pub pair_of : PinWords → PinState → KeyPair
pair_of words s = pair_or words s.pair

-- there is a key pair: the one that was there, or the host's next (6.5.6, initialize and regenerate)
abbrev pub with_pair : PinWords → PinState → PinState
with_pair words s = record s { pair = Some (pair_of words s) }

-- a try is counted once, however often the host is asked (6.5.5.6 and 6.5.5.7: "decrement pinRetries by 1")
abbrev pub counted : PinState → PinState
counted s = if s.counted then s else record s { retries = s.retries - 1; counted = true }

-- the try is over
abbrev pub over : PinState → PinState
over s = record s { counted = false }
