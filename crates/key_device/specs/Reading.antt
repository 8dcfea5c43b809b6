-- How a request that is complete is answered by a key that takes PINs, where one is set or not: CTAP 2.1, sections 6.1.2, 6.2.2 and 6.5.
use Rattle.std.specs.Prelude.{◌≡◌, ◌≢◌, ◌⊎◌, ℕ, List, [], ◌∷◌, Bool, true, false, Option, Some, None, option_map, string_bytes, Vec, if◌then◌else◌}
use Rattle.std.specs.Global.{Global}
use Rattle.ctap_encoding.specs.declared.error.Error.TheVariants as errors
use Rattle.ctap_requests.specs.Requests.{RequestMessage, RequestOf}
use Rattle.ctap_requests.specs.Status.{IsRequest}
use Rattle.pin_client_messages.specs.Replies.{ToldKey}
use Rattle.pin_key_messages.specs.Asking.{Asking, IsSaid, Refused, TellsAsking}
use Rattle.pin_key_messages.specs.Protected.{Flags, IsProtection, IsUnprotected, Protection, RefusedPart, RefusedProtection, verified}
use Rattle.pin_key_messages.specs.Protected as of
use Rattle.key_pin.specs.Query.{Query}
use Rattle.key_device.specs.declared.command.KeptKey.{KeptKey}
use Rattle.key_device.specs.declared.command.PinCommand.{PinCommand}
use Rattle.key_device.specs.declared.reading.Reading.{Reading}
use Rattle.key_device.specs.declared.reading.Reading.TheVariants as readings
use Rattle.key_device.specs.declared.stage.PinRequest.TheVariants as requests
use Rattle.key_device.specs.declared.stage.ProtectedAsked.{ProtectedAsked}

-- ---- a request of authenticatorClientPIN that is kept, without where it lies in memory

abbrev pub key_of : KeptKey → ToldKey
key_of k = record { kty = k.kty; alg = k.alg; crv = k.crv; x = k.x.items; y = k.y.items }

abbrev pub bytes_of : Option (Vec ℕ Global) → Option (List ℕ)
bytes_of o = option_map (λ v. v.items) o

abbrev pub asking_of : PinCommand → Asking
asking_of c = record {
  protocol = c.protocol;
  subcommand = c.subcommand;
  key = option_map key_of c.key;
  param = bytes_of c.param;
  new_pin = bytes_of c.new_pin;
  pin_hash = bytes_of c.pin_hash;
  permissions = c.permissions;
  rp_id = option_map string_bytes c.rp_id;
}

abbrev pub query_of : PinCommand → Query
query_of c = record {
  protocol = c.protocol;
  subcommand = c.subcommand;
  key = option_map key_of c.key;
  param = bytes_of c.param;
  new_pin = bytes_of c.new_pin;
  pin_hash = bytes_of c.pin_hash;
  permissions = c.permissions;
  rp_id = option_map string_bytes c.rp_id;
}

abbrev pub ReadsCommand : List ℕ → Reading → Type 0
ReadsCommand bs r =
    ((c : PinCommand) × IsSaid 6 TellsAsking (asking_of c) bs × (r ≡ readings.Pin (requests.Command c)))
    ⊎ ((s : ℕ) × Refused bs (errors.Status s) × (r ≡ readings.Refused s))

-- ---- a makeCredential or getAssertion

-- the command byte
abbrev pub command_of : List ℕ → Option ℕ
command_of [] = None
command_of (c ∷ rest) = Some c

abbrev pub or_bool : Bool → Option Bool → Bool
or_bool b None = b
or_bool b (Some c) = c

-- the option uv is there, and true
abbrev pub asks_verification : Option Flags → Bool
asks_verification None = false
asks_verification (Some f) = or_bool false f.uv

-- the option up is not there and false
abbrev pub asks_presence : Option Flags → Bool
asks_presence None = true
asks_presence (Some f) = or_bool true f.up

-- what is kept of one with this pinUvAuthParam: what a token is asked to grant, and its bytes without its members of the PIN, with
-- option uv true, without extensions
pub record IsAsked (bs : List ℕ) (q : Protection) (shown : List ℕ) (a : ProtectedAsked) : Type 0 where
  pub message : RequestMessage
  pub bare : List ℕ
  pub unprotected : IsUnprotected bs bare
  pub read : IsRequest message bare
  pub bytes : RequestOf (verified message) None a.bytes.items
  pub permission : a.permission ≡ of.permission message
  pub rp_id : string_bytes a.rp_id ≡ of.rp_id message
  pub client_data_hash : a.client_data_hash.items ≡ of.client_data_hash message
  pub protocol : a.protocol ≡ q.protocol
  pub param : a.param.items ≡ shown
  pub presence : a.presence ≡ asks_presence q.options

-- 0x7F, where it has no such bytes
abbrev pub ReadsProtected : List ℕ → Protection → List ℕ → Reading → Type 0
ReadsProtected bs q param r =
    ((a : ProtectedAsked) × IsAsked bs q param a × (r ≡ readings.Pin (requests.Protected a)))
    ⊎ ((s : ℕ) × ((s ≡ 0x7F) ⊎ RefusedPart bs (errors.Status s)) × (r ≡ readings.Refused s))

-- Without pinUvAuthParam: a token is needed (0x36, where a PIN is set and a credential is to be made); there is no built-in
-- verification (0x2C); else the authenticator answers.
abbrev pub without_param : Bool → Option Flags → Reading
without_param needs_token options =
    if needs_token then readings.Refused 0x36 else if asks_verification options then readings.Refused 0x2C else readings.AsItIs

-- with an empty one the user touches the key
abbrev pub ByParam : Bool → List ℕ → Protection → Option (List ℕ) → Reading → Type 0
ByParam needs_token bs q None r = r ≡ without_param needs_token q.options
ByParam needs_token bs q (Some []) r = r ≡ readings.Touch
ByParam needs_token bs q (Some (b ∷ param)) r = ReadsProtected bs q (b ∷ param) r

abbrev pub ReadsParam : Bool → List ℕ → Reading → Type 0
ReadsParam needs_token bs r =
    ((q : Protection) × IsProtection q bs × ByParam needs_token bs q q.param r)
    ⊎ ((s : ℕ) × RefusedProtection bs (errors.Status s) × (r ≡ readings.Refused s))

-- ---- each, by the command byte: clientPIN (6), makeCredential (1), getAssertion (2), and others

pub record ReadsAs (is_set : Bool) (bs : List ℕ) (r : Reading) : Type 0 where
  pub command : command_of bs ≡ Some 6 → ReadsCommand bs r
  pub creation : command_of bs ≡ Some 1 → ReadsParam is_set bs r
  pub assertion : command_of bs ≡ Some 2 → ReadsParam false bs r
  pub other : command_of bs ≢ Some 6 → command_of bs ≢ Some 1 → command_of bs ≢ Some 2 → r ≡ readings.AsItIs
