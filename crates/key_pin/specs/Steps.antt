-- The subcommands of clientPIN, each by its steps in order: CTAP 2.1, sections 6.5.5.2 to 6.5.5.7, statuses of section 8.2.
use Rattle.std.specs.Prelude.{◌==◌, ℕ, ℤ, pos, negsuc, List, ◌++◌, length, Bool, false, ◌&&◌, nat_le, nat_lt, Option, Some, None, Result, Ok, Err, if◌then◌else◌}
use Rattle.std.specs.Str.{bytes_eq}
use Rattle.pin_client_messages.specs.Commands.{PublicPoint}
use Rattle.pin_client_messages.specs.Replies.{ToldKey}
use Rattle.pin_protocols.specs.declared.protocol.Protocol.{Protocol}
use Rattle.pin_protocols.specs.Asks.{Asked}
use Rattle.pin_protocols.specs.Flows.{Scope}
use Rattle.pin_protocols.specs.Protocols.{SharedSecret, protocol_of}
use Rattle.key_pin.specs.declared.state.KeyPair.{KeyPair}
use Rattle.key_pin.specs.declared.words.PinWords.{PinWords}
use Rattle.key_pin.specs.Host.{Ending, asks, refused, ◌>>=◌, product, secret, encrypted, decrypted, verified}
use Rattle.key_pin.specs.Pins.{sealed_size, new_hash}
use Rattle.key_pin.specs.Query.{Query}
use Rattle.key_pin.specs.State.{PinState, pair_of, with_pair, counted}
use Rattle.key_pin.specs.Outcomes.{Outcome, retries_told, key_told, pin_set, pin_refused, token_told, mismatch, Verdict}

-- ---- what several have in common

-- a member that must be there: 0x14
abbrev pub needed : {A : Type 0} → Option A → Result A Ending
needed (Some a) = Ok a
needed None = Err (refused 0x14)

-- protocols 1 and 2: 0x02
abbrev pub known : Option Protocol → Result Protocol Ending
known (Some protocol) = Ok protocol
known None = Err (refused 0x02)

abbrev pub known_protocol : ℕ → Result Protocol Ending
known_protocol n = known (protocol_of n)

abbrev pub is_pos : ℕ → ℤ → Bool
is_pos n (pos m) = m == n
is_pos n (negsuc m) = false

abbrev pub is_negsuc : ℕ → ℤ → Bool
is_negsuc n (pos m) = false
is_negsuc n (negsuc m) = m == n

-- a public key for the key agreement (6.5.6): kty 2, alg -25, crv 1, and 32 bytes for each coordinate
abbrev pub is_agreement_key : ToldKey → Bool
is_agreement_key k = (is_pos 2 k.kty && is_negsuc 24 k.alg && is_pos 1 k.crv) && (length k.x == 32 && length k.y == 32)

unfoldable pub client_point : ToldKey → Result PublicPoint Ending
client_point k = if is_agreement_key k then Ok (record { x = k.x; y = k.y }) else Err (refused 0x02)

-- the shared secret (decapsulate): 0x02 where the key is no point
unfoldable pub shared : List (Asked × List ℕ) → KeyPair → Protocol → ToldKey → Result SharedSecret Ending
shared es pair protocol told = do
  point ← client_point told
  z ← product es pair.key point
  secret es protocol z

-- no PIN: 0x35
abbrev pub pin_of : Option (List ℕ) → Result (List ℕ) Ending
pin_of (Some hash) = Ok hash
pin_of None = Err (refused 0x35)

-- no retry is left: 0x32; three wrong PINs in a row: 0x34; asked of a new try alone
abbrev pub may_try : PinState → Result (Unit {0}) Ending
may_try s =
    if s.counted then Ok tt
    else if s.retries == 0 then Err (refused 0x32)
    else if nat_le 3 s.mismatches then Err (refused 0x34)
    else Ok tt

unfoldable pub tried_pin : PinState → Result (List ℕ) Ending
tried_pin s = do
  hash ← pin_of s.pin
  free ← may_try s
  Ok hash

-- a try of a PIN as it begins: what it is compared with, and what it is compared by
pub record Try : Type 0 where
  pub protocol : Protocol
  pub secret : SharedSecret
  pub pin_hash : List ℕ
  pub pin : List ℕ

-- whether pinHashEnc decrypts to the hash that is kept; by another size it does not
unfoldable pub is_right : List (Asked × List ℕ) → Try → Result Bool Ending
is_right es t =
    if length t.pin_hash == sealed_size t.protocol 16
    then (do
      hash ← decrypted es t.protocol t.secret t.pin_hash
      Ok (bytes_eq hash t.pin))
    else Ok false

-- a request that tries a PIN: it is counted before anything is made of pinHashEnc
abbrev pub counting : {A : Type 0} → Result A Ending → (A → Result Outcome Ending) → PinState → Verdict
counting (Ok begun) compared s = record { outcome = compared begun; state = counted s }
counting (Err e) compared s = record { outcome = Err e; state = s }

-- ---- getKeyAgreement (6.5.5.4)

unfoldable pub key_agreement : Query → Result Outcome Ending
key_agreement q = do
  number ← needed q.protocol
  protocol ← known_protocol number
  Ok key_told

-- ---- setPIN (6.5.5.5): 0x33 where a PIN is set

abbrev pub unset : Option (List ℕ) → Result (Unit {0}) Ending
unset None = Ok tt
unset (Some hash) = Err (refused 0x33)

unfoldable pub set_pin : List (Asked × List ℕ) → KeyPair → Query → PinState → Result Outcome Ending
set_pin es pair q s = do
  number ← needed q.protocol
  told ← needed q.key
  new_pin ← needed q.new_pin
  param ← needed q.param
  protocol ← known_protocol number
  free ← unset s.pin
  shared ← shared es pair protocol told
  authentic ← verified es protocol shared.hmac new_pin param
  hash ← new_hash es protocol shared new_pin
  Ok (pin_set hash)

-- ---- changePIN (6.5.5.6)

unfoldable pub change_begun : List (Asked × List ℕ) → KeyPair → Query → PinState → Result (Try × List ℕ) Ending
change_begun es pair q s = do
  number ← needed q.protocol
  told ← needed q.key
  new_pin ← needed q.new_pin
  pin_hash ← needed q.pin_hash
  param ← needed q.param
  protocol ← known_protocol number
  pin ← tried_pin s
  shared ← shared es pair protocol told
  authentic ← verified es protocol shared.hmac (new_pin ++ pin_hash) param
  Ok (record { protocol = protocol; secret = shared; pin_hash = pin_hash; pin = pin }, new_pin)

-- the old PIN was right: a new one that is refused leaves it
abbrev pub replaced : Result (List ℕ) Ending → Result Outcome Ending
replaced (Ok hash) = Ok (pin_set hash)
replaced (Err (asks a)) = Err (asks a)
replaced (Err (refused status)) = Ok (pin_refused status)

unfoldable pub changed : List (Asked × List ℕ) → Try × List ℕ → Result Outcome Ending
changed es (t, new_pin) = do
  right ← is_right es t
  if right then replaced (new_hash es t.protocol t.secret new_pin) else Ok mismatch

-- ---- getPinToken (6.5.5.7.1) and getPinUvAuthTokenUsingPinWithPermissions (6.5.5.7.2)

unfoldable pub try_begun : List (Asked × List ℕ) → KeyPair → Protocol → ToldKey → List ℕ → PinState → Result Try Ending
try_begun es pair protocol told pin_hash s = do
  pin ← tried_pin s
  shared ← shared es pair protocol told
  Ok (record { protocol = protocol; secret = shared; pin_hash = pin_hash; pin = pin })

-- permissions and rpId are not its members: 0x02
abbrev pub without_scope : Option ℕ → Option (List ℕ) → Result (Unit {0}) Ending
without_scope None None = Ok tt
without_scope _ _ = Err (refused 0x02)

-- it gives the permissions 1, makeCredential, and 2, getAssertion
unfoldable pub pin_token_begun : List (Asked × List ℕ) → KeyPair → Query → PinState → Result (Try × Scope) Ending
pin_token_begun es pair q s = do
  number ← needed q.protocol
  told ← needed q.key
  pin_hash ← needed q.pin_hash
  bare ← without_scope q.permissions q.rp_id
  protocol ← known_protocol number
  begun ← try_begun es pair protocol told pin_hash s
  Ok (begun, record { permissions = 3; rp_id = None })

-- no permission: 0x02; another than 1 and 2: 0x40; for these an rp id is needed: 0x14
abbrev pub allowed_permissions : ℕ → Result (Unit {0}) Ending
allowed_permissions n = if n == 0 then Err (refused 0x02) else if nat_lt 3 n then Err (refused 0x40) else Ok tt

unfoldable pub token_begun : List (Asked × List ℕ) → KeyPair → Query → PinState → Result (Try × Scope) Ending
token_begun es pair q s = do
  number ← needed q.protocol
  told ← needed q.key
  pin_hash ← needed q.pin_hash
  permissions ← needed q.permissions
  protocol ← known_protocol number
  allowed ← allowed_permissions permissions
  rp_id ← needed q.rp_id
  begun ← try_begun es pair protocol told pin_hash s
  Ok (begun, record { permissions = permissions; rp_id = Some rp_id })

unfoldable pub token_given : List (Asked × List ℕ) → Protocol → SharedSecret → List ℕ → Scope → Result Outcome Ending
token_given es protocol s bytes scope = do
  sealed ← encrypted es protocol s bytes
  Ok (token_told (record { protocol = protocol; bytes = bytes; permissions = scope.permissions; rp_id = scope.rp_id }) sealed)

-- the host's next token, encrypted, to who knows the PIN
unfoldable pub token : List (Asked × List ℕ) → PinWords → Try × Scope → Result Outcome Ending
token es words (t, scope) = do
  right ← is_right es t
  if right then token_given es t.protocol t.secret words.token scope else Ok mismatch

-- ---- a request in a state with a key pair, by the number of its subcommand; others: 0x3E

unfoldable pub judged_by : ℕ → List (Asked × List ℕ) → PinWords → KeyPair → Query → PinState → Verdict
judged_by n es words pair q s =
    if n == 1 then record { outcome = Ok retries_told; state = s }
    else if n == 2 then record { outcome = key_agreement q; state = s }
    else if n == 3 then record { outcome = set_pin es pair q s; state = s }
    else if n == 4 then counting (change_begun es pair q s) (changed es) s
    else if n == 5 then counting (pin_token_begun es pair q s) (token es words) s
    else if n == 9 then counting (token_begun es pair q s) (token es words) s
    else record { outcome = Err (refused 0x3e); state = s }

abbrev pub judged : List (Asked × List ℕ) → PinWords → KeyPair → Query → PinState → Verdict
judged es words pair q s = judged_by q.subcommand es words pair q s

-- a request, in whatever state it finds
abbrev pub verdict : List (Asked × List ℕ) → PinWords → Query → PinState → Verdict
verdict es words q s = judged es words (pair_of words s) q (with_pair words s)
