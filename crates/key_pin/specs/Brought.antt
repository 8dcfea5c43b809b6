-- What a request of clientPIN brings, by the host's answers: CTAP 2.1, sections 6.5.1 and 6.5.5 to 6.5.7. No step is cited here.
use Rattle.std.specs.Prelude.{◌≡◌, ◌<◌, ◌≤◌, ◌+◌, ◌⊎◌, ℕ, List, ◌++◌, length, replicate, true, Option, Some, None}
use Rattle.pin_client_messages.specs.Replies.{IsPoint, ToldKey}
use Rattle.pin_protocols.specs.Asks.{Answered, Asked}
use Rattle.pin_protocols.specs.Pins.{code_points, pin_hash}
use Rattle.pin_protocols.specs.Protocols.{Authenticates, IsProduct, IsSecret, SharedSecret, decryption, encryption, number}
use Rattle.pin_protocols.specs.declared.protocol.Protocol.{Protocol}
use Rattle.pin_protocols.specs.declared.protocol.Protocol.TheVariants as protocols
use Rattle.key_pin.specs.declared.state.KeyPair.{KeyPair}
use Rattle.key_pin.specs.declared.words.PinWords.{PinWords}
use Rattle.key_pin.specs.Outcomes.{Outcome, key_told, mismatch, pin_refused, pin_set, retries_told, token_told}
use Rattle.key_pin.specs.Query.{Query}
use Rattle.key_pin.specs.State.{PinState, PinToken}

-- ---- the shared secret

-- the key's pair: the one that it has, or the host's next where it has none (initialize)
abbrev pub IsPair : PinWords → Option KeyPair → KeyPair → Type 0
IsPair words None pair = pair ≡ record { key = words.secret; x = words.x; y = words.y }
IsPair words (Some own) pair = pair ≡ own

-- what the host makes of the point in this request and the key's pair (decapsulate)
pub record IsShared (es : List (Asked × List ℕ)) (pair : KeyPair) (q : Query) (protocol : Protocol) (secret : SharedSecret) : Type 0 where
  pub protocol_is : q.protocol ≡ Some (number protocol)
  pub key : ToldKey
  pub brought : q.key ≡ Some key
  pub point : IsPoint key
  pub x : length key.x ≡ 32
  pub y : length key.y ≡ 32
  pub z : List ℕ
  pub product : IsProduct es pair.key (record { x = key.x; y = key.y }) z
  pub agreed : IsSecret es protocol z secret

-- ---- what is encrypted and authenticated under it

-- by protocol two an IV of 16 bytes stands in front of a ciphertext
abbrev pub with_iv : Protocol → ℕ → ℕ
with_iv protocols.One n = n
with_iv protocols.Two n = n + 16

-- pinHashEnc of this request decrypts to this
pub record BringsHash (es : List (Asked × List ℕ)) (q : Query) (protocol : Protocol) (secret : SharedSecret) (hash : List ℕ) : Type 0 where
  pub sealed : List ℕ
  pub brought : q.pin_hash ≡ Some sealed
  pub size : length sealed ≡ with_iv protocol 16
  pub decrypted : Answered es (decryption protocol secret.aes sealed) hash

-- newPinEnc of this request decrypts to a PIN that zeros pad, of at least 4 code points and at most 63 bytes; and the hash is that PIN's
pub record BringsNewPin (es : List (Asked × List ℕ)) (q : Query) (protocol : Protocol) (secret : SharedSecret) (hash : List ℕ) : Type 0 where
  pub sealed : List ℕ
  pub brought : q.new_pin ≡ Some sealed
  pub size : length sealed ≡ with_iv protocol 64
  pub pin : List ℕ
  pub zeros : ℕ
  pub decrypted : Answered es (decryption protocol secret.aes sealed) (pin ++ replicate zeros 0)
  pub points : 4 ≤ code_points pin
  pub bytes : length pin ≤ 63
  pub hash_is : hash ≡ pin_hash pin

-- pinUvAuthParam of this request authenticates the message (verify)
pub record BringsParam (es : List (Asked × List ℕ)) (q : Query) (protocol : Protocol) (secret : SharedSecret) (message : List ℕ) : Type 0 where
  pub param : List ℕ
  pub brought : q.param ≡ Some param
  pub authenticates : Authenticates es protocol secret.hmac message param

-- ---- the right PIN

-- the host's answer to the decryption of this request's pinHashEnc, under the secret of this request's point and the key's pair, is the hash
-- that is kept; and a PIN may be tried
pub record IsTried (es : List (Asked × List ℕ)) (words : PinWords) (q : Query) (s : PinState) : Type 0 where
  pub pair : KeyPair
  pub is_pair : IsPair words s.pair pair
  pub protocol : Protocol
  pub secret : SharedSecret
  pub shared : IsShared es pair q protocol secret
  pub hash : List ℕ
  pub kept : s.pin ≡ Some hash
  pub brings : BringsHash es q protocol secret hash
  pub free : (s.counted ≡ true) ⊎ ((0 < s.retries) × (s.mismatches < 3))

-- ---- what it comes to

-- the permissions and the rp id of a token: makeCredential (1) and getAssertion (2) and no rp id by subcommand 5, and those that are asked
-- for by 9
abbrev pub IsScoped : Query → ℕ → Option (List ℕ) → Type 0
IsScoped q permissions rp_id =
    ((q.subcommand ≡ 5) × (permissions ≡ 3) × (rp_id ≡ None))
    ⊎ ((q.subcommand ≡ 9) × (q.permissions ≡ Some permissions) × (0 < permissions) × (permissions ≤ 3)
    × ((own : List ℕ) × (q.rp_id ≡ Some own) × (rp_id ≡ Some own)))

-- a token is the host's, and is answered encrypted under the same secret
pub record IsGiven (es : List (Asked × List ℕ)) (words : PinWords) (q : Query) (s : PinState) (token : PinToken) (sealed : List ℕ) : Type 0 where
  pub tried : IsTried es words q s
  pub bytes : token.bytes ≡ words.token
  pub protocol : token.protocol ≡ tried.protocol
  pub told : Answered es (encryption tried.protocol tried.secret.aes words.token) sealed
  pub scoped : IsScoped q token.permissions token.rp_id

-- a first PIN
pub record IsFirst (es : List (Asked × List ℕ)) (words : PinWords) (q : Query) (s : PinState) (hash : List ℕ) : Type 0 where
  pub subcommand : q.subcommand ≡ 3
  pub none : s.pin ≡ None
  pub pair : KeyPair
  pub is_pair : IsPair words s.pair pair
  pub protocol : Protocol
  pub secret : SharedSecret
  pub shared : IsShared es pair q protocol secret
  pub new : BringsNewPin es q protocol secret hash
  pub authentic : BringsParam es q protocol secret new.sealed

-- the old PIN was right, in a request whose pinUvAuthParam authenticates both
pub record IsChange (es : List (Asked × List ℕ)) (words : PinWords) (q : Query) (s : PinState) : Type 0 where
  pub subcommand : q.subcommand ≡ 4
  pub tried : IsTried es words q s
  pub new_pin : List ℕ
  pub brought : q.new_pin ≡ Some new_pin
  pub authentic : BringsParam es q tried.protocol tried.secret (new_pin ++ tried.brings.sealed)

abbrev pub IsChanged : List (Asked × List ℕ) → PinWords → Query → PinState → List ℕ → Type 0
IsChanged es words q s hash = (c : IsChange es words q s) × BringsNewPin es q c.tried.protocol c.tried.secret hash

abbrev pub ComesOf : List (Asked × List ℕ) → PinWords → Query → PinState → Outcome → Type 0
ComesOf es words q s retries_told = q.subcommand ≡ 1
ComesOf es words q s key_told = q.subcommand ≡ 2
ComesOf es words q s (pin_set hash) = IsFirst es words q s hash ⊎ IsChanged es words q s hash
ComesOf es words q s (pin_refused status) = IsChange es words q s
ComesOf es words q s (token_told token sealed) = IsGiven es words q s token sealed
ComesOf es words q s mismatch = ((q.subcommand ≡ 4) ⊎ ((q.subcommand ≡ 5) ⊎ (q.subcommand ≡ 9))) × (IsTried es words q s → ⊥)
