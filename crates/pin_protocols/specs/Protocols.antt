-- PIN/UV auth protocols one (CTAP 2.1, section 6.5.6) and two (6.5.7): which bytes are computed of what.
use Rattle.std.specs.Prelude.{◌≡◌, ℕ, ◌==◌, ◌||◌, true, nat_le, List, [], ◌++◌, take, drop, replicate, Bool, Option, Some, None, codes, ◌⊎◌, if◌then◌else◌}
use Rattle.sha2.specs.Sha256.{sha256}
use Rattle.pin_client_messages.specs.Commands.{PublicPoint}
use Rattle.pin_protocols.specs.declared.ask.Operation.TheVariants as operations
use Rattle.pin_protocols.specs.declared.protocol.Protocol.{Protocol}
use Rattle.pin_protocols.specs.declared.protocol.Protocol.TheVariants as protocols
use Rattle.pin_protocols.specs.Asks.{Asked, asked, Answered}

abbrev pub number : Protocol → ℕ
number protocols.One = 1
number protocols.Two = 2

abbrev pub protocol_of : ℕ → Option Protocol
protocol_of n = if n == 1 then Some protocols.One else if n == 2 then Some protocols.Two else None

-- ---- key agreement (6.5.6, encapsulate): the client's public key, and Z, the coordinate x of the product

abbrev pub agreement_ask : PublicPoint → Asked
agreement_ask peer = asked operations.Agree [] [] (peer.x ++ peer.y)

-- x and y of the client's public key have 32 bytes each, and Z is what follows
pub record HasParts (answer : List ℕ) (own : PublicPoint) (z : List ℕ) : Type 0 where
  pub x : own.x ≡ take 32 answer
  pub y : own.y ≡ take 32 (drop 32 answer)
  pub rest : z ≡ drop 32 (drop 32 answer)

abbrev pub IsAgreement : List (Asked × List ℕ) → PublicPoint → PublicPoint → List ℕ → Type 0
IsAgreement es peer own z = (answer : List ℕ) × Answered es (agreement_ask peer) answer × HasParts answer own z

-- the authenticator's end (6.5.6, decapsulate): the product by its own private key, for which these bytes stand
abbrev pub product_ask : List ℕ → PublicPoint → Asked
product_ask key peer = asked operations.Agree key [] (peer.x ++ peer.y)

abbrev pub IsProduct : List (Asked × List ℕ) → List ℕ → PublicPoint → List ℕ → Type 0
IsProduct es key peer z = (answer : List ℕ) × Answered es (product_ask key peer) answer × (z ≡ drop 32 (drop 32 answer))

-- ---- the shared secret (6.5.6, kdf; 6.5.7, kdf)

pub record SharedSecret : Type 0 where
  pub hmac : List ℕ
  pub aes : List ℕ

abbrev pub derivation : List ℕ → List ℕ → Asked
derivation z info = asked operations.Derive z [] info

abbrev pub hmac_info : List ℕ
hmac_info = codes "CTAP2 HMAC key"

abbrev pub aes_info : List ℕ
aes_info = codes "CTAP2 AES key"

-- by protocol one SHA-256 of Z, for both; by two HKDF-SHA-256 of Z, with an info for each
abbrev pub IsSecret : List (Asked × List ℕ) → Protocol → List ℕ → SharedSecret → Type 0
IsSecret es protocols.One z s = (s.hmac ≡ sha256 z) × (s.aes ≡ sha256 z)
IsSecret es protocols.Two z s = Answered es (derivation z hmac_info) s.hmac × Answered es (derivation z aes_info) s.aes

-- what is asked for it: the second key when the first is there
abbrev pub IsDerivation : List (Asked × List ℕ) → Protocol → List ℕ → Asked → Type 0
IsDerivation es protocols.One z a = ⊥
IsDerivation es protocols.Two z a =
    (a ≡ derivation z hmac_info) ⊎ ((hmac : List ℕ) × Answered es (derivation z hmac_info) hmac × (a ≡ derivation z aes_info))

-- ---- encrypt, decrypt and authenticate

-- AES-256-CBC: by protocol one the IV is 16 zeros; by two it is random, and stands in front of the ciphertext
abbrev pub encryption : Protocol → List ℕ → List ℕ → Asked
encryption protocols.One aes text = asked operations.Encrypt aes (replicate 16 0) text
encryption protocols.Two aes text = asked operations.Seal aes [] text

abbrev pub decryption : Protocol → List ℕ → List ℕ → Asked
decryption protocols.One aes bytes = asked operations.Decrypt aes (replicate 16 0) bytes
decryption protocols.Two aes bytes = asked operations.Decrypt aes (take 16 bytes) (drop 16 bytes)

-- by protocol two a ciphertext has an IV of 16 bytes in front
abbrev pub has_iv : Protocol → ℕ → Bool
has_iv protocols.One n = true
has_iv protocols.Two n = nat_le 16 n

-- HMAC-SHA-256: by protocol one its first 16 bytes, by two all 32
abbrev pub authentication : List ℕ → List ℕ → Asked
authentication key message = asked operations.Authenticate key [] message

abbrev pub shortened : Protocol → List ℕ → List ℕ
shortened protocols.One tag = take 16 tag
shortened protocols.Two tag = tag

abbrev pub Authenticates : List (Asked × List ℕ) → Protocol → List ℕ → List ℕ → List ℕ → Type 0
Authenticates es protocol key message param = (tag : List ℕ) × Answered es (authentication key message) tag × (param ≡ shortened protocol tag)

-- an encrypted token has 16 or 32 bytes by protocol one, and by two an IV and 32
abbrev pub is_token_size : Protocol → ℕ → Bool
is_token_size protocols.One n = n == 16 || n == 32
is_token_size protocols.Two n = n == 48
