-- What is computed of a request by the host's answers: CTAP 2.1, sections 6.5.6 and 6.5.7.
use Rattle.std.specs.Prelude.{ℕ, ◌==◌, List, length, drop, Option, Some, None, Result, Ok, Err, if◌then◌else◌}
use Rattle.std.specs.Str.{bytes_eq}
use Rattle.sha2.specs.Sha256.{sha256}
use Rattle.pin_client_messages.specs.Commands.{PublicPoint}
use Rattle.pin_protocols.specs.declared.protocol.Protocol.{Protocol}
use Rattle.pin_protocols.specs.declared.protocol.Protocol.TheVariants as protocols
use Rattle.pin_protocols.specs.Asks.{Asked, answer_of, answer_size}
use Rattle.pin_protocols.specs.Protocols.{SharedSecret, product_ask, derivation, hmac_info, aes_info, encryption, decryption, authentication, shortened}

-- a step that does not go on: the host is asked for this, or this status is the reply (section 8.2)
pub data Ending : Type 0 where
  asks : Asked → Ending
  refused : ℕ → Ending

-- steps in order: the first that does not go on decides
infixl 10 ◌>>=◌
abbrev pub ◌>>=◌ : {A B : Type 0} → Result A Ending → (A → Result B Ending) → Result B Ending
(Ok x) >>= f = f x
(Err e) >>= f = Err e

abbrev pub sized_answer : ℕ → ℕ → Asked → Option (List ℕ) → Result (List ℕ) Ending
sized_answer size status a None = Err (asks a)
sized_answer size status a (Some b) = if length b == size then Ok b else Err (refused status)

-- the host's answer to this; it is asked for where there is none, and 0x7F where it has another size
unfoldable pub answer : List (Asked × List ℕ) → Asked → Result (List ℕ) Ending
answer es a = sized_answer (answer_size a.operation (length a.text)) 0x7f a (answer_of es a)

-- Z of decapsulate (6.5.6): of 96 bytes what follows x and y of the own public key; by another size the host says that
-- the client's point is none of the curve: 0x02
unfoldable pub product : List (Asked × List ℕ) → List ℕ → PublicPoint → Result (List ℕ) Ending
product es key peer = do
  b ← sized_answer 96 0x02 (product_ask key peer) (answer_of es (product_ask key peer))
  Ok (drop 32 (drop 32 b))

-- kdf (6.5.6: SHA-256 of Z; 6.5.7: HKDF-SHA-256 of Z, with an info for each key)
unfoldable pub secret : List (Asked × List ℕ) → Protocol → List ℕ → Result SharedSecret Ending
secret es protocols.One z = Ok (record { hmac = sha256 z; aes = sha256 z })
secret es protocols.Two z = do
  hmac ← answer es (derivation z hmac_info)
  aes ← answer es (derivation z aes_info)
  Ok (record { hmac = hmac; aes = aes })

abbrev pub encrypted : List (Asked × List ℕ) → Protocol → SharedSecret → List ℕ → Result (List ℕ) Ending
encrypted es protocol s text = answer es (encryption protocol s.aes text)

abbrev pub decrypted : List (Asked × List ℕ) → Protocol → SharedSecret → List ℕ → Result (List ℕ) Ending
decrypted es protocol s bytes = answer es (decryption protocol s.aes bytes)

-- verify: 0x33 where the param is not this message authenticated by this key
unfoldable pub verified : List (Asked × List ℕ) → Protocol → List ℕ → List ℕ → List ℕ → Result (Unit {0}) Ending
verified es protocol key message param = do
  tag ← answer es (authentication key message)
  if bytes_eq (shortened protocol tag) param then Ok tt else Err (refused 0x33)
