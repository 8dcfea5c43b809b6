-- The requests of clientPIN that a client makes of a PIN, and what it makes of a token (CTAP 2.1, sections 6.5.5.5 to
-- 6.5.5.7, 6.1 and 6.2). A PIN is in no message but as its hash or padded, and both encrypted.
use Rattle.std.specs.Prelude.{◌≡◌, ℕ, List, ◌++◌, length, true, false, Option, Some, None, ◌⊎◌}
use Rattle.pin_client_messages.specs.Commands.{PublicPoint, PinRequest, Subcommand, set_pin, change_pin, pin_token, token_by_pin, token_by_uv}
use Rattle.pin_protocols.specs.declared.pin.PinFault.{PinFault}
use Rattle.pin_protocols.specs.declared.protocol.Protocol.{Protocol}
use Rattle.pin_protocols.specs.declared.stop.Stop.{Stop}
use Rattle.pin_protocols.specs.declared.stop.Stop.TheVariants as stops
use Rattle.pin_protocols.specs.Asks.{Asked, Answered, Stops}
use Rattle.pin_protocols.specs.Pins.{padded, pin_hash}
use Rattle.pin_protocols.specs.Protocols.{number, agreement_ask, IsAgreement, SharedSecret, IsSecret, IsDerivation, encryption, decryption, authentication}
use Rattle.pin_protocols.specs.Protocols.{Authenticates, is_token_size}

-- ---- what was agreed with the key's point: the client's public key and the shared secret

abbrev pub IsSession : List (Asked × List ℕ) → Protocol → PublicPoint → PublicPoint → SharedSecret → Type 0
IsSession es protocol peer own s = (z : List ℕ) × IsAgreement es peer own z × IsSecret es protocol z s

-- what is asked for it: first the agreement, and then what derives the secret
abbrev pub IsSessionAsk : List (Asked × List ℕ) → Protocol → PublicPoint → Asked → Type 0
IsSessionAsk es protocol peer a =
    (a ≡ agreement_ask peer) ⊎ ((own : PublicPoint) × (z : List ℕ) × IsAgreement es peer own z × IsDerivation es protocol z a)

-- what is asked for with the secret
abbrev pub AsksWith : List (Asked × List ℕ) → Protocol → PublicPoint → (SharedSecret → Asked → Type 0) → Asked → Type 0
AsksWith es protocol peer P a = IsSessionAsk es protocol peer a ⊎ ((own : PublicPoint) × (s : SharedSecret) × IsSession es protocol peer own s × P s a)

-- ---- requests

-- the bytes of a subcommand that is one of these
abbrev pub Requests : Protocol → (Subcommand → Type 0) → List ℕ → Type 0
Requests protocol C bs = (c : Subcommand) × C c × PinRequest (number protocol) c bs

-- why there are none: a stop at what is asked for, a PIN that can't be set, or that no bytes are the subcommand
abbrev pub NoRequest : List (Asked × List ℕ) → Protocol → (Asked → Type 0) → (PinFault → Type 0) → (Subcommand → Type 0) → Stop → Type 0
NoRequest es protocol P F C stops.Memory = Unit {0}
NoRequest es protocol P F C (stops.Asks a) = Stops es P (stops.Asks a)
NoRequest es protocol P F C stops.BadAnswer = Stops es P stops.BadAnswer
NoRequest es protocol P F C (stops.Pin f) = F f
NoRequest es protocol P F C stops.Unfit = (c : Subcommand) × C c × ((bs : List ℕ) → PinRequest (number protocol) c bs → ⊥)
NoRequest es protocol P F C stops.BadToken = ⊥

-- ---- a token by PIN (6.5.5.7.2): with permissions and an rp id, or by getPinToken (6.5.5.7.1) without

pub record Scope : Type 0 where
  pub permissions : ℕ
  pub rp_id : Option (List ℕ)

abbrev pub by_pin : PublicPoint → List ℕ → Option Scope → Subcommand
by_pin own sealed None = pin_token own sealed
by_pin own sealed (Some scope) = token_by_pin own sealed scope.permissions scope.rp_id

abbrev pub IsTokenByPin : List (Asked × List ℕ) → Protocol → PublicPoint → List ℕ → Option Scope → Subcommand → Type 0
IsTokenByPin es protocol peer pin scope c =
    (own : PublicPoint) × (s : SharedSecret) × (sealed : List ℕ) × IsSession es protocol peer own s
    × Answered es (encryption protocol s.aes (pin_hash pin)) sealed × (c ≡ by_pin own sealed scope)

abbrev pub IsTokenAsk : List (Asked × List ℕ) → Protocol → PublicPoint → List ℕ → Asked → Type 0
IsTokenAsk es protocol peer pin = AsksWith es protocol peer (λ s b. b ≡ encryption protocol s.aes (pin_hash pin))

-- ---- a token by the key's own verification (6.5.5.7.3)

abbrev pub IsTokenByUv : List (Asked × List ℕ) → Protocol → PublicPoint → Scope → Subcommand → Type 0
IsTokenByUv es protocol peer scope c =
    (own : PublicPoint) × (s : SharedSecret) × IsSession es protocol peer own s × (c ≡ token_by_uv own scope.permissions scope.rp_id)

-- ---- a first PIN (6.5.5.5): pinUvAuthParam is over newPinEnc

abbrev pub IsSetPin : List (Asked × List ℕ) → Protocol → PublicPoint → List ℕ → Subcommand → Type 0
IsSetPin es protocol peer new c =
    (own : PublicPoint) × (s : SharedSecret) × (sealed : List ℕ) × (param : List ℕ) × IsSession es protocol peer own s
    × Answered es (encryption protocol s.aes (padded new)) sealed × Authenticates es protocol s.hmac sealed param
    × (c ≡ set_pin own param sealed)

abbrev pub IsSetPinAsk : List (Asked × List ℕ) → Protocol → PublicPoint → List ℕ → Asked → Type 0
IsSetPinAsk es protocol peer new = AsksWith es protocol peer (λ s b.
    (b ≡ encryption protocol s.aes (padded new))
    ⊎ ((sealed : List ℕ) × Answered es (encryption protocol s.aes (padded new)) sealed × (b ≡ authentication s.hmac sealed)))

-- ---- a PIN for another (6.5.5.6): pinUvAuthParam is over newPinEnc and then pinHashEnc

abbrev pub IsChangePin : List (Asked × List ℕ) → Protocol → PublicPoint → List ℕ → List ℕ → Subcommand → Type 0
IsChangePin es protocol peer pin new c =
    (own : PublicPoint) × (s : SharedSecret) × (sealed : List ℕ) × (hash : List ℕ) × (param : List ℕ) × IsSession es protocol peer own s
    × Answered es (encryption protocol s.aes (padded new)) sealed × Answered es (encryption protocol s.aes (pin_hash pin)) hash
    × Authenticates es protocol s.hmac (sealed ++ hash) param × (c ≡ change_pin own param sealed hash)

abbrev pub IsChangePinAsk : List (Asked × List ℕ) → Protocol → PublicPoint → List ℕ → List ℕ → Asked → Type 0
IsChangePinAsk es protocol peer pin new = AsksWith es protocol peer (λ s b.
    (b ≡ encryption protocol s.aes (padded new)) ⊎ (b ≡ encryption protocol s.aes (pin_hash pin))
    ⊎ ((sealed : List ℕ) × (hash : List ℕ) × Answered es (encryption protocol s.aes (padded new)) sealed
    × Answered es (encryption protocol s.aes (pin_hash pin)) hash × (b ≡ authentication s.hmac (sealed ++ hash))))

-- ---- the token that a key gave, decrypted

abbrev pub IsToken : List (Asked × List ℕ) → Protocol → PublicPoint → List ℕ → List ℕ → Type 0
IsToken es protocol peer told token =
    (is_token_size protocol (length told) ≡ true) × (own : PublicPoint) × (s : SharedSecret) × IsSession es protocol peer own s
    × Answered es (decryption protocol s.aes told) token

abbrev pub NoToken : List (Asked × List ℕ) → Protocol → PublicPoint → List ℕ → Stop → Type 0
NoToken es protocol peer told stops.Memory = Unit {0}
NoToken es protocol peer told (stops.Asks a) = Stops es (AsksWith es protocol peer (λ s b. b ≡ decryption protocol s.aes told)) (stops.Asks a)
NoToken es protocol peer told stops.BadAnswer = Stops es (AsksWith es protocol peer (λ s b. b ≡ decryption protocol s.aes told)) stops.BadAnswer
NoToken es protocol peer told (stops.Pin f) = ⊥
NoToken es protocol peer told stops.Unfit = ⊥
NoToken es protocol peer told stops.BadToken = is_token_size protocol (length told) ≡ false
