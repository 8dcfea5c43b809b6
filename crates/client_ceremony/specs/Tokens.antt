-- PIN/UV auth tokens (CTAP 2.1, section 6.5.5.7), and what a command has of the user's verification.
use Rattle.std.specs.Prelude.{◌≡◌, ℕ, ◌+◌, ◌==◌, List, Bool, true, false, Option, Some, None, codes, ◌⊎◌, if◌then◌else◌}
use Rattle.ctap_open_replies.specs.Replies.{Info}
use Rattle.ctap_open_requests.specs.Requests.{Auth}
use Rattle.ctap_open_requests.specs.declared.error.RequestError.TheVariants as requests
use Rattle.pin_client_messages.specs.Commands.{PinRequest, PublicPoint, Subcommand, key_agreement, pin_retries}
use Rattle.pin_client_messages.specs.Replies.{IsPoint, TellsPin, ToldKey}
use Rattle.pin_client_messages.specs.Replies.{Told as PinReply}
use Rattle.pin_protocols.specs.Asks.{Stops}
use Rattle.pin_protocols.specs.Flows.{IsSessionAsk, IsToken, IsTokenAsk, IsTokenByPin, IsTokenByUv, NoRequest, NoToken, Requests, Scope}
use Rattle.pin_protocols.specs.Protocols.{Authenticates, authentication, number}
use Rattle.pin_protocols.specs.declared.protocol.Protocol.{Protocol}
use Rattle.client_ceremony.specs.Exchanges.{Ends, StopsBy, Then, Told, Untold}
use Rattle.client_ceremony.specs.Facts.{Facts}
use Rattle.client_ceremony.specs.Way.{is_on, protocol_told}
use Rattle.client_ceremony.specs.declared.halt.Halt.{Halt}
use Rattle.client_ceremony.specs.declared.halt.Halt.TheVariants as halts
use Rattle.client_ceremony.specs.declared.refusal.Refusal.{Refusal}
use Rattle.client_ceremony.specs.declared.refusal.Refusal.TheVariants as refusals
use Rattle.client_ceremony.specs.declared.step.Step.TheVariants as steps
use Rattle.client_ceremony.specs.declared.way.Way.{Way}
use Rattle.client_ceremony.specs.declared.way.Way.TheVariants as ways

-- ---- subcommands that take nothing

abbrev pub Asking : Protocol → Subcommand → List ℕ → Type 0
Asking p c m = PinRequest (number p) c m

-- no bytes are it
abbrev pub NoBytes : Protocol → Subcommand → Refusal → Type 0
NoBytes p c f = (f ≡ refusals.Request requests.Unfit) × ((m : List ℕ) → Asking p c m → ⊥)

abbrev pub PinTold : Facts → ℕ → Protocol → Subcommand → PinReply → Type 0
PinTold k n p c t = Told k n (Asking p c) TellsPin t

abbrev pub PinUntold : Facts → ℕ → Protocol → Subcommand → Halt → Type 0
PinUntold k n p c h = Ends (NoBytes p c) h ⊎ Untold k n (Asking p c) TellsPin h

-- ---- the user's PIN: getPINRetries comes first (6.5.5.2), so that it is not asked for in vain

abbrev pub none_left : Option ℕ → Bool
none_left (Some n) = n == 0
none_left None = false

abbrev pub is_true : Option Bool → Bool
is_true (Some b) = b
is_true None = false

abbrev pub retries_fault : PinReply → Option Refusal
retries_fault t =
    if none_left t.pin_retries then Some refusals.PinBlocked
    else if is_true t.power_cycle then Some refusals.PowerCycle
    else None

abbrev pub HasRetries : Facts → Protocol → Option ℕ → Type 0
HasRetries k p left = (t : PinReply) × PinTold k 1 p pin_retries t × (retries_fault t ≡ None) × (left ≡ t.pin_retries)

abbrev pub NoRetries : Facts → Protocol → Halt → Type 0
NoRetries k p = Then (PinTold k 1 p pin_retries) (PinUntold k 1 p pin_retries) (λ t. Ends (λ f. retries_fault t ≡ Some f))

abbrev pub HasPin : Facts → Protocol → List ℕ → Type 0
HasPin k p pin = ((left : Option ℕ) × HasRetries k p left) × (k.pin ≡ Some pin)

abbrev pub NoPin : Facts → Protocol → Halt → Type 0
NoPin k p = Then (HasRetries k p) (NoRetries k p) (λ left h. (k.pin ≡ None) × (h ≡ halts.Steps 2 (steps.NeedsPin left)))

-- ---- the key's point, by getKeyAgreement (6.5.5.4)

abbrev pub IsPointOf : PinReply → PublicPoint → Type 0
IsPointOf t point = (key : ToldKey) × (t.key ≡ Some key) × IsPoint key × (point ≡ record { x = key.x; y = key.y })

abbrev pub NoPointOf : PinReply → Refusal → Type 0
NoPointOf t f =
    ((t.key ≡ None) × (f ≡ refusals.NotReadable))
    ⊎ ((key : ToldKey) × (t.key ≡ Some key) × (IsPoint key → ⊥) × (f ≡ refusals.BadPoint))

abbrev pub HasPoint : Facts → ℕ → Protocol → PublicPoint → Type 0
HasPoint k n p point = (t : PinReply) × PinTold k n p key_agreement t × IsPointOf t point

abbrev pub NoPoint : Facts → ℕ → Protocol → Halt → Type 0
NoPoint k n p = Then (PinTold k n p key_agreement) (PinUntold k n p key_agreement) (λ t. Ends (NoPointOf t))

-- ---- the token of the reply to one of these requests, decrypted

abbrev pub TokenIn : Facts → Protocol → PublicPoint → PinReply → List ℕ → Type 0
TokenIn k p peer t token = (told : List ℕ) × (t.token ≡ Some told) × IsToken k.answers p peer told token

abbrev pub HasToken : Facts → ℕ → Protocol → PublicPoint → (List ℕ → Type 0) → List ℕ → Type 0
HasToken k n p peer P token = (t : PinReply) × Told k n P TellsPin t × TokenIn k p peer t token

abbrev pub NoTokenOf : Facts → ℕ → Protocol → PublicPoint → PinReply → Halt → Type 0
NoTokenOf k n p peer t h =
    ((t.token ≡ None) × (h ≡ halts.Refuses refusals.NotReadable))
    ⊎ ((told : List ℕ) × (t.token ≡ Some told) × StopsBy (n + 1) (NoToken k.answers p peer told) h)

abbrev pub Unopened : Facts → ℕ → Protocol → PublicPoint → (List ℕ → Type 0) → Halt → Type 0
Unopened k n p peer P = Then (Told k n P TellsPin) (Untold k n P TellsPin) (NoTokenOf k n p peer)

-- ---- by PIN (6.5.5.7.1, 6.5.5.7.2): getInfo, getPINRetries, getKeyAgreement, the request for the token

abbrev pub ByPin : Facts → Protocol → PublicPoint → List ℕ → Option Scope → List ℕ → Type 0
ByPin k p peer pin scope = Requests p (IsTokenByPin k.answers p peer pin scope)

abbrev pub NotAskedByPin : Facts → Protocol → PublicPoint → List ℕ → Option Scope → Halt → Type 0
NotAskedByPin k p peer pin scope h =
    StopsBy 3 (NoRequest k.answers p (IsTokenAsk k.answers p peer pin) (λ f. ⊥) (IsTokenByPin k.answers p peer pin scope)) h
    ⊎ Unopened k 3 p peer (ByPin k p peer pin scope) h

abbrev pub HasTokenByPin : Facts → Protocol → Option Scope → List ℕ → Type 0
HasTokenByPin k p scope token =
    (pin : List ℕ) × HasPin k p pin × (peer : PublicPoint) × HasPoint k 2 p peer × HasToken k 3 p peer (ByPin k p peer pin scope) token

abbrev pub NoTokenByPin : Facts → Protocol → Option Scope → Halt → Type 0
NoTokenByPin k p scope =
    Then (HasPin k p) (NoPin k p) (λ pin.
    Then (HasPoint k 2 p) (NoPoint k 2 p) (λ peer. NotAskedByPin k p peer pin scope))

-- ---- by the key's own verification (6.5.5.7.3): getInfo, getKeyAgreement, the request for the token

abbrev pub ByUv : Facts → Protocol → PublicPoint → Scope → List ℕ → Type 0
ByUv k p peer scope = Requests p (IsTokenByUv k.answers p peer scope)

abbrev pub NotAskedByUv : Facts → Protocol → PublicPoint → Scope → Halt → Type 0
NotAskedByUv k p peer scope h =
    StopsBy 2 (NoRequest k.answers p (IsSessionAsk k.answers p peer) (λ f. ⊥) (IsTokenByUv k.answers p peer scope)) h
    ⊎ Unopened k 2 p peer (ByUv k p peer scope) h

abbrev pub HasTokenByUv : Facts → Protocol → Scope → List ℕ → Type 0
HasTokenByUv k p scope token = (peer : PublicPoint) × HasPoint k 1 p peer × HasToken k 2 p peer (ByUv k p peer scope) token

abbrev pub NoTokenByUv : Facts → Protocol → Scope → Halt → Type 0
NoTokenByUv k p scope = Then (HasPoint k 1 p) (NoPoint k 1 p) (λ peer. NotAskedByUv k p peer scope)

-- ---- what a command has of it: pinUvAuthParam and pinUvAuthProtocol, or the option uv, or neither (6.1, 6.2); and how
-- many messages are sent before the command

pub record Verified : Type 0 where
  pub auth : Option Auth
  pub uv : Option Bool
  pub place : ℕ

-- pinUvAuthParam is the client data's hash, authenticated by the token
abbrev pub AuthFrom : Facts → ℕ → Protocol → List ℕ → List ℕ → Verified → Type 0
AuthFrom k n p hash token v =
    (param : List ℕ) × Authenticates k.answers p token hash param
    × (v ≡ record { auth = Some (record { param = param; protocol = number p }); uv = None; place = n })

abbrev pub NoAuthFrom : Facts → ℕ → Protocol → List ℕ → List ℕ → Halt → Type 0
NoAuthFrom k n p hash token = StopsBy n (Stops k.answers (λ a. a ≡ authentication token hash))

abbrev pub VerifiesByPin : Facts → Protocol → Option Scope → List ℕ → Verified → Type 0
VerifiesByPin k p scope hash v = (token : List ℕ) × HasTokenByPin k p scope token × AuthFrom k 4 p hash token v

abbrev pub UnverifiedByPin : Facts → Protocol → Option Scope → List ℕ → Halt → Type 0
UnverifiedByPin k p scope hash = Then (HasTokenByPin k p scope) (NoTokenByPin k p scope) (NoAuthFrom k 4 p hash)

abbrev pub VerifiesByUv : Facts → Protocol → Scope → List ℕ → Verified → Type 0
VerifiesByUv k p scope hash v = (token : List ℕ) × HasTokenByUv k p scope token × AuthFrom k 3 p hash token v

abbrev pub UnverifiedByUv : Facts → Protocol → Scope → List ℕ → Halt → Type 0
UnverifiedByUv k p scope hash = Then (HasTokenByUv k p scope) (NoTokenByUv k p scope) (NoAuthFrom k 3 p hash)

-- permissions are named where the key knows them
abbrev pub pin_scope : Info → Scope → Option Scope
pin_scope info scope = if is_on (codes "pinUvAuthToken") info then Some scope else None

abbrev pub Verifies : Facts → Info → Way → Scope → List ℕ → Verified → Type 0
Verifies k info ways.BuiltInToken scope hash v = (p : Protocol) × (protocol_told info ≡ Some p) × VerifiesByUv k p scope hash v
Verifies k info ways.BuiltInOption scope hash v = v ≡ record { auth = None; uv = Some true; place = 1 }
Verifies k info ways.Pin scope hash v = (p : Protocol) × (protocol_told info ≡ Some p) × VerifiesByPin k p (pin_scope info scope) hash v
Verifies k info ways.Presence scope hash v = v ≡ record { auth = None; uv = None; place = 1 }
Verifies k info ways.Nothing scope hash v = ⊥

abbrev pub NoProtocol : Info → Refusal → Type 0
NoProtocol info f = (protocol_told info ≡ None) × (f ≡ refusals.NoProtocol)

abbrev pub Unverified : Facts → Info → Way → Scope → List ℕ → Halt → Type 0
Unverified k info ways.BuiltInToken scope hash h =
    Then (λ p. protocol_told info ≡ Some p) (Ends (NoProtocol info)) (λ p. UnverifiedByUv k p scope hash) h
Unverified k info ways.BuiltInOption scope hash h = ⊥
Unverified k info ways.Pin scope hash h =
    Then (λ p. protocol_told info ≡ Some p) (Ends (NoProtocol info)) (λ p. UnverifiedByPin k p (pin_scope info scope) hash) h
Unverified k info ways.Presence scope hash h = ⊥
Unverified k info ways.Nothing scope hash h = h ≡ halts.Refuses refusals.NoVerification
