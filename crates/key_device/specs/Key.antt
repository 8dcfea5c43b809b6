-- What a security key is, and what is done to it.
use Rattle.std.specs.Prelude.{◌≡◌, ℕ, List, [], true, false, Bool, Option, Some, None, IfSome, option_map, Ok}
use Rattle.authdata.specs.declared.statement.AttestationType.{AttestationType}
use Rattle.hidframe.specs.declared.Packet.{Packet}
use Rattle.hidlink.specs.History.{DeviceCall, Leaves}
use Rattle.hidlink.specs.Ranks.{DeviceState, TransactionState, Idle, Receiving, Working}
use Rattle.hidlink.specs.Told.{work}
use Rattle.authenticator.specs.State.{AuthenticatorState, forgotten, new_state}
use Rattle.authenticator.specs.Saved.{SavedOf}
use Rattle.authenticator.specs.Signing.{AgreesOn, Finishes, message_of, only}
use Rattle.authenticator.specs.Steps.{Keys, Steps}
use Rattle.authenticator.specs.declared.consent.Consent.{Consent}
use Rattle.authenticator.specs.declared.consent.Words.{Words}
use Rattle.authenticator.specs.declared.pending.Pending.{Pending}
use Rattle.pin_protocols.specs.declared.ask.Ask.{Ask}
use Rattle.pin_key_messages.specs.Protected.{Protection}
use Rattle.key_pin.specs.Grants.{granted}
use Rattle.key_pin.specs.Saved.{FitsPin, saved}
use Rattle.key_pin.specs.State.{PinState, PinToken, new_pin_state, powered_up, without_token}
use Rattle.key_device.specs.Computing.{Entries, IsGrantedRequest, claim_of}
use Rattle.key_device.specs.Deciding.{Handed, IsDecided, handed}
use Rattle.key_device.specs.Reading.{IsAsked}
use Rattle.key_device.specs.Sending.{IsSent}
use Rattle.key_device.specs.Stages.{ReadsBy}
use Rattle.key_device.specs.declared.key.UserVerification.{UserVerification}
use Rattle.key_device.specs.declared.key.UserVerification.TheVariants as verification
use Rattle.key_device.specs.declared.reading.Reading.TheVariants as readings
use Rattle.key_device.specs.declared.stage.GrantedRequest.{GrantedRequest}
use Rattle.key_device.specs.declared.stage.ProtectedAsked.{ProtectedAsked}
use Rattle.key_device.specs.declared.stage.PinRequest.{PinRequest}
use Rattle.key_device.specs.declared.stage.Stage.{Stage}
use Rattle.key_device.specs.declared.stage.Stage.TheVariants as stages

-- a device, its authenticator, its PIN where it takes one, what the request that it works on waits for, and what waits for its
-- signature
pub record KeyDeviceState : Type 0 where
  pub device : DeviceState
  pub authenticator : AuthenticatorState
  pub pin : Option PinState
  pub stage : Stage
  pub pending : Option Pending

-- ---- what is so between two acts

-- a token granted what this request asks to be granted, by the host's answers
pub record IsGranted (bs : List ℕ) (g : GrantedRequest) : Type 0 where
  pub asked : ProtectedAsked
  pub protection : Protection
  pub read : IsAsked bs protection asked.param.items asked
  pub same : IsGrantedRequest asked g
  pub answers : Entries
  pub token : Option PinToken
  pub grants : granted answers (claim_of asked) token ≡ Ok tt

-- a key that takes PINs has read this of the request
abbrev pub IsKept : Option PinState → List ℕ → PinRequest → Type 0
IsKept None bs r = ⊥
IsKept (Some s) bs r = ReadsBy (Some s) bs (readings.Pin r)

-- what is kept is of this request, and granted is only what a token granted
abbrev pub FitsRequest : Option PinState → List ℕ → Stage → Type 0
FitsRequest pin bs stages.Nothing = ⊥
FitsRequest pin bs stages.Unread = Unit {0}
FitsRequest pin bs (stages.Words r) = IsKept pin bs r
FitsRequest pin bs (stages.Answer r c) = IsKept pin bs r
FitsRequest pin bs stages.User = ReadsBy pin bs readings.AsItIs
FitsRequest pin bs stages.Touch = ReadsBy pin bs readings.Touch
FitsRequest pin bs (stages.Granted g) = IsGranted bs g

abbrev pub Fits : Option PinState → TransactionState → Stage → Type 0
Fits pin Idle stage = stage ≡ stages.Nothing
Fits pin (Receiving cid cmd len next bytes) stage = stage ≡ stages.Nothing
Fits pin (Working cid payload) stage = FitsRequest pin payload stage

-- a decision was taken on the request that the device works on, by each function from secrets to keys that has those passed for
-- the decision's secret
abbrev pub IsWaiting : KeyDeviceState → Pending → Type 0
IsWaiting k p =
    (known : Keys) × (consent : Consent) × (words : Words)
    × ((public : Keys) → AgreesOn words.secret public known → IsDecided public k.device.state k.authenticator k.pin k.stage consent words p)

pub record IsSound (k : KeyDeviceState) : Type 0 where
  pub drained : k.device.left ≡ []
  pub history : (h : List DeviceCall) × Leaves h k.device.channels k.device.state
  pub stage : Fits k.pin k.device.state k.stage
  pub waiting : IfSome k.pending (IsWaiting k)

-- ---- a key that was never used

abbrev pub is_verifying : UserVerification → Bool
is_verifying verification.Absent = false
is_verifying verification.BuiltIn = true
is_verifying verification.Pin = true

abbrev pub new_pin : UserVerification → Option PinState
new_pin verification.Absent = None
new_pin verification.BuiltIn = None
new_pin verification.Pin = Some new_pin_state

pub record IsNew (aaguid : List ℕ) (how : UserVerification) (attest : AttestationType) (k : KeyDeviceState) : Type 0 where
  pub authenticator : k.authenticator ≡ new_state aaguid (is_verifying how) attest
  pub device : k.device ≡ record { channels = 0; state = Idle; left = [] }
  pub pin : k.pin ≡ new_pin how
  pub stage : k.stage ≡ stages.Nothing
  pub pending : k.pending ≡ None

-- what the host is asked for
abbrev pub asked_at : Stage → Option Ask
asked_at (stages.Answer r c) = Some c.ask
asked_at _ = None

-- ---- power and time

-- its channels, its token and key agreement, what waits and what is remembered are gone
abbrev pub plugged_in : KeyDeviceState → KeyDeviceState
plugged_in k = record {
  device = record { channels = 0; state = Idle; left = [] };
  authenticator = forgotten k.authenticator;
  pin = option_map powered_up k.pin;
  stage = stages.Nothing;
  pending = None;
}

abbrev pub without_its_token : KeyDeviceState → KeyDeviceState
without_its_token k = record k { pin = option_map without_token k.pin }

-- ---- a signature

-- the authenticator's step on the current request, as it was handed to it, where this signature alone is valid
abbrev pub IsStepOn : Keys → KeyDeviceState → Consent → Words → Pending → List ℕ → List ℕ → AuthenticatorState → Type 0
IsStepOn public old consent words p signature reply b =
    (c : ℕ) × (bs : List ℕ) × (h : Handed) × (work old.device.state ≡ Some (c, bs)) × (handed old.pin old.stage bs consent ≡ Some h)
    × Steps (only (public p.alg p.secret) (message_of p) signature) public old.authenticator c h.request h.consent words reply b

-- the awaited signature arrived: it answers the current request by the step that was decided on, for every key function that agrees with the
-- known keys on this secret
pub record IsSigned (old : KeyDeviceState) (before : List Packet) (signature : List ℕ) (new : KeyDeviceState) (after : List Packet) : Type 0 where
  pub pending : Pending
  pub known : Keys
  pub consent : Consent
  pub words : Words
  pub reply : List ℕ
  pub waits : old.pending ≡ Some pending
  pub decided : (public : Keys) → AgreesOn words.secret public known
      → IsDecided public old.device.state old.authenticator old.pin old.stage consent words pending
  pub step : (public : Keys) → AgreesOn words.secret public known → IsStepOn public old consent words pending signature reply new.authenticator
  pub finishes : Finishes old.authenticator pending signature reply new.authenticator
  pub sent : IsSent old.device before reply new.device after
  pub leaves : new ≡ record old { device = new.device; authenticator = new.authenticator; stage = stages.Nothing; pending = None }

-- ---- saved

-- an authenticator that was saved stands in the place of the old one, and nothing waits for its signature
abbrev pub IsLoaded : KeyDeviceState → List ℕ → KeyDeviceState → Type 0
IsLoaded old bytes new = SavedOf new.authenticator bytes × (new ≡ record old { authenticator = new.authenticator; pending = None })

abbrev pub saved_pin : Option PinState → List ℕ
saved_pin None = []
saved_pin (Some s) = saved s

-- a request that waits is to be read anew
abbrev pub unread : TransactionState → Stage → Stage
unread Idle stage = stage
unread (Receiving cid cmd len next bytes) stage = stage
unread (Working cid payload) stage = stages.Unread

-- a PIN that was saved stands in the place of the old one
abbrev pub IsPinLoaded : KeyDeviceState → List ℕ → KeyDeviceState → Type 0
IsPinLoaded old bytes new =
    (s : PinState) × (bytes ≡ saved s) × FitsPin s.pin s.retries × (s ≡ powered_up s)
    × (new ≡ record old { pin = Some s; stage = unread old.device.state old.stage; pending = None })
