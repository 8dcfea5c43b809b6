-- What the PIN makes of a request by the host's words and its answers so far: CTAP 2.1, section 6.5.
use Rattle.std.specs.Prelude.{◌≡◌, ◌⊎◌, ℕ, List, [], ◌∷◌, string_bytes, Ok, Err, Result}
use Rattle.hidframe.specs.declared.Packet.{Packet}
use Rattle.hidlink.specs.Ranks.{DeviceState}
use Rattle.hidlink.specs.declared.transaction.DeviceEvent.TheVariants as events
use Rattle.pin_protocols.specs.Asks.{Asked, ask_view, entries}
use Rattle.key_pin.specs.declared.words.PinStep.{PinStep}
use Rattle.key_pin.specs.declared.words.PinStep.TheVariants as steps
use Rattle.key_pin.specs.declared.words.PinWords.{PinWords}
use Rattle.key_pin.specs.Grants.{Claim, after_grant, claim, granted}
use Rattle.key_pin.specs.Host.{Ending, asks, refused}
use Rattle.key_pin.specs.Outcomes.{IsStep, after}
use Rattle.key_pin.specs.State.{PinState, with_pair}
use Rattle.key_pin.specs.Steps.{verdict}
use Rattle.key_device.specs.Reading.{query_of}
use Rattle.key_device.specs.Sending.{IsAnswered}
use Rattle.key_device.specs.declared.stage.GrantedRequest.{GrantedRequest}
use Rattle.key_device.specs.declared.stage.PinRequest.{PinRequest}
use Rattle.key_device.specs.declared.stage.PinRequest.TheVariants as requests
use Rattle.key_device.specs.declared.stage.ProtectedAsked.{ProtectedAsked}
use Rattle.key_device.specs.declared.stage.Stage.{Stage}
use Rattle.key_device.specs.declared.stage.Stage.TheVariants as stages
use Rattle.key_device.specs.declared.stage.Told.{Told}
use Rattle.key_device.specs.declared.stage.Told.TheVariants as told

abbrev pub Entries : Type 0
Entries = List (Asked × List ℕ)

-- what a token is asked to grant
abbrev pub claim_of : ProtectedAsked → Claim
claim_of a = claim a.protocol a.param.items a.permission (string_bytes a.rp_id) a.client_data_hash.items

-- what is kept of it once it is granted
pub record IsGrantedRequest (a : ProtectedAsked) (g : GrantedRequest) : Type 0 where
  pub bytes : g.bytes ≡ a.bytes
  pub presence : g.presence ≡ a.presence

abbrev pub IsGrantedStage : ProtectedAsked → Stage → Type 0
IsGrantedStage a (stages.Granted g) = IsGrantedRequest a g
IsGrantedStage a _ = ⊥

-- the host is asked for this: its words and its answers so far are kept
abbrev pub Awaits : PinRequest → PinWords → Entries → Asked → Stage → Type 0
Awaits request words es a (stages.Answer r c) = (r ≡ request) × (c.words ≡ words) × (entries c.answers ≡ es) × (ask_view c.ask ≡ a)
Awaits request words es a _ = ⊥

-- ---- a request of authenticatorClientPIN: what its step says

abbrev pub AfterStep : PinRequest → PinWords → Entries → DeviceState → List Packet → PinStep → Stage → Told → DeviceState → List Packet → Type 0
AfterStep request words es old before (steps.Asks a) stage t new after =
    Awaits request words es (ask_view a) stage × (t ≡ told.Asks) × (new ≡ old) × (after ≡ before)
AfterStep request words es old before (steps.Replies reply) stage t new after =
    (stage ≡ stages.Nothing) × (t ≡ told.Event events.Quiet) × IsAnswered old before reply.items new after

-- ---- a makeCredential or getAssertion: whether the token grants it

abbrev pub AfterGrant : ProtectedAsked → PinWords → Entries → DeviceState → ℕ → List Packet → Result (Unit {0}) Ending → Stage → Told → DeviceState
    → List Packet → Type 0
AfterGrant a words es old cid before (Ok u) stage t new after =
    IsGrantedStage a stage × (t ≡ told.Event (events.Request cid)) × (new ≡ old) × (after ≡ before)
AfterGrant a words es old cid before (Err (asks x)) stage t new after =
    Awaits (requests.Protected a) words es x stage × (t ≡ told.Asks) × (new ≡ old) × (after ≡ before)
AfterGrant a words es old cid before (Err (refused s)) stage t new after =
    (stage ≡ stages.Nothing) × (t ≡ told.Event events.Quiet) × IsAnswered old before (s ∷ []) new after

-- ---- each

abbrev pub ComputesCommand : PinState → PinWords → Entries → DeviceState → List Packet → PinRequest → Stage → Told → PinState → DeviceState → List Packet → Type 0
ComputesCommand pin words es old before (requests.Command c) stage t pin_after new after_sent =
    (pin_after ≡ after (verdict es words (query_of c) pin).outcome (verdict es words (query_of c) pin).state)
    × ((step : PinStep) × IsStep (verdict es words (query_of c) pin) step × AfterStep (requests.Command c) words es old before step stage t new after_sent)
ComputesCommand pin words es old before (requests.Protected a) stage t pin_after new after_sent = ⊥

abbrev pub ComputesProtected : PinState → PinWords → Entries → DeviceState → ℕ → List Packet → PinRequest → Stage → Told → PinState → DeviceState → List Packet → Type 0
ComputesProtected pin words es old cid before (requests.Protected a) stage t pin_after new after_sent =
    (pin_after ≡ after_grant (granted es (claim_of a) pin.token) (string_bytes a.rp_id) pin)
    × AfterGrant a words es old cid before (granted es (claim_of a) pin.token) stage t new after_sent
ComputesProtected pin words es old cid before (requests.Command c) stage t pin_after new after_sent = ⊥

abbrev pub Computes : PinState → PinWords → Entries → DeviceState → ℕ → List Packet → PinRequest → Stage → Told → PinState → DeviceState → List Packet → Type 0
Computes pin words es old cid before request stage t pin_after new after_sent =
    ComputesCommand pin words es old before request stage t pin_after new after_sent
    ⊎ ComputesProtected pin words es old cid before request stage t pin_after new after_sent

-- without memory: the key pair was taken, and the try may have been counted
abbrev pub IsUndone : PinState → PinWords → Entries → PinRequest → PinState → Type 0
IsUndone pin words es (requests.Command c) pin_after = (pin_after ≡ with_pair words pin) ⊎ (pin_after ≡ (verdict es words (query_of c) pin).state)
IsUndone pin words es (requests.Protected a) pin_after = pin_after ≡ pin
