-- What the request that a device works on waits for, once it is complete.
use Rattle.std.specs.Prelude.{◌≡◌, ◌⊎◌, ℕ, List, [], ◌∷◌, Bool, true, false, Option, Some, None}
use Rattle.hidframe.specs.declared.Packet.{Packet}
use Rattle.hidlink.specs.Ranks.{DeviceState, TransactionState, Idle, Receiving, Working}
use Rattle.hidlink.specs.declared.transaction.DeviceEvent.TheVariants as events
use Rattle.key_pin.specs.State.{PinState}
use Rattle.key_device.specs.Reading.{ReadsAs}
use Rattle.key_device.specs.Sending.{IsAnswered}
use Rattle.key_device.specs.declared.reading.Reading.{Reading}
use Rattle.key_device.specs.declared.reading.Reading.TheVariants as readings
use Rattle.key_device.specs.declared.stage.Stage.{Stage}
use Rattle.key_device.specs.declared.stage.Stage.TheVariants as stages
use Rattle.key_device.specs.declared.stage.Told.{Told}
use Rattle.key_device.specs.declared.stage.Told.TheVariants as told

abbrev pub is_some : Option (List ℕ) → Bool
is_some None = false
is_some (Some bs) = true

-- a key that takes no PIN answers each request as it is
abbrev pub ReadsBy : Option PinState → List ℕ → Reading → Type 0
ReadsBy None bs r = r ≡ readings.AsItIs
ReadsBy (Some s) bs r = ReadsAs (is_some s.pin) bs r

-- how the request that a device works on is answered
abbrev pub IsReading : Option PinState → TransactionState → Reading → Type 0
IsReading pin Idle r = ⊥
IsReading pin (Receiving cid cmd len next bytes) r = ⊥
IsReading pin (Working cid payload) r = ReadsBy pin payload r

-- what it waits for then
abbrev pub stage_of : Reading → Stage
stage_of (readings.Pin request) = stages.Words request
stage_of readings.AsItIs = stages.User
stage_of readings.Touch = stages.Touch
stage_of (readings.Refused s) = stages.Nothing

-- and what the act tells
abbrev pub told_of : ℕ → Reading → Told
told_of cid (readings.Pin request) = told.Computes cid
told_of cid readings.AsItIs = told.Event (events.Request cid)
told_of cid readings.Touch = told.Event (events.Request cid)
told_of cid (readings.Refused s) = told.Event events.Quiet

-- one that is refused is answered by its status
abbrev pub SendsBy : DeviceState → List Packet → Reading → DeviceState → List Packet → Type 0
SendsBy old before (readings.Refused s) new after = IsAnswered old before (s ∷ []) new after
SendsBy old before _ new after = (new ≡ old) × (after ≡ before)

-- without memory it is to be read later: nothing has changed
abbrev pub Reads : Option PinState → DeviceState → ℕ → List Packet → Stage → Told → DeviceState → List Packet → Type 0
Reads pin old cid before stage t new after =
    ((r : Reading) × IsReading pin old.state r × (stage ≡ stage_of r) × (t ≡ told_of cid r) × SendsBy old before r new after)
    ⊎ ((stage ≡ stages.Unread) × (t ≡ told.Event (events.Request cid)) × (new ≡ old) × (after ≡ before))
