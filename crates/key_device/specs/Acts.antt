-- What each act does to a security key.
use Rattle.std.specs.Prelude.{◌≡◌, ◌⊎◌, ℕ, List, [], ◌∷◌, ◌++◌, Option, Some, None, option_map}
use Rattle.hidframe.specs.declared.Packet.{Packet}
use Rattle.hidlink.specs.Ranks.{DeviceState, TransactionState, Working}
use Rattle.hidlink.specs.Told.{work}
use Rattle.hidlink.specs.declared.transaction.DeviceEvent.{DeviceEvent}
use Rattle.hidlink.specs.declared.transaction.DeviceEvent.TheVariants as events
use Rattle.authenticator.specs.State.{AuthenticatorState}
use Rattle.authenticator.specs.Steps.{Keys}
use Rattle.authenticator.specs.declared.consent.Consent.{Consent}
use Rattle.authenticator.specs.declared.consent.Words.{Words}
use Rattle.authenticator.specs.declared.pending.Pending.{Pending}
use Rattle.pin_protocols.specs.Asks.{ask_view, entries}
use Rattle.key_pin.specs.State.{PinState, over}
use Rattle.key_pin.specs.declared.words.PinWords.{PinWords}
use Rattle.security_key.specs.Serving.{BeginsServing}
use Rattle.security_key.specs.declared.serving.Act.{Act}
use Rattle.security_key.specs.declared.serving.Act.TheVariants as act
use Rattle.security_key.specs.declared.serving.Served.TheVariants as served
use Rattle.key_device.specs.Computing.{Computes, Entries, IsUndone}
use Rattle.key_device.specs.Deciding.{Decides, touched}
use Rattle.key_device.specs.Key.{KeyDeviceState}
use Rattle.key_device.specs.Sending.{IsAnswered}
use Rattle.key_device.specs.Stages.{Reads, is_some}
use Rattle.key_device.specs.declared.stage.PinRequest.{PinRequest}
use Rattle.key_device.specs.declared.stage.Stage.{Stage}
use Rattle.key_device.specs.declared.stage.Stage.TheVariants as stages
use Rattle.key_device.specs.declared.stage.Told.{Told}
use Rattle.key_device.specs.declared.stage.Told.TheVariants as told

-- ---- of the device alone

-- the device does it as an act of a security key does, and tells of it
abbrev pub Passes : DeviceState → AuthenticatorState → Act → List Packet → DeviceEvent → DeviceState → List Packet → Type 0
Passes old a x before event new after = (public : Keys) → BeginsServing public old a x before (served.Done event) new a after

-- waiting and expiry: nothing else changes
abbrev pub PassesOn : KeyDeviceState → Act → List Packet → Told → KeyDeviceState → List Packet → Type 0
PassesOn old x before t new after =
    (event : DeviceEvent) × (t ≡ told.Event event) × Passes old.device old.authenticator x before event new.device after
    × (new ≡ record old { device = new.device })

-- ---- a request is read

abbrev pub ReadsOn : KeyDeviceState → List Packet → Told → KeyDeviceState → List Packet → Type 0
ReadsOn old before t new after =
    (cid : ℕ) × (bs : List ℕ) × (work old.device.state ≡ Some (cid, bs)) × Reads old.pin old.device cid before new.stage t new.device after
    × (new ≡ record old { device = new.device; stage = new.stage })

-- ---- a packet

-- what was waited for is gone: a try that was under way is over, and stays counted
abbrev pub given_up : KeyDeviceState → KeyDeviceState
given_up k = record k { pin = option_map over k.pin; stage = stages.Nothing; pending = None }

-- The device took a packet, and told this. Where it worked on a request and works on one, it is the same, which waits for the same.
-- Where it works on none, nothing waits. Where it begins to work, the request is read.
abbrev pub Goes : TransactionState → TransactionState → KeyDeviceState → List Packet → DeviceEvent → Told → KeyDeviceState → List Packet → Type 0
Goes (Working c bs) (Working d cs) mid between event t new after = (work mid.device.state ≡ Some (c, bs)) × (t ≡ told.Event event) × (new ≡ mid) × (after ≡ between)
Goes s (Working d cs) mid between event t new after = ReadsOn mid between t new after
Goes s _ mid between event t new after = (t ≡ told.Event event) × (new ≡ given_up mid) × (after ≡ between)

abbrev pub TakesPacket : KeyDeviceState → Packet → List Packet → Told → KeyDeviceState → List Packet → Type 0
TakesPacket old p before t new after =
    (event : DeviceEvent) × (d : DeviceState) × (between : List Packet) × Passes old.device old.authenticator (act.Packet p) before event d between
    × Goes old.device.state d.state (record old { device = d }) between event t new after

-- ---- words and answers of the host

abbrev pub GoesOn : KeyDeviceState → PinRequest → PinWords → Entries → List Packet → Told → KeyDeviceState → List Packet → Type 0
GoesOn old request words es before t new after =
    (cid : ℕ) × (bs : List ℕ) × (s : PinState) × (u : PinState) × (work old.device.state ≡ Some (cid, bs)) × (old.pin ≡ Some s)
    × Computes s words es old.device cid before request new.stage t u new.device after
    × (new ≡ record old { device = new.device; pin = Some u; stage = new.stage })

-- if memory ran out, it is to begin anew
abbrev pub BeginsAnew : KeyDeviceState → PinRequest → PinWords → Entries → KeyDeviceState → Type 0
BeginsAnew old request words es new =
    (s : PinState) × (u : PinState) × (old.pin ≡ Some s) × IsUndone s words es request u
    × (new ≡ record old { pin = Some u; stage = stages.Words request })

-- the host's words: for a request that waits for them; one that wasn't read is read
abbrev pub TakesWords : Stage → KeyDeviceState → PinWords → List Packet → Told → KeyDeviceState → List Packet → Type 0
TakesWords (stages.Words request) old words before t new after = GoesOn old request words [] before t new after
TakesWords stages.Unread old words before t new after = ReadsOn old before t new after
TakesWords _ old words before t new after = ⊥

abbrev pub WantsWords : Stage → KeyDeviceState → PinWords → KeyDeviceState → Type 0
WantsWords (stages.Words request) old words new = (new ≡ old) ⊎ BeginsAnew old request words [] new
WantsWords _ old words new = new ≡ old

-- the host's answer: to what it was asked, after what it answered before
abbrev pub TakesAnswer : Stage → KeyDeviceState → List ℕ → List Packet → Told → KeyDeviceState → List Packet → Type 0
TakesAnswer (stages.Answer request c) old answer before t new after =
    GoesOn old request c.words (entries c.answers ++ (ask_view c.ask, answer) ∷ []) before t new after
TakesAnswer _ old answer before t new after = ⊥

abbrev pub WantsAnswer : Stage → KeyDeviceState → List ℕ → KeyDeviceState → Type 0
WantsAnswer (stages.Answer request c) old answer new =
    (new ≡ old) ⊎ ((new ≡ record old { stage = stages.Words request })
    ⊎ BeginsAnew old request c.words (entries c.answers ++ (ask_view c.ask, answer) ∷ []) new)
WantsAnswer _ old answer new = new ≡ old

-- ---- a decision

-- what the act tells, and what waits for a signature then
abbrev pub IsDecision : Option Pending → Told → Stage → Stage → Option Pending → Type 0
IsDecision (Some p) t stage new_stage pending = (t ≡ told.Signs) × (new_stage ≡ stage) × (pending ≡ Some p)
IsDecision None t stage new_stage pending = (t ≡ told.Event events.Quiet) × (new_stage ≡ stages.Nothing) × (pending ≡ None)

abbrev pub DecidesOn : Keys → KeyDeviceState → Consent → Words → List Packet → Told → KeyDeviceState → List Packet → Type 0
DecidesOn public old consent words before t new after =
    (o : Option Pending)
    × Decides public old.device old.authenticator old.pin old.stage consent words before o new.device new.authenticator new.pin after
    × IsDecision o t old.stage new.stage new.pending

abbrev pub is_set : Option PinState → Option (List ℕ)
is_set None = None
is_set (Some s) = s.pin

abbrev pub TouchesOn : KeyDeviceState → Consent → List Packet → Told → KeyDeviceState → List Packet → Type 0
TouchesOn old consent before t new after =
    IsAnswered old.device before (touched (is_some (is_set old.pin)) consent.present ∷ []) new.device after
    × (t ≡ told.Event events.Quiet) × (new ≡ record old { device = new.device; stage = stages.Nothing; pending = None })

-- by what the request waits for; one that wasn't read is read
abbrev pub TakesDecision : Keys → Stage → KeyDeviceState → Consent → Words → List Packet → Told → KeyDeviceState → List Packet → Type 0
TakesDecision public stages.User old consent words before t new after = DecidesOn public old consent words before t new after
TakesDecision public (stages.Granted g) old consent words before t new after = DecidesOn public old consent words before t new after
TakesDecision public stages.Touch old consent words before t new after = TouchesOn old consent before t new after
TakesDecision public stages.Unread old consent words before t new after = ReadsOn old before t new after
TakesDecision public _ old consent words before t new after = ⊥

-- it waits for the user, or is still to be read
abbrev pub WaitsForUser : Stage → Type 0
WaitsForUser stages.User = Unit {0}
WaitsForUser (stages.Granted g) = Unit {0}
WaitsForUser stages.Touch = Unit {0}
WaitsForUser stages.Unread = Unit {0}
WaitsForUser _ = ⊥

abbrev pub WaitsForWords : Stage → Type 0
WaitsForWords (stages.Words request) = Unit {0}
WaitsForWords stages.Unread = Unit {0}
WaitsForWords _ = ⊥

abbrev pub WaitsForAnswer : Stage → Type 0
WaitsForAnswer (stages.Answer request c) = Unit {0}
WaitsForAnswer _ = ⊥
