-- What a line does to a security key over lines. Private functions are proved against these.
use Rattle.std.specs.Prelude.{◌≡◌, ◌≤◌, ◌⊎◌, ℕ, List, [], ◌++◌, codes, length, Option, Some, None, IsSome, Ok, Err, Result, Vec}
use Rattle.std.specs.Bool.{OnTrue}
use Rattle.std.specs.Global.{Global}
use Rattle.hidframe.specs.declared.Packet.{Packet}
use Rattle.hidlink.specs.Ranks.{IsWorking}
use Rattle.authenticator.specs.Handed.{handed_key}
use Rattle.authenticator.specs.Laws.{SoundState}
use Rattle.authenticator.specs.Saved.{AppendsSaved, SavedOf}
use Rattle.authenticator.specs.Signing.{AgreesOn}
use Rattle.authenticator.specs.State.{AuthenticatorState}
use Rattle.authenticator.specs.Steps.{Keys}
use Rattle.authenticator.specs.declared.keys.HandedKeys.{HandedKeys}
use Rattle.key_pin.specs.Saved.{FitsPin, saved}
use Rattle.key_pin.specs.State.{PinState}
use Rattle.security_key.specs.declared.serving.Act.TheVariants as act
use Rattle.key_device.specs.Acts.{PassesOn, TakesAnswer, TakesDecision, TakesPacket, TakesWords}
use Rattle.key_device.specs.Acts.{WaitsForAnswer, WaitsForUser, WaitsForWords, WantsAnswer, WantsWords}
use Rattle.key_device.specs.Key.{IsLoaded, IsPinLoaded, IsSigned, KeyDeviceState, asked_at, plugged_in, without_its_token}
use Rattle.key_device.specs.declared.error.KeyError.{KeyError}
use Rattle.key_device.specs.declared.error.KeyError.TheVariants as errors
use Rattle.key_device.specs.declared.error.KeyLoadError.{KeyLoadError}
use Rattle.key_device.specs.declared.error.KeyLoadError.TheVariants as loads
use Rattle.key_program.specs.Told.{act_lines, line_of, packet_lines}
use Rattle.key_program.specs.Words.{Says, is_of_pin, words_of}
use Rattle.key_program.specs.declared.command.LineCommand.{LineCommand}
use Rattle.key_program.specs.declared.command.LineCommand.TheVariants as lines
use Rattle.key_program.specs.declared.lines.Fault.{Fault}
use Rattle.key_program.specs.declared.lines.Fault.TheVariants as faults
use Rattle.key_program.specs.declared.lines.Given.{Given}
use Rattle.key_program.specs.declared.lines.Given.TheVariants as given

-- a security key, and the packets that a line is answered by
pub record KeyLinesState : Type 0 where
  pub key : KeyDeviceState
  pub sent : List Packet

-- the keys that are passed, for whatever secret
abbrev pub keys_of : HandedKeys → Keys
keys_of keys alg secret = handed_key keys alg

-- 1 to 128 bytes
abbrev pub HasSize : List ℕ → Type 0
HasSize signature = (1 ≤ length signature) × (length signature ≤ 128)

-- the PIN's bytes, where it takes PINs
abbrev pub IsSavedPin : Option PinState → Option (Vec ℕ Global) → Type 0
IsSavedPin None bytes = bytes ≡ None
IsSavedPin (Some s) None = ⊥
IsSavedPin (Some s) (Some bytes) = bytes.items ≡ saved s

-- what a line that was read does, and gives beside packets
abbrev pub IsCarriedOut : LineCommand → KeyDeviceState → List Packet → Given → KeyDeviceState → List Packet → Type 0
IsCarriedOut (lines.Packet p) old before (given.Told t) new after = TakesPacket old p before t new after
IsCarriedOut (lines.Decide consent words keys) old before (given.Told t) new after =
    (public : Keys) → AgreesOn words.secret public (keys_of keys) → TakesDecision public old.stage old consent words before t new after
IsCarriedOut lines.Wait old before (given.Told t) new after = PassesOn old act.Wait before t new after
IsCarriedOut lines.Expire old before (given.Told t) new after = PassesOn old act.Expire before t new after
IsCarriedOut (lines.Compute words) old before (given.Told t) new after = TakesWords old.stage old words before t new after
IsCarriedOut (lines.Answer answer) old before (given.Told t) new after = TakesAnswer old.stage old answer.items before t new after
IsCarriedOut (lines.Signature signature) old before given.Nothing new after = HasSize signature.items × IsSigned old before signature.items new after
IsCarriedOut lines.Save old before (given.Saved bytes pin) new after =
    AppendsSaved old.authenticator [] bytes.items × IsSavedPin old.pin pin × (new ≡ old) × (after ≡ before)
IsCarriedOut (lines.Load bytes) old before given.Nothing new after = IsLoaded old bytes.items new × (after ≡ before)
IsCarriedOut (lines.LoadPin bytes) old before given.Nothing new after = IsPinLoaded old bytes.items new × (after ≡ before)
IsCarriedOut lines.Power old before given.Nothing new after = (new ≡ plugged_in old) × (after ≡ before)
IsCarriedOut lines.Over old before given.Nothing new after = (new ≡ without_its_token old) × (after ≡ before)
IsCarriedOut _ old before _ new after = ⊥

-- ---- a line that is refused

-- only if memory runs out
abbrev pub IsForMemory : KeyDeviceState → Fault → KeyDeviceState → Type 0
IsForMemory old f new = (f ≡ faults.Refused errors.Memory) × (new ≡ old)

-- if nothing waits for this, the key's own refusal; or memory ran out
abbrev pub IsRefusal : KeyError → Type 0 → Fault → Type 0
IsRefusal e waits f = ((f ≡ faults.Refused e) × (waits → ⊥)) ⊎ (f ≡ faults.Refused errors.Memory)

-- it has another length; or nothing waits for one; or, if memory runs out, what waited is gone
abbrev pub IsRefusedSignature : List ℕ → KeyDeviceState → Fault → KeyDeviceState → Type 0
IsRefusedSignature signature old faults.BadSignature new = (HasSize signature → ⊥) × (new ≡ old)
IsRefusedSignature signature old (faults.Refused errors.NotSigning) new = HasSize signature × (old.pending ≡ None) × (new ≡ old)
IsRefusedSignature signature old (faults.Refused errors.Memory) new = HasSize signature × IsSome old.pending × (new ≡ record old { pending = None })
IsRefusedSignature signature old _ new = ⊥

-- the bytes are no authenticator's
abbrev pub IsRefusedLoad : List ℕ → Fault → Type 0
IsRefusedLoad bytes faults.BadAuthenticator = (a : AuthenticatorState) → SoundState a → SavedOf a bytes → ⊥
IsRefusedLoad bytes (faults.Refused errors.Memory) = Unit {0}
IsRefusedLoad bytes _ = ⊥

-- or no PIN's; a key that takes none reads no such line
abbrev pub IsRefusedPin : List ℕ → KeyDeviceState → Fault → Type 0
IsRefusedPin bytes old faults.BadPin = (s : PinState) → FitsPin s.pin s.retries → bytes ≡ saved s → ⊥
IsRefusedPin bytes old faults.BadLine = old.pin ≡ None
IsRefusedPin bytes old _ = ⊥

abbrev pub IsRefused : LineCommand → KeyDeviceState → Fault → KeyDeviceState → Type 0
IsRefused (lines.Packet p) old f new = IsForMemory old f new
IsRefused (lines.Decide consent words keys) old f new = IsRefusal errors.NotWorking (WaitsForUser old.stage) f × (new ≡ old)
IsRefused lines.Wait old f new = IsRefusal errors.NotWorking (IsWorking old.device.state) f × (new ≡ old)
IsRefused lines.Expire old f new = IsForMemory old f new
IsRefused (lines.Compute words) old f new =
    IsRefusal errors.NotComputing (WaitsForWords old.stage) f × WantsWords old.stage old words new
IsRefused (lines.Answer answer) old f new =
    IsRefusal errors.NotAsking (WaitsForAnswer old.stage) f × WantsAnswer old.stage old answer.items new
IsRefused (lines.Signature signature) old f new = IsRefusedSignature signature.items old f new
IsRefused lines.Save old f new = IsForMemory old f new
IsRefused (lines.Load bytes) old f new = IsRefusedLoad bytes.items f × (new ≡ old)
IsRefused (lines.LoadPin bytes) old f new = IsRefusedPin bytes.items old f × (new ≡ old)
IsRefused lines.Power old f new = IsForMemory old f new
IsRefused lines.Over old f new = ⊥

-- what a load that is refused is reported as
abbrev pub told_of_load : KeyLoadError → Fault
told_of_load loads.BadAuthenticator = faults.BadAuthenticator
told_of_load loads.BadPin = faults.BadPin
told_of_load loads.NoPin = faults.BadLine
told_of_load loads.Memory = faults.Refused errors.Memory

-- ---- what is answered

abbrev pub given_lines : Given → KeyDeviceState → List ℕ
given_lines (given.Told t) k = act_lines t (asked_at k.stage) k.pending
given_lines (given.Saved bytes None) k = line_of (codes "saved ") bytes.items
given_lines (given.Saved bytes (Some pin)) k = line_of (codes "saved ") bytes.items ++ line_of (codes "pin ") pin.items
given_lines given.Nothing k = []

abbrev pub fault_line : Fault → List ℕ
fault_line faults.BadLine = codes "error bad line\n"
fault_line faults.BadSignature = codes "error a signature has 1 to 128 bytes\n"
fault_line faults.BadAuthenticator = codes "error the bytes are no saved authenticator\n"
fault_line faults.BadPin = codes "error the bytes are no saved PIN\n"
fault_line (faults.Refused errors.NotWorking) = codes "error no request waits for a decision\n"
fault_line (faults.Refused errors.NotComputing) = codes "error no request waits for words\n"
fault_line (faults.Refused errors.NotAsking) = codes "error nothing is asked\n"
fault_line (faults.Refused errors.NotSigning) = codes "error no request waits for a signature\n"
fault_line (faults.Refused errors.Memory) = codes "error out of memory\n"

abbrev pub done_lines : Result Given Fault → KeyDeviceState → List ℕ
done_lines (Ok g) k = given_lines g k
done_lines (Err f) k = fault_line f

-- ---- a line and its answer

-- the line's words say this, which a key that takes no PIN reads too, or the key takes PINs
pub record IsSaid (line : List ℕ) (k : KeyDeviceState) (c : LineCommand) : Type 0 where
  pub says : Says c (words_of line)
  pub takes : OnTrue (is_of_pin c) (IsSome k.pin)

-- what it says is done; or is refused; or nothing has happened to a line that has none of the forms, or was not read if memory runs out
abbrev pub Does : List ℕ → KeyDeviceState → Result Given Fault → KeyDeviceState → List Packet → Type 0
Does line old (Ok g) new sent = (c : LineCommand) × IsSaid line old c × IsCarriedOut c old [] g new sent
Does line old (Err f) new sent =
    (((c : LineCommand) × IsSaid line old c × IsRefused c old f new) ⊎ ((f ≡ faults.BadLine) × (new ≡ old))) × (sent ≡ [])

-- and what came of it is answered, then the packets to send
abbrev pub Answers : List ℕ → KeyDeviceState → List ℕ → KeyDeviceState → List ℕ → Type 0
Answers line old before new after =
    (done : Result Given Fault) × (sent : List Packet) × Does line old done new sent
    × (after ≡ before ++ (done_lines done new ++ (packet_lines sent ++ codes ".\n")))
