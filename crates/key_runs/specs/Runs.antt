-- Runs of a security key: what is done to it, act after act, in the words of the contracts of `KeyDevice` (key_device), and what each act may be to
-- its PIN (CTAP 2.1, section 6.5).
use Rattle.std.specs.Prelude.{◌≡◌, ◌⊎◌, ℕ, List, [], ◌∷◌, ◌++◌, None}
use Rattle.hidframe.specs.declared.Packet.{Packet}
use Rattle.authenticator.specs.Steps.{Keys}
use Rattle.authenticator.specs.declared.consent.Consent.{Consent}
use Rattle.authenticator.specs.declared.consent.Words.{Words}
use Rattle.pin_protocols.specs.Asks.{ask_view, entries}
use Rattle.security_key.specs.declared.serving.Act.TheVariants as act
use Rattle.key_pin.specs.Calls.{Call, handle, begin, leave, verify, spend, end_token, give_up, power_up, reset}
use Rattle.key_pin.specs.declared.words.PinWords.{PinWords}
use Rattle.key_device.specs.Acts.{PassesOn, TakesAnswer, TakesDecision, TakesPacket, TakesWords, WantsAnswer, WantsWords}
use Rattle.key_device.specs.Computing.{Entries, claim_of}
use Rattle.key_device.specs.Key.{IsLoaded, IsSigned, KeyDeviceState, plugged_in, without_its_token}
use Rattle.key_device.specs.Reading.{query_of}
use Rattle.key_device.specs.declared.stage.PinRequest.{PinRequest}
use Rattle.key_device.specs.declared.stage.PinRequest.TheVariants as requests
use Rattle.key_device.specs.declared.stage.Stage.{Stage}
use Rattle.key_device.specs.declared.stage.Stage.TheVariants as stages
use Rattle.key_device.specs.declared.stage.Told.{Told}

-- ---- acts

-- the calls of `KeyDevice` that change a key, but for one that loads another PIN: with that a run begins anew
pub data KeyAct : Type 0 where
  Waits : KeyAct
  Expires : KeyAct
  Takes : (p : Packet) → KeyAct
  Computes : (words : PinWords) → KeyAct
  Answers : (answer : List ℕ) → KeyAct
  Decides : (consent : Consent) (words : Words) → KeyAct
  Signs : (signature : List ℕ) → KeyAct
  PowersUp : KeyAct
  EndsToken : KeyAct
  Loads : (bytes : List ℕ) → KeyAct

-- what each does, where it is done; and, of those that may change a key without being done, what they leave
abbrev pub Acts : KeyDeviceState → KeyAct → KeyDeviceState → Type 0
Acts old Waits new = (before : List Packet) × (t : Told) × (after : List Packet) × PassesOn old act.Wait before t new after
Acts old Expires new = (before : List Packet) × (t : Told) × (after : List Packet) × PassesOn old act.Expire before t new after
Acts old (Takes p) new = (before : List Packet) × (t : Told) × (after : List Packet) × TakesPacket old p before t new after
Acts old (Computes words) new =
    ((before : List Packet) × (t : Told) × (after : List Packet) × TakesWords old.stage old words before t new after) ⊎ WantsWords old.stage old words new
Acts old (Answers answer) new =
    ((before : List Packet) × (t : Told) × (after : List Packet) × TakesAnswer old.stage old answer before t new after) ⊎ WantsAnswer old.stage old answer new
Acts old (Decides consent words) new =
    (public : Keys) × (before : List Packet) × (t : Told) × (after : List Packet) × TakesDecision public old.stage old consent words before t new after
Acts old (Signs signature) new =
    ((before : List Packet) × (after : List Packet) × IsSigned old before signature new after) ⊎ (new ≡ record old { pending = None })
Acts old PowersUp new = new ≡ plugged_in old
Acts old EndsToken new = new ≡ without_its_token old
Acts old (Loads bytes) new = IsLoaded old bytes new

-- ---- runs

pub record KeyMoment : Type 0 where
  pub old : KeyDeviceState
  pub act : KeyAct
  pub new : KeyDeviceState

abbrev pub IsKeyRun : KeyDeviceState → List KeyMoment → Type 0
IsKeyRun k [] = Unit {0}
IsKeyRun k (m ∷ ms) = (m.old ≡ k) × Acts m.old m.act m.new × IsKeyRun m.new ms

abbrev pub key_after : KeyDeviceState → List KeyMoment → KeyDeviceState
key_after k [] = k
key_after k (m ∷ ms) = key_after m.new ms

-- ---- what an act is to the PIN

-- words and answers are for the request that waits: a call of clientPIN, or whether a token grants it; without memory it is less, or nothing
abbrev pub MayCompute : PinRequest → PinWords → Entries → List Call → Type 0
MayCompute (requests.Command c) words es calls =
    (calls ≡ handle es words (query_of c) ∷ []) ⊎ ((calls ≡ begin words ∷ []) ⊎ ((calls ≡ leave es words (query_of c) ∷ []) ⊎ (calls ≡ [])))
MayCompute (requests.Protected a) words es calls = (calls ≡ verify es (claim_of a) ∷ []) ⊎ (calls ≡ [])

-- with a packet a try may be given up; by a decision the PIN may be reset, or a token that granted the request spent
abbrev pub MayCall : KeyAct → Stage → List Call → Type 0
MayCall (Computes words) (stages.Words r) calls = MayCompute r words [] calls
MayCall (Computes words) s calls = calls ≡ []
MayCall (Answers answer) (stages.Answer r c) calls = MayCompute r c.words (entries c.answers ++ (ask_view c.ask, answer) ∷ []) calls
MayCall (Answers answer) s calls = calls ≡ []
MayCall (Takes p) s calls = (calls ≡ give_up ∷ []) ⊎ (calls ≡ [])
MayCall (Decides consent words) stages.User calls = (calls ≡ reset ∷ []) ⊎ (calls ≡ [])
MayCall (Decides consent words) (stages.Granted g) calls = (calls ≡ spend ∷ []) ⊎ (calls ≡ [])
MayCall (Decides consent words) s calls = calls ≡ []
MayCall PowersUp s calls = calls ≡ power_up ∷ []
MayCall EndsToken s calls = calls ≡ end_token ∷ []
MayCall Waits s calls = calls ≡ []
MayCall Expires s calls = calls ≡ []
MayCall (Signs signature) s calls = calls ≡ []
MayCall (Loads bytes) s calls = calls ≡ []

-- those of moments, one after another
abbrev pub AreCalls : List KeyMoment → List Call → Type 0
AreCalls [] calls = calls ≡ []
AreCalls (m ∷ ms) calls = (now : List Call) × (later : List Call) × (calls ≡ now ++ later) × MayCall m.act m.old.stage now × AreCalls ms later
