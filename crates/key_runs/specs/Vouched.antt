-- What stands behind a request that a key carries out for a user whom it calls verified (CTAP 2.1, sections 6.1.2, 6.2.2 and 6.5.2.1).
use Rattle.std.specs.Prelude.{◌≡◌, ℕ, List, ◌∷◌, ◌++◌, true, Some, None}
use Rattle.std.specs.List.{AllByRecursion}
use Rattle.authenticator.specs.declared.consent.Consent.{Consent}
use Rattle.key_pin.specs.Calls.{Call, nexts}
use Rattle.key_pin.specs.Given.{IsVouchedFor}
use Rattle.key_pin.specs.State.{PinState}
use Rattle.key_device.specs.Computing.{Entries, IsGrantedRequest, claim_of}
use Rattle.key_device.specs.Deciding.{Handed, handed}
use Rattle.key_device.specs.Key.{IsPinLoaded, IsSound, KeyDeviceState}
use Rattle.key_device.specs.declared.stage.GrantedRequest.{GrantedRequest}
use Rattle.key_device.specs.declared.stage.ProtectedAsked.{ProtectedAsked}
use Rattle.key_device.specs.declared.stage.Stage.{Stage}
use Rattle.key_device.specs.declared.stage.Stage.TheVariants as stages
use Rattle.key_runs.specs.Runs.{AreCalls, IsKeyRun, KeyMoment, key_after}

-- At one of these moments the request was granted what it asks, by a token in use: which by the calls of the moments before it was given for the
-- right PIN, and not ended since (`IsVouchedFor`). The request has been waiting for the user since
pub record IsVouched (s : PinState) (past : List KeyMoment) (g : GrantedRequest) : Type 0 where
  pub before : List KeyMoment
  pub moment : KeyMoment
  pub later : List KeyMoment
  pub here : past ≡ before ++ moment ∷ later
  pub calls : List Call
  pub are_calls : AreCalls before calls
  pub asked : ProtectedAsked
  pub same : IsGrantedRequest asked g
  pub answers : Entries
  pub vouched : IsVouchedFor calls s answers (claim_of asked)
  pub waits : AllByRecursion (λ m. m.new.stage ≡ stages.Granted g) (moment ∷ later)

-- no token has granted anything yet
abbrev pub IsUngranted : Stage → Type 0
IsUngranted stage = (g : GrantedRequest) → stage ≡ stages.Granted g → ⊥

-- of a key with this PIN, after a run
pub record Holds (s : PinState) (run : List KeyMoment) (k : KeyDeviceState) : Type 0 where
  -- the PIN is what calls have made of it, which the acts are to it
  pub calls : List Call
  pub are_calls : AreCalls run calls
  pub pin : k.pin ≡ Some (nexts calls s)
  -- a request that is granted was granted so
  pub granted : (g : GrantedRequest) → k.stage ≡ stages.Granted g → IsVouched s run g
  -- and with none other is the authenticator handed a user who is verified
  pub verified : (bs : List ℕ) (consent : Consent) (h : Handed) → handed k.pin k.stage bs consent ≡ Some h → h.consent.verified ≡ true
      → (g : GrantedRequest) × (k.stage ≡ stages.Granted g) × IsVouched s run g

abbrev pub KeyRuns : Type 0
KeyRuns =
    (k : KeyDeviceState) (s : PinState) (run : List KeyMoment) → k.pin ≡ Some s → s.token ≡ None → IsUngranted k.stage → IsKeyRun k run
    → Holds s run (key_after k run)

-- so it is from each load of a PIN on, whatever the key was before: by the PIN that was loaded, and calls since then
abbrev pub LoadedRuns : Type 0
LoadedRuns =
    (old k : KeyDeviceState) (bytes : List ℕ) (run : List KeyMoment) → IsSound old → (loads : IsPinLoaded old bytes k) → IsKeyRun k run
    → Holds loads.0 run (key_after k run)
