-- How a collector's fields are seen, and what private functions keep of them.
use Rattle.std.specs.Prelude.{◌≡◌, ℕ, ◌+◌, ◌*◌, ◌<◌, ◌≤◌, List, length}
use Rattle.hidframe.specs.Frames.{continuation_count}
use Rattle.hidframe.specs.declared.ctaphid.TheConstants.{CONT_DATA_SIZE, INIT_DATA_SIZE, MAX_PAYLOAD_SIZE}
use Rattle.hidlink.specs.Wire.{Shown, Waiting, Receiving, Replied, Failed, Died}
use Rattle.hidlink.specs.Steps.{IsEnded}
use Rattle.hidlink.specs.declared.collection.Received.{Received}
use Rattle.hidlink.specs.declared.collection.Received.TheVariants.{Message, DeviceError, Dead, Incomplete}
use Rattle.hidlink.specs.declared.collection.Phase.{Phase}
use Rattle.hidlink.specs.declared.collection.Phase.TheVariants as phase

-- what a collector's callers see
pub record Collected : Type 0 where
  pub cid : ℕ
  pub shown : Shown

-- what it shows in this phase, with these bytes in its room
abbrev pub shown_view : Phase → List ℕ → Shown
shown_view phase.Idle bytes = Waiting
shown_view (phase.Within len next) bytes = Receiving len next bytes
shown_view phase.Whole bytes = Replied bytes
shown_view (phase.Fault code) bytes = Failed code
shown_view (phase.Over kind) bytes = Died kind

-- the bytes that are there in this phase
abbrev pub Fits : Phase → List ℕ → Type 0
Fits phase.Idle bytes = Unit {0}
Fits (phase.Within len next) bytes =
    (length bytes ≡ INIT_DATA_SIZE + CONT_DATA_SIZE * next) × (next < continuation_count len) × (len ≤ MAX_PAYLOAD_SIZE)
Fits phase.Whole bytes = Unit {0}
Fits (phase.Fault code) bytes = Unit {0}
Fits (phase.Over kind) bytes = Unit {0}

-- what an answer after n packets says of what is shown
abbrev pub ShowsAfter : Shown → ℕ → Received → Type 0
ShowsAfter s n (Message message used) = (s ≡ Replied message.now) × (used ≡ n)
ShowsAfter s n (DeviceError code used) = (s ≡ Failed code) × (used ≡ n)
ShowsAfter s n (Dead index kind) = (s ≡ Died kind) × (index + 1 ≡ n)
ShowsAfter s n Incomplete = IsEnded s → ⊥
