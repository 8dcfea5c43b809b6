-- What a whole list of packets gives: CTAP 2.1 sections 11.2.3 to 11.2.5, for the reply to one request.
use Rattle.std.specs.Prelude.{◌≡◌, ℕ, ◌+◌, ◌<◌, ◌≤◌, ◌↔◌, ◌⊎◌, List, [], ◌∷◌, length, take}
use Rattle.hidframe.specs.declared.Packet.{Packet}
use Rattle.hidframe.specs.declared.ctaphid.TheConstants.{CTAPHID_CBOR, CTAPHID_ERROR}
use Rattle.hidlink.specs.declared.collection.DeadKind.{DeadKind}
use Rattle.hidlink.specs.declared.collection.Received.{Received}
use Rattle.hidlink.specs.declared.collection.Received.TheVariants.{Message, DeviceError, Dead, Incomplete}
use Rattle.hidlink.specs.Wire.{Carries, Dies, HasEnded}

-- n is the length of the shortest beginning of ps with which all has ended, else of ps
pub record IsTaken (c : ℕ) (ps : List Packet) (n : ℕ) : Type 0 where
  pub within : n ≤ length ps
  pub shortest : (j : ℕ) → j < n → HasEnded c (take j ps) → ⊥
  pub ended : HasEnded c (take n ps) ⊎ (n ≡ length ps)

-- the answer is the message m after n packets
abbrev pub IsMessage : Received → List ℕ → ℕ → Type 0
IsMessage (Message message used) m n = (message.now ≡ m) × (used ≡ n)
IsMessage (DeviceError code used) m n = ⊥
IsMessage (Dead index kind) m n = ⊥
IsMessage Incomplete m n = ⊥

-- it is the device's error e after n packets
abbrev pub IsDeviceError : Received → ℕ → ℕ → Type 0
IsDeviceError (Message message used) e n = ⊥
IsDeviceError (DeviceError code used) e n = (code ≡ e) × (used ≡ n)
IsDeviceError (Dead index kind) e n = ⊥
IsDeviceError Incomplete e n = ⊥

-- it is that the packet at i, from 0, kills the list, and how
abbrev pub IsDeath : Received → ℕ → DeadKind → Type 0
IsDeath (Message message used) i k = ⊥
IsDeath (DeviceError code used) i k = ⊥
IsDeath (Dead index kind) i k = (index ≡ i) × (kind ≡ k)
IsDeath Incomplete i k = ⊥

-- it is that more packets are wanted
abbrev pub IsIncomplete : Received → Type 0
IsIncomplete (Message message used) = ⊥
IsIncomplete (DeviceError code used) = ⊥
IsIncomplete (Dead index kind) = ⊥
IsIncomplete Incomplete = Unit {0}

-- What the packets ps give on channel c, each answer with the beginning of ps by which it comes.
pub record Receives (c : ℕ) (ps : List Packet) (r : Received) : Type 0 where
  pub message : (m : List ℕ) (used : ℕ)
      → IsMessage r m used ↔ ((used ≤ length ps) × Carries c (take used ps) CTAPHID_CBOR m)
  pub device_error : (code used : ℕ)
      → IsDeviceError r code used
      ↔ ((used ≤ length ps) × Carries c (take used ps) CTAPHID_ERROR (code ∷ []))
  pub dead : (index : ℕ) (kind : DeadKind)
      → IsDeath r index kind ↔ ((index < length ps) × Dies c (take (index + 1) ps) kind)
  pub incomplete : IsIncomplete r ↔ (HasEnded c ps → ⊥)
