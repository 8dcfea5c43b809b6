-- What a collector answers to a packet, and what it tells of all packets so far.
use Rattle.std.specs.Prelude.{◌≡◌, ℕ, ◌↔◌, List, [], ◌∷◌, ◌++◌, Result, Ok, Err}
use Rattle.hidframe.specs.declared.Packet.{Packet}
use Rattle.hidframe.specs.declared.ctaphid.TheConstants.{CTAPHID_CBOR, CTAPHID_ERROR}
use Rattle.hidlink.specs.declared.collection.DeadKind.{DeadKind}
use Rattle.hidlink.specs.declared.collection.Ended.{Ended}
use Rattle.hidlink.specs.declared.collection.Outcome.{Outcome}
use Rattle.hidlink.specs.declared.collection.Outcome.TheVariants.{More, Reply, DeviceError, Dead}
use Rattle.hidlink.specs.Wire.{Carries, Dies, HasEnded, IsBeginning, Shown, Replied, Failed, Died}
use Rattle.hidlink.specs.Steps.{IsEnded}

-- the answer is More; the reply m; the error `code`; the death of this kind; that it has ended before
abbrev pub IsMore : Result Outcome Ended → Type 0
IsMore (Ok More) = Unit {0}
IsMore (Ok (Reply bytes)) = ⊥
IsMore (Ok (DeviceError code)) = ⊥
IsMore (Ok (Dead kind)) = ⊥
IsMore (Err e) = ⊥

abbrev pub IsReply : Result Outcome Ended → List ℕ → Type 0
IsReply (Ok (Reply bytes)) m = bytes.now ≡ m
IsReply (Ok More) m = ⊥
IsReply (Ok (DeviceError code)) m = ⊥
IsReply (Ok (Dead kind)) m = ⊥
IsReply (Err e) m = ⊥

abbrev pub IsDeviceError : Result Outcome Ended → ℕ → Type 0
IsDeviceError (Ok (DeviceError code)) e = code ≡ e
IsDeviceError (Ok More) e = ⊥
IsDeviceError (Ok (Reply bytes)) e = ⊥
IsDeviceError (Ok (Dead kind)) e = ⊥
IsDeviceError (Err err) e = ⊥

abbrev pub IsDeath : Result Outcome Ended → DeadKind → Type 0
IsDeath (Ok (Dead kind)) k = kind ≡ k
IsDeath (Ok More) k = ⊥
IsDeath (Ok (Reply bytes)) k = ⊥
IsDeath (Ok (DeviceError code)) k = ⊥
IsDeath (Err e) k = ⊥

abbrev pub IsEndedAnswer : Result Outcome Ended → Type 0
IsEndedAnswer (Ok fed) = ⊥
IsEndedAnswer (Err e) = Unit {0}

-- What a feed of the packet p after the packets ps answers, with what list each answer comes.
pub record CollectorAnswers (c : ℕ) (ps : List Packet) (p : Packet) (r : Result Outcome Ended) : Type 0 where
  pub reply : (m : List ℕ) → IsReply r m ↔ Carries c (ps ++ p ∷ []) CTAPHID_CBOR m
  pub device_error : (code : ℕ)
      → IsDeviceError r code ↔ Carries c (ps ++ p ∷ []) CTAPHID_ERROR (code ∷ [])
  pub dead : (kind : DeadKind) → IsDeath r kind ↔ Dies c (ps ++ p ∷ []) kind
  pub ended : IsEndedAnswer r ↔ HasEnded c ps
  pub more : IsMore r ↔ (HasEnded c (ps ++ p ∷ []) → ⊥)

-- What the packets ps gave, however many came after the end.
pub record Gives (c : ℕ) (ps : List Packet) (outcome : Outcome) : Type 0 where
  pub reply : (m : List ℕ) → IsReply (Ok outcome) m
      ↔ ((qs : List Packet) × IsBeginning qs ps × Carries c qs CTAPHID_CBOR m)
  pub device_error : (code : ℕ) → IsDeviceError (Ok outcome) code
      ↔ ((qs : List Packet) × IsBeginning qs ps × Carries c qs CTAPHID_ERROR (code ∷ []))
  pub dead : (kind : DeadKind) → IsDeath (Ok outcome) kind
      ↔ ((qs : List Packet) × IsBeginning qs ps × Dies c qs kind)
  pub more : IsMore (Ok outcome) ↔ (HasEnded c ps → ⊥)

-- what an outcome says of what the collector shows
abbrev pub TellsOutcome : Shown → Outcome → Type 0
TellsOutcome t More = IsEnded t → ⊥
TellsOutcome t (Reply bytes) = t ≡ Replied bytes.now
TellsOutcome t (DeviceError code) = t ≡ Failed code
TellsOutcome t (Dead kind) = t ≡ Died kind
