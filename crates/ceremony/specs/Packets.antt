-- What a ceremony has taken of the packets that it got.
use Rattle.std.specs.Prelude.{◌↔◌, ℕ, List, [], ◌∷◌, ◌++◌, Result, Ok, Err}
use Rattle.hidframe.specs.declared.Packet.{Packet}
use Rattle.hidlink.specs.Receives.{IsTaken}
use Rattle.hidlink.specs.Wire.{Got, HasEnded, Shown}
use Rattle.hidlink.specs.declared.collection.Ended.{Ended}
use Rattle.ceremony.specs.declared.live.Fed.{Fed}
use Rattle.ceremony.specs.declared.live.Fed.TheVariants as fed

-- what a ceremony's callers see of its packets: the channel, what its collector shows, and how many it has taken
pub record LiveState : Type 0 where
  pub cid : ℕ
  pub shown : Shown
  pub taken : ℕ

-- it got the packets ps
pub record HasGot (live : LiveState) (ps : List Packet) : Type 0 where
  pub got : Got live.cid ps live.shown
  pub taken : IsTaken live.cid ps live.taken

-- What a feed of the packet p after the packets ps answers.
abbrev pub IsReady : Result Fed Ended → Type 0
IsReady (Ok fed.Ready) = Unit {0}
IsReady (Ok fed.More) = ⊥
IsReady (Err e) = ⊥

abbrev pub IsMore : Result Fed Ended → Type 0
IsMore (Ok fed.Ready) = ⊥
IsMore (Ok fed.More) = Unit {0}
IsMore (Err e) = ⊥

abbrev pub IsEnded : Result Fed Ended → Type 0
IsEnded (Ok f) = ⊥
IsEnded (Err e) = Unit {0}

pub record LiveAnswers (c : ℕ) (ps : List Packet) (p : Packet) (r : Result Fed Ended) : Type 0 where
  pub ended : IsEnded r ↔ HasEnded c ps
  pub ready : IsReady r ↔ ((HasEnded c ps → ⊥) × HasEnded c (ps ++ p ∷ []))
  pub more : IsMore r ↔ (HasEnded c (ps ++ p ∷ []) → ⊥)
