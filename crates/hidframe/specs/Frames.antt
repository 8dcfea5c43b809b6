-- The packets of a message: CTAP 2.1 section 11.2.4.
use Rattle.std.specs.Prelude.{◌≡◌, ℕ, ◌+◌, ◌-◌, ◌/◌, ◌≤◌, List, [], ◌∷◌, ◌++◌, length, map, replicate}
use Rattle.std.specs.List.{flat_map, AllByRecursion}
use Rattle.hidframe.specs.declared.Packet.{Packet}
use Rattle.hidframe.specs.declared.ctaphid.TheConstants.{INIT_DATA_SIZE, CONT_DATA_SIZE, MAX_PAYLOAD_SIZE}
use Rattle.hidframe.specs.Packets.{Fields, Initial, Continuation, fields, IsPacket}

-- how many continuations follow the initial packet of a message of n bytes: the bytes that don't fit
-- into it by 59, rounded up
abbrev pub continuation_count : ℕ → ℕ
continuation_count n = (n - INIT_DATA_SIZE + (CONT_DATA_SIZE - 1)) / CONT_DATA_SIZE

-- the data areas, one after another
abbrev pub joined : List (List ℕ) → List ℕ
joined areas = flat_map (λ area. area) areas

-- continuations on c with these data areas, numbered from k on
abbrev pub continuations : ℕ → ℕ → List (List ℕ) → List Fields
continuations c k [] = []
continuations c k (area ∷ areas) = Continuation c k area ∷ continuations c (k + 1) areas

-- The packets are the message m on c: an initial packet with the command and the length, then
-- continuations numbered from 0 on, as many as the length needs. The data areas joined begin with m.
pub record Frames (c cmd : ℕ) (m : List ℕ) (ps : List Packet) : Type 0 where
  pub first : List ℕ
  pub later : List (List ℕ)
  pub rest : List ℕ
  pub room : length m ≤ MAX_PAYLOAD_SIZE
  pub packets : map fields ps ≡ Initial c cmd (length m) first ∷ continuations c 0 later
  pub count : length later ≡ continuation_count (length m)
  pub begins : first ++ joined later ≡ m ++ rest

-- the packets are m, and the bytes after it are zeros
pub record ZeroFrames (c cmd : ℕ) (m : List ℕ) (ps : List Packet) : Type 0 where
  pub whole : AllByRecursion IsPacket ps
  pub frames : Frames c cmd m ps
  pub zeros : frames.rest ≡ replicate (length frames.rest) 0

-- they are, and no other packets are
pub record TheZeroFrames (c cmd : ℕ) (m : List ℕ) (ps : List Packet) : Type 0 where
  pub frames : ZeroFrames c cmd m ps
  pub only : (qs : List Packet) → ZeroFrames c cmd m qs → qs ≡ ps
