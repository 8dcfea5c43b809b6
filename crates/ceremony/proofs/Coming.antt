-- What came of the packets that a ceremony got.
use Rattle.std.proofs.Common.{◌≡◌, ℕ, ◌+◌, ◌-◌, ◌<◌, ◌≤◌, inl, List, [], ◌∷◌, length, take, refl, arith}
use Rattle.std.specs.Borrow.{Bor}
use Rattle.hidframe.specs.declared.Packet.{Packet}
use Rattle.hidlink.specs.declared.collection.DeadKind.{DeadKind}
use Rattle.hidlink.specs.declared.collection.Outcome.{Outcome}
use Rattle.hidlink.specs.declared.collection.Outcome.TheVariants.{More, Reply, DeviceError, Dead}
use Rattle.hidlink.specs.Feeds.{Gives}
use Rattle.hidlink.specs.Wire.{Carries, Dies, Got, HasEnded}
use Rattle.hidlink.proofs.Beginnings.{taken}
use Rattle.ceremony.specs.Packets.{LiveState, HasGot}
use Rattle.ceremony.specs.Verdict.{Delivers}
use Rattle.hidlink.proofs.Taken.{carried, died, died_at}

-- what the collector gives, of all packets that it got
abbrev pub TellsLive : LiveState → Outcome → Type 0
TellsLive v o = (ps : List Packet) → Got v.cid ps v.shown → Gives v.cid ps o

pub came : (v : LiveState) (message : Bor (List ℕ)) → TellsLive v (Reply message) → (ps : List Packet) → HasGot v ps → Delivers v.cid ps v.taken message.now
came v message tells ps g =
    let h = ((tells ps g.got).reply message.now).0 refl in
    carried v.cid v.taken ps h.0 16 message.now h.1 h.2 g.taken

pub waits : (v : LiveState) → TellsLive v More → (ps : List Packet) → HasGot v ps → HasEnded v.cid ps → ⊥
waits v tells ps g = (tells ps g.got).more.0 tt

pub failed : (v : LiveState) (code : ℕ) → TellsLive v (DeviceError code) → (ps : List Packet) → HasGot v ps
    → (n : ℕ) × (n ≤ length ps) × Carries v.cid (take n ps) 63 (code ∷ [])
failed v code tells ps g =
    let h = ((tells ps g.got).device_error code).0 refl in
    let k = carried v.cid v.taken ps h.0 63 (code ∷ []) h.1 h.2 g.taken in
    (v.taken, k.0, k.1)

pub one_taken : (v : LiveState) (kind : DeadKind) → TellsLive v (Dead kind) → (ps : List Packet) → HasGot v ps → (1 ≤ v.taken)
    × Dies v.cid (take v.taken ps) kind
one_taken v kind tells ps g =
    let h = ((tells ps g.got).dead kind).0 refl in
    died v.cid v.taken ps h.0 kind h.1 h.2 g.taken

pub dead : (v : LiveState) (kind : DeadKind) → TellsLive v (Dead kind) → (ps : List Packet) → HasGot v ps
    → (v.taken - 1 < length ps) × Dies v.cid (take (v.taken - 1 + 1) ps) kind
dead v kind tells ps g =
    let d = one_taken v kind tells ps g in
    let some : 1 ≤ v.taken = d.0 in
    died_at v.cid v.taken (v.taken - 1) ps kind d g.taken (omega arith)

-- where no message came
pub nothing : (v : LiveState) (o : Outcome) → TellsLive v o → ((message : Bor (List ℕ)) → o ≡ Reply message → ⊥) → (ps : List Packet) (n : ℕ) (m : List ℕ)
    → HasGot v ps → Delivers v.cid ps n m → ⊥
nothing v More tells none ps n m g d = (tells ps g.got).more.0 tt (inl (take n ps, 16, m, taken n ps, d.1))
nothing v (Reply message) tells none ps n m g d = none message refl
nothing v (DeviceError code) tells none ps n m g d = ((tells ps g.got).reply m).1 (take n ps, taken n ps, d.1)
nothing v (Dead kind) tells none ps n m g d = ((tells ps g.got).reply m).1 (take n ps, taken n ps, d.1)
