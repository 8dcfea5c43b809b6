-- What is owed of `Live::message`.
use Rattle.std.proofs.Common.{◌-◌, ◌+◌, ◌<◌, ◌≤◌, ℕ, List, [], ◌∷◌, length, take, subst}
use Rattle.hidframe.specs.declared.Packet.{Packet}
use Rattle.hidlink.specs.declared.collection.Outcome.TheVariants.{More, DeviceError, Dead}
use Rattle.hidlink.specs.Wire.{Carries, Dies, HasEnded}
use Rattle.ceremony.specs.Packets.{LiveState, HasGot}
use Rattle.ceremony.specs.Verdict.{Delivers}
use Rattle.ceremony.proofs.Coming.{came, dead, failed, nothing, one_taken, waits}
use Rattle.ceremony.proofs.live.Live.message.Goals as goal

abbrev NothingCame : LiveState → Type 0
NothingCame v = (ps : List Packet) (n : ℕ) (m : List ℕ) → HasGot v ps → Delivers v.cid ps n m → ⊥

pub overflow_sub-result : goal.overflow_sub-result
overflow_sub-result g c = (one_taken
    (record { cid = c.self.inside.collector.cid; shown = c.self.inside.collector.shown; taken = c.self.inside.taken }) c.in-Dead.kind c.in-Dead.ensures
    c.self.invariant.0 c.self.invariant.1).0

pub returns-in-More-clause-none : goal.returns-in-More-clause-none
returns-in-More-clause-none g c =
    subst (λ (v : LiveState). (ps : List Packet) → HasGot v ps → HasEnded v.cid ps → ⊥) c.self.view_is
    (waits (record { cid = c.self.inside.collector.cid; shown = c.self.inside.collector.shown; taken = c.self.inside.taken }) c.in-More.ensures)

pub returns-in-More-clause-nothing : goal.returns-in-More-clause-nothing
returns-in-More-clause-nothing g c =
    subst (λ (v : LiveState). NothingCame v) c.self.view_is
    (nothing (record { cid = c.self.inside.collector.cid; shown = c.self.inside.collector.shown; taken = c.self.inside.taken }) More c.in-More.ensures
    (λ message e. cc))

pub returns-in-Reply-clause-came : goal.returns-in-Reply-clause-came
returns-in-Reply-clause-came g c =
    subst (λ (v : LiveState). (ps : List Packet) → HasGot v ps → Delivers v.cid ps v.taken c.in-Reply.message.now) c.self.view_is
    (came (record { cid = c.self.inside.collector.cid; shown = c.self.inside.collector.shown; taken = c.self.inside.taken }) c.in-Reply.message
    c.in-Reply.ensures)

pub returns-in-DeviceError-clause-none : goal.returns-in-DeviceError-clause-none
returns-in-DeviceError-clause-none g c =
    subst (λ (v : LiveState). (ps : List Packet) → HasGot v ps → (n : ℕ) × (n ≤ length ps) × Carries v.cid (take n ps) 63 (c.in-DeviceError.code ∷ []))
    c.self.view_is
    (failed (record { cid = c.self.inside.collector.cid; shown = c.self.inside.collector.shown; taken = c.self.inside.taken }) c.in-DeviceError.code
    c.in-DeviceError.ensures)

pub returns-in-DeviceError-clause-nothing : goal.returns-in-DeviceError-clause-nothing
returns-in-DeviceError-clause-nothing g c =
    subst (λ (v : LiveState). NothingCame v) c.self.view_is
    (nothing (record { cid = c.self.inside.collector.cid; shown = c.self.inside.collector.shown; taken = c.self.inside.taken })
    (DeviceError c.in-DeviceError.code) c.in-DeviceError.ensures (λ message e. cc))

pub returns-in-Dead-clause-none : goal.returns-in-Dead-clause-none
returns-in-Dead-clause-none g c =
    subst (λ (v : LiveState). (ps : List Packet) → HasGot v ps → (c.self.inside.taken - 1 < length ps)
    × Dies v.cid (take (c.self.inside.taken - 1 + 1) ps) c.in-Dead.kind) c.self.view_is
    (dead (record { cid = c.self.inside.collector.cid; shown = c.self.inside.collector.shown; taken = c.self.inside.taken }) c.in-Dead.kind c.in-Dead.ensures)

pub returns-in-Dead-clause-nothing : goal.returns-in-Dead-clause-nothing
returns-in-Dead-clause-nothing g c =
    subst (λ (v : LiveState). NothingCame v) c.self.view_is
    (nothing (record { cid = c.self.inside.collector.cid; shown = c.self.inside.collector.shown; taken = c.self.inside.taken })
    (Dead c.in-Dead.kind) c.in-Dead.ensures (λ message e. cc))
