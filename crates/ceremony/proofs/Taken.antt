-- A ceremony with a packet more, before the end and after it.
use Rattle.std.proofs.Common.{◌≡◌, ℕ, ◌+◌, List, [], ◌∷◌, ◌++◌, sym, subst}
use Rattle.hidframe.specs.declared.Packet.{Packet}
use Rattle.hidlink.specs.Wire.{Got, HasEnded, Shown}
use Rattle.hidlink.proofs.Taken.{taken_on, taken_still}
use Rattle.ceremony.specs.Packets.{HasGot}

pub got_on : (c k taken : ℕ) (old new : Shown) (ps : List Packet) (p : Packet) → HasGot (record { cid = c; shown = old; taken = taken }) ps → k ≡ c
    → Got c (ps ++ p ∷ []) new → (HasEnded c ps → ⊥) → HasGot (record { cid = k; shown = new; taken = taken + 1 }) (ps ++ p ∷ [])
got_on c k taken old new ps p h same got open_still =
    let P : ℕ → Type 0 = λ i. HasGot (record { cid = i; shown = new; taken = taken + 1 }) (ps ++ p ∷ []) in
    subst P (sym same) (record { got = got; taken = taken_on c ps p taken h.taken open_still })

pub got_still : (c k taken : ℕ) (old new : Shown) (ps : List Packet) (p : Packet) → HasGot (record { cid = c; shown = old; taken = taken }) ps → k ≡ c
    → Got c (ps ++ p ∷ []) new → HasEnded c ps → HasGot (record { cid = k; shown = new; taken = taken }) (ps ++ p ∷ [])
got_still c k taken old new ps p h same got over =
    let P : ℕ → Type 0 = λ i. HasGot (record { cid = i; shown = new; taken = taken }) (ps ++ p ∷ []) in
    subst P (sym same) (record { got = got; taken = taken_still c ps p taken h.taken over })
