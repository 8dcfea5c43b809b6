-- How many packets are taken, and what they carry.
use Rattle.std.proofs.Common.{◌≡◌, ℕ, ◌+◌, ◌<◌, ◌≤◌, inl, inr, List, [], ◌∷◌, ◌++◌, length, take, refl, sym, ◌∙◌, ap, subst, arith}
use Rattle.std.proofs.lemmas.List.{length-append, length_push, take-append-le, take_at, take_all}
use Rattle.hidframe.specs.declared.Packet.{Packet}
use Rattle.hidlink.specs.declared.collection.DeadKind.{DeadKind}
use Rattle.hidlink.specs.Receives.{IsTaken}
use Rattle.hidlink.specs.Wire.{Carries, Dies, HasEnded, IsBeginning}
use Rattle.hidlink.proofs.Beginnings.{has_ended_later, taken}
use Rattle.hidlink.proofs.Laws.{carried_ends, carries_first, death_ends, dies_first, one_place}

-- where all has not ended, each packet is taken
pub all_taken : (c : ℕ) (ps : List Packet) (n : ℕ) → IsTaken c ps n → (HasEnded c ps → ⊥) → n ≡ length ps
all_taken c ps n t open_still = elim t.ended [ inl e ↦ absurd (open_still (has_ended_later (take n ps) ps (taken n ps) e)) | inr e ↦ e ]

pub taken_on : (c : ℕ) (ps : List Packet) (p : Packet) (n : ℕ) → IsTaken c ps n → (HasEnded c ps → ⊥) → IsTaken c (ps ++ p ∷ []) (n + 1)
taken_on c ps p n t open_still =
    let all : n ≡ length ps = all_taken c ps n t open_still in
    let size : length (ps ++ p ∷ []) ≡ length ps + 1 = length_push ps p in
    record {
      within = omega arith;
      shortest = λ j less e. open_still (has_ended_later (take j ps) ps (taken j ps) (subst (HasEnded c) (take-append-le j ps (p ∷ []) (omega arith)) e));
      ended = inr (omega arith);
    }

-- once all has ended, none is
pub taken_still : (c : ℕ) (ps : List Packet) (p : Packet) (n : ℕ) → IsTaken c ps n → HasEnded c ps → IsTaken c (ps ++ p ∷ []) n
taken_still c ps p n t over =
    let within : n ≤ length ps = t.within in
    let size : length (ps ++ p ∷ []) ≡ length ps + 1 = length_push ps p in
    let E : List Packet → Type 0 = HasEnded c in
    record {
      within = omega arith;
      shortest = λ j less e. t.shortest j less (subst E (take-append-le j ps (p ∷ []) (omega arith)) e);
      ended = inl (subst E (sym (take-append-le n ps (p ∷ []) within)) (elim t.ended [
        | inl e ↦ e
        | inr all ↦ subst E (sym (take_all n ps (omega arith))) over
      ]));
    }

-- a number of packets with which all has ended, and with no fewer, is how many are taken
pub taken_is : (c n t : ℕ) (ps : List Packet) → n ≤ length ps → HasEnded c (take n ps) → ((j : ℕ) → j < n → HasEnded c (take j ps) → ⊥) → IsTaken c ps t → n ≡ t
taken_is c n t ps within over none taken =
    one_place n t (λ less. taken.shortest n less over) (λ less. elim taken.ended [ inl e ↦ none t less e | inr all ↦ omega arith ])

begins_take : (qs ps : List Packet) → IsBeginning qs ps → (length qs ≤ length ps) × (qs ≡ take (length qs) ps)
begins_take qs ps b =
    let size : length ps ≡ length qs + length b.0 = ap length b.1 ∙ length-append qs b.0 in
    (omega arith, sym (take_at qs b.0 (length qs) refl) ∙ ap (take (length qs)) (sym b.1))

-- what a beginning of the packets carries is carried by those taken
pub carried : (c t : ℕ) (ps qs : List Packet) (cmd : ℕ) (m : List ℕ) → IsBeginning qs ps → Carries c qs cmd m → IsTaken c ps t → (t ≤ length ps)
    × Carries c (take t ps) cmd m
carried c t ps qs cmd m b h taken =
    let k = begins_take qs ps b in
    let h' : Carries c (take (length qs) ps) cmd m = subst (λ (xs : List Packet). Carries c xs cmd m) k.1 h in
    let same : length qs ≡ t = taken_is c (length qs) t ps k.0 (carried_ends c (take (length qs) ps) cmd m h')
    (λ j less. carries_first c j (length qs) ps cmd m less k.0 h') taken in
    (taken.within, subst (λ (n : ℕ). Carries c (take n ps) cmd m) same h')

-- the packet after which no message can come is the last one taken
pub died : (c t : ℕ) (ps qs : List Packet) (kind : DeadKind) → IsBeginning qs ps → Dies c qs kind → IsTaken c ps t → (1 ≤ t) × Dies c (take t ps) kind
died c t ps qs kind b d taken =
    let k = begins_take qs ps b in
    let d' : Dies c (take (length qs) ps) kind = subst (λ (xs : List Packet). Dies c xs kind) k.1 d in
    let same : length qs ≡ t = taken_is c (length qs) t ps k.0 (death_ends c (take (length qs) ps) kind d')
    (λ j less. dies_first c j (length qs) ps kind less k.0 d') taken in
    let some : length qs ≡ length d.before + 1 = ap length d.ends ∙ length_push d.before d.last in
    (omega arith, subst (λ (n : ℕ). Dies c (take n ps) kind) same d')

-- so the index of it
pub died_at : (c t i : ℕ) (ps : List Packet) (kind : DeadKind) → (1 ≤ t) × Dies c (take t ps) kind → IsTaken c ps t → i + 1 ≡ t → (i < length ps)
    × Dies c (take (i + 1) ps) kind
died_at c t i ps kind d taken e =
    let within : t ≤ length ps = taken.within in
    (omega arith, subst (λ (n : ℕ). Dies c (take n ps) kind) (sym e) d.1)
