-- The keepalives that a device sends while its user is waited for.
use Rattle.std.proofs.Common.{◌≡◌, ℕ, zero, suc, ◌<◌, ◌^◌, List, [], ◌∷◌, ◌++◌, length, map, refl, sym, ◌∙◌, ap, arith, inr, append-nil, slice_index}
use Rattle.std.specs.List.{AllByRecursion}
use Rattle.hidframe.specs.declared.Packet.{Packet}
use Rattle.hidframe.specs.Packets.{Initial, fields}
use Rattle.hidframe.specs.Frames.{continuations, joined}
use Rattle.hidframe.specs.Pieces.{frame_list}
use Rattle.hidlink.specs.Wire.{IsKeepalive, channel_of}
use Rattle.agreement.specs.Links.{Links}

-- keepalives on c
abbrev pub AreWaits : ℕ → List Packet → Type 0
AreWaits c ps = AllByRecursion (λ p. IsKeepalive (fields p) × (channel_of (fields p) ≡ c)) ps

nothing : (ps : List Packet) → map fields ps ≡ [] → ps ≡ []
nothing [] e = refl
nothing (p ∷ ps) e = absurd cc

is_wait : (c : ℕ) (ps : List Packet) (first rest : List ℕ) (later : List (List ℕ)) → map fields ps ≡ Initial c 59 1 first ∷ continuations c 0 later
    → length later ≡ 0
    → first ++ joined later ≡ 2 ∷ rest → AreWaits c ps
is_wait c [] first rest [] e none begins = absurd cc
is_wait c (p ∷ ps) first rest [] e none begins =
    let head : fields p ≡ Initial c 59 1 first = cc in
    let tail : map fields ps ≡ [] = cc in
    let first_is : first ≡ 2 ∷ rest = sym (append-nil first) ∙ begins in
    let status : slice_index first 0 ≡ 2 = ap (λ bs. slice_index bs 0) first_is in
    let keepalive : IsKeepalive (fields p) = rw head (refl, refl, inr status) in
    let on : channel_of (fields p) ≡ c = rw head refl in
    ((keepalive, on), rw (nothing ps tail) tt)
is_wait c ps first rest (area ∷ later) e none begins = absurd cc

pub one_keepalive : Links → (c : ℕ) → c < 2 ^ 32 → AreWaits c (frame_list c 59 (2 ∷ []))
one_keepalive links c low =
    let low_byte : (k : ℕ) → slice_index (2 ∷ []) k < 256 = λ k. small k in
    let z = links.frames c 59 (2 ∷ []) low (omega arith) (omega arith) low_byte in
    let x = z.frames.frames in
    is_wait c (frame_list c 59 (2 ∷ [])) x.first x.rest x.later x.packets x.count x.begins
  where
    small : (k : ℕ) → slice_index (2 ∷ []) k < 256
    small zero = omega arith
    small (suc k) = omega arith
