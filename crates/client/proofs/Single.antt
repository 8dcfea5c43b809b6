-- A message of one byte is one packet.
use Rattle.std.proofs.Common.{◌≡◌, ℕ, ◌<◌, ◌^◌, [], ◌∷◌, ◌∙◌, ap, subst, arith}
use Rattle.std.specs.Prelude.{Some, slice_get}
use Rattle.hidframe.specs.declared.Packet.{Packet}
use Rattle.hidframe.specs.Frames.{TheZeroFrames}
use Rattle.hidframe.specs.Pieces.{item, items_from}
use Rattle.hidframe.proofs.Bytes.{bytes-cons}
use Rattle.hidframe.proofs.Existence.{are_zero_frames}
use Rattle.hidframe.proofs.Items.{get-items, items-more, items-none}
use Rattle.hidframe.proofs.Uniqueness.{the_items}

-- its packets
one_item : (c cmd n : ℕ) → items_from c cmd (n ∷ []) 0 ≡ item c cmd (n ∷ []) 0 ∷ []
one_item c cmd n = items-more c cmd (n ∷ []) 0 (omega arith) ∙ ap (λ ps. item c cmd (n ∷ []) 0 ∷ ps) (items-none c cmd (n ∷ []) 1 (omega arith))

-- the first of them is there
pub first_item : (c cmd n : ℕ) → slice_get (items_from c cmd (n ∷ []) 0) 0 ≡ Some (item c cmd (n ∷ []) 0)
first_item c cmd n = get-items c cmd (n ∷ []) 0 (omega arith)

-- and is all of them
pub single : (c cmd n : ℕ) (p : Packet) → c < 2 ^ 32 → cmd < 128 → n < 256 → item c cmd (n ∷ []) 0 ≡ p → TheZeroFrames c cmd (n ∷ []) (p ∷ [])
single c cmd n p low small byte is =
    let all : items_from c cmd (n ∷ []) 0 ≡ p ∷ [] = one_item c cmd n ∙ ap (λ q. q ∷ []) is in
    subst (λ ps. TheZeroFrames c cmd (n ∷ []) ps) all record {
      frames = are_zero_frames c cmd (n ∷ []) low small (omega arith) (bytes-cons n [] byte (λ k. omega arith));
      only = λ qs z. the_items c cmd (n ∷ []) qs z;
    }
