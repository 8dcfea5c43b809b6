-- The packets that are left to send.
use Rattle.std.proofs.Common.{◌≡◌, ℕ, ◌+◌, ◌-◌, ◌<◌, ◌≤◌, inl, inr, List, [], ◌∷◌, length, sym, ◌∙◌, arith}
use Rattle.std.specs.Prelude.{Option, None, Some, MatchOption, slice_get}
use Rattle.std.proofs.lemmas.Bool.{cases_lt}
use Rattle.std.proofs.lemmas.List.FromFn.{length-map-range_with_len}
use Rattle.hidframe.specs.declared.Packet.{Packet}
use Rattle.hidframe.specs.Pieces.{item, items_from, packet_count}
use Rattle.hidframe.proofs.Items.{items-more, items-none, items_at}

-- nothing is left from packet n on exactly if there are not more packets
pub nothing_left : (c cmd : ℕ) (m : List ℕ) (n : ℕ) → packet_count (length m) ≤ n → items_from c cmd m n ≡ []
nothing_left c cmd m n h = items-none c cmd m n h

pub none_left : (c cmd : ℕ) (m : List ℕ) (n : ℕ) → items_from c cmd m n ≡ [] → packet_count (length m) ≤ n
none_left c cmd m n e = elim (cases_lt n (packet_count (length m))) [
  | inl h ↦ let x = sym (items-more c cmd m n h) ∙ e in absurd (cc)
  | inr h ↦ h
]

-- one packet taken from what is left
pub takes_one : (c cmd : ℕ) (m : List ℕ) (n : ℕ) (r : Option Packet) → n < packet_count (length m) → r ≡ slice_get (items_from c cmd m 0) n
    → MatchOption r ((items_from c cmd m n ≡ []) × (items_from c cmd m (n + 1) ≡ [])) (λ p. items_from c cmd m n ≡ p ∷ items_from c cmd m (n + 1))
takes_one c cmd m n r h e = both r (items_at c cmd m n r e)
  where
    both : (r : Option Packet) → MatchOption r (items_from c cmd m n ≡ []) (λ p. items_from c cmd m n ≡ p ∷ items_from c cmd m (n + 1))
        → MatchOption r ((items_from c cmd m n ≡ []) × (items_from c cmd m (n + 1) ≡ [])) (λ p. items_from c cmd m n ≡ p ∷ items_from c cmd m (n + 1))
    both None k = let x = sym (items-more c cmd m n h) ∙ k in absurd (cc)
    both (Some p) k = k

-- at most 129 packets are left
pub few_left : (c cmd : ℕ) (m : List ℕ) (n : ℕ) → length m ≤ 7609 → length (items_from c cmd m n) ≤ 129
unfolding items_from
few_left c cmd m n room =
    let size : length (items_from c cmd m n) ≡ packet_count (length m) - n = length-map-range_with_len (item c cmd m) n (packet_count (length m) - n) in
    omega arith
