-- The items of a frame list, one after another.
use Rattle.std.proofs.Common.{◌≡◌, ◌≤◌, ◌<◌, ◌+◌, [], ◌∷◌, List, ℕ, suc, zero, length, map, ◌-◌, sym, ◌∙◌, ap, arith, refl, add-zero}
use Rattle.std.specs.Prelude.{slice_get, Some, None, Option, MatchOption}
use Rattle.std.proofs.Common.{inl, inr, subst}
use Rattle.std.proofs.lemmas.Bool.{cases_lt}
use Rattle.std.specs.List.{range_with_len}
use Rattle.hidframe.specs.declared.Packet.{Packet}
use Rattle.hidframe.specs.Pieces.{item, items_from, packet_count}

listed : {X : Type 0} (f : ℕ → X) (a n i : ℕ) → i < n → slice_get (map f (range_with_len a n)) i ≡ Some (f (a + i))
listed f a zero i h = absurd (omega arith)
listed f a (suc n) zero h = ap (λ k. Some (f k)) (sym (add-zero a))
listed f a (suc n) (suc i) h = listed f (a + 1) n i (omega arith) ∙ ap (λ k. Some (f k)) (omega arith)

unlisted : {X : Type 0} (f : ℕ → X) (a n i : ℕ) → n ≤ i → slice_get (map f (range_with_len a n)) i ≡ None
unlisted f a zero i h = refl
unlisted f a (suc n) zero h = absurd (omega arith)
unlisted f a (suc n) (suc i) h = unlisted f (a + 1) n i (omega arith)

pub get-items : (c cmd : ℕ) (m : List ℕ) (i : ℕ) → i < packet_count (length m) → slice_get (items_from c cmd m 0) i ≡ Some (item c cmd m i)
unfolding items_from
get-items c cmd m i h = listed (item c cmd m) 0 (packet_count (length m) - 0) i (omega arith) ∙ ap (λ k. Some (item c cmd m k)) (omega arith)

pub get-items-past : (c cmd : ℕ) (m : List ℕ) (i : ℕ) → packet_count (length m) ≤ i → slice_get (items_from c cmd m 0) i ≡ None
unfolding items_from
get-items-past c cmd m i h = unlisted (item c cmd m) 0 (packet_count (length m) - 0) i (omega arith)

-- what is left, one packet on
pub items-more : (c cmd : ℕ) (m : List ℕ) (i : ℕ) → i < packet_count (length m) → items_from c cmd m i ≡ item c cmd m i ∷ items_from c cmd m (i + 1)
unfolding items_from
items-more c cmd m i h = more (packet_count (length m) - i) (packet_count (length m) - (i + 1)) (omega arith)
  where
    more : (n k : ℕ) → n ≡ k + 1 → map (item c cmd m) (range_with_len i n) ≡ item c cmd m i ∷ map (item c cmd m) (range_with_len (i + 1) k)
    more zero k e = absurd (omega arith)
    more (suc n) k e = ap (λ j. item c cmd m i ∷ map (item c cmd m) (range_with_len (i + 1) j)) (omega arith)

pub items-none : (c cmd : ℕ) (m : List ℕ) (i : ℕ) → packet_count (length m) ≤ i → items_from c cmd m i ≡ []
unfolding items_from
items-none c cmd m i h = none (packet_count (length m) - i) (omega arith)
  where
    none : (n : ℕ) → n ≡ 0 → map (item c cmd m) (range_with_len i n) ≡ []
    none zero e = refl
    none (suc n) e = absurd (omega arith)

-- what is at i, and what is left from there on
pub items_at : (c cmd : ℕ) (m : List ℕ) (i : ℕ) (r : Option Packet) → r ≡ slice_get (items_from c cmd m 0) i
    → MatchOption r (items_from c cmd m i ≡ []) (λ p. items_from c cmd m i ≡ p ∷ items_from c cmd m (i + 1))
items_at c cmd m i r e = elim (cases_lt i (packet_count (length m))) [
  | inl h ↦ let is : r ≡ Some (item c cmd m i) = e ∙ get-items c cmd m i h in
      subst (λ (x : Option Packet). MatchOption x (items_from c cmd m i ≡ []) (λ p. items_from c cmd m i ≡ p ∷ items_from c cmd m (i + 1))) (sym is)
      (items-more c cmd m i h)
  | inr h ↦ let is : r ≡ None = e ∙ get-items-past c cmd m i h in
      subst (λ (x : Option Packet). MatchOption x (items_from c cmd m i ≡ []) (λ p. items_from c cmd m i ≡ p ∷ items_from c cmd m (i + 1))) (sym is)
      (items-none c cmd m i h)
]
