-- What appending one spelling after the other leaves.
use Rattle.std.proofs.Common.{◌≡◌, ℕ, suc, ◌+◌, ◌-◌, ◌^◌, ◌<◌, ◌≤◌, Bool, true, false, List, [], ◌∷◌, ◌++◌, length, take, drop, get_or, Err, refl}
use Rattle.std.proofs.Common.{sym, ap, subst, ◌∙◌, append_assoc, append-nil, arith, add-one, IsTrue}
use Rattle.std.proofs.lemmas.List.{length-append, take_at, drop_at, drop_all, take-append-le, drop-append-le, length-drop}
use Rattle.std.proofs.Math.Seq.{drop-cons}
use Rattle.ccbor.specs.declared.error.Error.{Error}
use Rattle.ccbor.specs.declared.error.Error.TheVariants as errors
use Rattle.ccbor.specs.declared.value.Value.{Value}
use Rattle.ccbor.specs.Item.{Items, Pairs, array, map}
use Rattle.ccbor.specs.View.{view, items_view, pairs_view}
use Rattle.ccbor.specs.Canon.{head, spelling, spelling_of_items, spelling_of_pairs, count_of_items, count_of_pairs, before, is_key, Fits, ItemsFit, PairsFit}
use Rattle.ccbor.specs.Writing.{Writes, Grows}

pub ends_with : (old mid new : List ℕ) (a : ℕ) (b h : List ℕ) → mid ≡ old ++ a ∷ [] → new ≡ mid ++ b → h ≡ a ∷ b → new ≡ old ++ h
ends_with old mid new a b h p q r = rw (r, q, p) (append_assoc old (a ∷ []) b)

pub Grows-then : (old mid new : List ℕ) → Grows old mid → Grows mid new → Grows old new
Grows-then old mid new p q = (p.0 ++ q.0, rw (q.1, p.1) (append_assoc old p.0 q.0))

-- how far a loop has come: what is left to hold and to append
pub record Left (P R : Type 0) (bytes rest old new : List ℕ) : Type 0 where
  pub down : P → R
  pub up : R → P
  pub text : new ++ rest ≡ old ++ bytes
  pub grows : Grows old new

-- what was appended and holds is no longer left
Left-step : {P R R' : Type 0} {bytes rest old mid new : List ℕ} (s : List ℕ) → Left P R bytes (s ++ rest) old mid → (R → R') → (R' → R) → new ≡ mid ++ s
    → Left P R' bytes rest old new
Left-step {rest = rest} {old = old} {mid = mid} {new = new} s l to from e =
    record { down = λ p. to (l.down p); up = λ r. l.up (from r); text = rw e (append_assoc mid s rest ∙ l.text); grows = Grows-then old mid new l.grows (s, e) }

Left-done : {P R : Type 0} {bytes old new : List ℕ} → R → Left P R bytes [] old new → P × (new ≡ old ++ bytes)
Left-done {new = new} r l = (l.up r, sym (append-nil new) ∙ l.text)

Writes-fail : {P F : Type 0} (bytes s old mid new new' : List ℕ) (e : Error) → (P → F) → Writes F s mid new (Err e) → Writes P bytes old new' (Err e)
Writes-fail bytes s old mid new new' errors.Memory part w = tt
Writes-fail bytes s old mid new new' errors.Unfit part w = λ p. w (part p)
Writes-fail bytes s old mid new new' _ part w = absurd w

-- ---- items

abbrev pub ItemsLeft : ℕ → ℕ → List Value → List ℕ → List ℕ → Type 0
ItemsLeft d i vs old new = Left (ItemsFit d (items_view vs)) (ItemsFit d (items_view (drop i vs))) (spelling_of_items (items_view vs))
    (spelling_of_items (items_view (drop i vs))) old new

at_place : {A : Type 0} (i : ℕ) (xs : List A) (x : A) → i < length xs → get_or xs i x ≡ x → drop i xs ≡ x ∷ drop (i + 1) xs
at_place i xs x lt is = rw (add-one, drop-cons xs i x lt, is) refl

pub items_step : (d i : ℕ) (vs : List Value) (v : Value) (old mid new : List ℕ) → i < length vs → get_or vs i v ≡ v → ItemsLeft d i vs old mid
    → Fits d (view v) → new ≡ mid ++ spelling (view v) → ItemsLeft d (i + 1) vs old new
items_step d i vs v old mid new lt is left fits e = Left-step (spelling (view v)) (rw (at_place i vs v lt is) at left) (λ p. p.1) (λ p. (fits, p)) e

pub items_end : (d i : ℕ) (vs : List Value) (old new : List ℕ) → length vs ≤ i → ItemsLeft d i vs old new → ItemsFit d (items_view vs)
    × (new ≡ old ++ spelling_of_items (items_view vs))
items_end d i vs old new le left = Left-done tt (rw (drop_all i vs le) at left)

-- ---- pairs

-- the bytes of the last key
abbrev pub part : ℕ → ℕ → List ℕ → List ℕ
part a b bs = take (b - a) (drop a bs)

pub part-append : (a b : ℕ) (bs more : List ℕ) → a ≤ b → b ≤ length bs → part a b (bs ++ more) ≡ part a b bs
part-append a b bs more le within =
    let e : drop a (bs ++ more) ≡ drop a bs ++ more = drop-append-le a bs more (omega arith) in
    let n : b - a ≤ length (drop a bs) = omega (arith, length-drop a bs) in
    rw e (take-append-le (b - a) (drop a bs) more n)

pub part-end : (bs s : List ℕ) → part (length bs) (length (bs ++ s)) (bs ++ s) ≡ s
part-end bs s =
    let n : length (bs ++ s) - length bs ≡ length s = omega (arith, length-append bs s) in
    rw (drop_at bs s (length bs) refl, n) (sym (ap (take (length s)) (append-nil s)) ∙ take_at s [] (length s) refl)

abbrev pub KeysFrom : ℕ → List ℕ → List (Value × Value) → Type 0
KeysFrom d last ps = PairsFit d last (pairs_view ps)

abbrev pub text_of : List (Value × Value) → List ℕ
text_of ps = spelling_of_pairs (pairs_view ps)

pub record PairsLeft (d i : ℕ) (ps : List (Value × Value)) (old new : List ℕ) (a b : ℕ) : Type 0 where
  pub ordered : a ≤ b
  pub within : b ≤ length new
  pub left : Left (KeysFrom d [] ps) (KeysFrom d (part a b new) (drop i ps)) (text_of ps) (text_of (drop i ps)) old new

module _ (d i : ℕ) (ps : List (Value × Value)) (k v : Value) (old mid : List ℕ) (a b : ℕ) (lt : i < length ps) (is : get_or ps i (k, v) ≡ (k, v))
    (so_far : PairsLeft d i ps old mid a b) where
  opened : Left (KeysFrom d [] ps) (IsTrue (is_key (view k)) × IsTrue (before (part a b mid) (spelling (view k))) × Fits d (view k) × Fits d (view v)
      × KeysFrom d (spelling (view k)) (drop (i + 1) ps))
      (text_of ps) (spelling (view k) ++ (spelling (view v) ++ text_of (drop (i + 1) ps))) old mid
  opened = rw (at_place i ps (k, v) lt is) at so_far.left

  pub no_key : is_key (view k) ≡ false → KeysFrom d [] ps → ⊥
  no_key f p = let r = (opened.down p).0 in absurd cc

  pub key_fail : (new new' : List ℕ) (e : Error) → Writes (Fits d (view k)) (spelling (view k)) mid new (Err e)
      → Writes (KeysFrom d [] ps) (text_of ps) old new' (Err e)
  key_fail new new' e w = Writes-fail (text_of ps) (spelling (view k)) old mid new new' e (λ p. (opened.down p).2) w

  pub value_fail : (mid' new new' : List ℕ) (e : Error) → Writes (Fits d (view v)) (spelling (view v)) mid' new (Err e)
      → Writes (KeysFrom d [] ps) (text_of ps) old new' (Err e)
  value_fail mid' new new' e w = Writes-fail (text_of ps) (spelling (view v)) old mid' new new' e (λ p. (opened.down p).3) w

  module _ (mid' : List ℕ) (e : mid' ≡ mid ++ spelling (view k)) where
    same_keys : before (part a b mid') (part (length mid) (length mid') mid') ≡ before (part a b mid) (spelling (view k))
    same_keys = rw (e, part-append a b mid (spelling (view k)) so_far.ordered so_far.within, part-end mid (spelling (view k))) refl

    pub order_fail : before (part a b mid') (part (length mid) (length mid') mid') ≡ false → KeysFrom d [] ps → ⊥
    order_fail f p = let r = (opened.down p).1 in let s = same_keys in absurd cc

    pub pairs_step : (new : List ℕ) → is_key (view k) ≡ true → Fits d (view k) → before (part a b mid') (part (length mid) (length mid') mid') ≡ true
        → Fits d (view v) → new ≡ mid' ++ spelling (view v)
        → PairsLeft d (i + 1) ps old new (length mid) (length mid')
    pairs_step new key fits_key sorted fits_value f =
        let long : length mid ≤ length mid' = omega (arith, ap length e, length-append mid (spelling (view k))) in
        let last : part (length mid) (length mid') new ≡ spelling (view k) =
        rw f (part-append (length mid) (length mid') mid' (spelling (view v)) long (omega arith) ∙ rw e (part-end mid (spelling (view k)))) in
        let keyed = Left-step (spelling (view k)) opened (λ p. p) (λ p. p) e in
        record {
          ordered = long;
          within = omega (arith, ap length f, length-append mid' (spelling (view v)));
          left = rw last (Left-step (spelling (view v)) keyed (λ p. p.4) (λ p. (key, sym same_keys ∙ sorted, fits_key, fits_value, p)) f);
        }

pub pairs_end : (d i : ℕ) (ps : List (Value × Value)) (old new : List ℕ) (a b : ℕ) → length ps ≤ i → PairsLeft d i ps old new a b → KeysFrom d [] ps
    × (new ≡ old ++ text_of ps)
pairs_end d i ps old new a b le so_far = Left-done tt (rw (drop_all i ps le) at so_far.left)

-- ---- counts

pub count_is : (vs : List Value) → count_of_items (items_view vs) ≡ length vs
count_is [] = refl
count_is (v ∷ vs) = ap suc (count_is vs)

pub pair_count_is : (ps : List (Value × Value)) → count_of_pairs (pairs_view ps) ≡ length ps
pair_count_is [] = refl
pair_count_is (p ∷ ps) = ap suc (pair_count_is ps)

pub array_written : (d : ℕ) (xs : Items) (old mid new : List ℕ) → 0 < d → count_of_items xs < 2 ^ 64 → mid ≡ old ++ head 4 (count_of_items xs)
    → ItemsFit (d - 1) xs × (new ≡ mid ++ spelling_of_items xs)
    → Fits d (array xs) × (new ≡ old ++ spelling (array xs))
array_written d xs old mid new lt count p w =
    let k : d ≡ suc (d - 1) = omega arith in
    let fits : Fits (suc (d - 1)) (array xs) = (count, w.0) in
    (subst (λ (n : ℕ). Fits n (array xs)) (sym k) fits, rw (w.1, p) (append_assoc old (head 4 (count_of_items xs)) (spelling_of_items xs)))

pub map_written : (d : ℕ) (ps : Pairs) (old mid new : List ℕ) → 0 < d → count_of_pairs ps < 2 ^ 64 → mid ≡ old ++ head 5 (count_of_pairs ps)
    → PairsFit (d - 1) [] ps × (new ≡ mid ++ spelling_of_pairs ps)
    → Fits d (map ps) × (new ≡ old ++ spelling (map ps))
map_written d ps old mid new lt count p w =
    let k : d ≡ suc (d - 1) = omega arith in
    let fits : Fits (suc (d - 1)) (map ps) = (count, w.0) in
    (subst (λ (n : ℕ). Fits n (map ps)) (sym k) fits, rw (w.1, p) (append_assoc old (head 5 (count_of_pairs ps)) (spelling_of_pairs ps)))

-- what the keys' comparison answers, with the code's own names for what it read
pub compared : (a b start end : ℕ) (mid mid' one two : List ℕ) (found t : Bool) → start ≡ length mid → end ≡ length mid' → one ≡ mid' → two ≡ mid'
    → found ≡ before (part a b one) (part start end two) → found ≡ t → before (part a b mid') (part (length mid) (length mid') mid') ≡ t
compared a b start end mid mid' one two found t p q first second is e = cc
