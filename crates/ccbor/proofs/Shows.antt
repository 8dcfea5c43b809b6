-- What the bytes of a view show.
use Rattle.std.proofs.Common.{◌≡◌, ◌≢◌, ℕ, zero, suc, ◌<◌, ◌≤◌, drop, false, cond, eqb, List, [], ◌++◌, length, take, Some, None, refl, sym, ap, ◌∙◌}
use Rattle.std.proofs.Common.{append-nil, arith, ◌⊎◌, inl, inr, Result, Err}
use Rattle.std.proofs.Math.Seq.{take-length}
use Rattle.std.proofs.lemmas.Option.{same_Some}
use Rattle.std.proofs.lemmas.List.{take_at, take-append-drop, length-append, length-drop, nil_from_length}
use Rattle.ccbor.specs.Item.{Item, uint, nint, bytes, text, array, map, boolean, Items, no_items, item, Pairs, no_pairs, pair}
use Rattle.ccbor.specs.Canon.{spelling, count_of_items, count_of_pairs, Fits, ItemsFit, PairsFit, Canon}
use Rattle.ccbor.specs.Reading.{head_at, item_at}
use Rattle.ccbor.specs.Viewing.{shown, major_in, argument_in, body_in, parts_in}
use Rattle.ccbor.specs.declared.error.Error.{Error}
use Rattle.ccbor.specs.declared.error.Error.TheVariants as errors
use Rattle.ccbor.proofs.Numbers.{head_again}
use Rattle.ccbor.proofs.Leaves.{boolean_head}
use Rattle.ccbor.proofs.Decoding.{front_read, one_front}

pub shown_is : (x : Item) (bs : List ℕ) → Canon x bs → shown bs ≡ x
shown_is x bs c = rw (front_read false x bs [] bs c (sym (append-nil bs))) refl

pub shows : (x : Item) (bs : List ℕ) → Canon x bs → Canon (shown bs) bs
shows x bs c = rw (shown_is x bs c) c

-- a view's value is refused only if memory runs out
pub readable : {X : Type 0} (bs : List ℕ) → Canon (shown bs) bs → item_at false 4 bs ≡ None → X
readable bs c none = let found = front_read false (shown bs) bs [] bs c (sym (append-nil bs)) in absurd cc

headed : (x : Item) (d : ℕ) → Fits d x → head_at (spelling x) ≡ Some ((major_in x, argument_in x), body_in x)
headed (uint n) d fits = ap head_at (sym (append-nil (spelling (uint n)))) ∙ head_again 0 n [] fits
headed (nint n) d fits = ap head_at (sym (append-nil (spelling (nint n)))) ∙ head_again 1 n [] fits
headed (bytes bs) d fits = head_again 2 (length bs) bs fits
headed (text bs) d fits = head_again 3 (length bs) bs fits.0
headed (array xs) d fits = head_again 4 (count_of_items xs) (body_in (array xs)) fits.0
headed (map ps) d fits = head_again 5 (count_of_pairs ps) (body_in (map ps)) fits.0
headed (boolean b) d fits = boolean_head b []

pub head_is : (x : Item) (bs : List ℕ) → Canon x bs → head_at bs ≡ Some ((major_in x, argument_in x), body_in x)
head_is x bs c = ap head_at c.1 ∙ headed x 4 c.0

pub parts_shown : (x : Item) (bs : List ℕ) → Canon x bs → (major m n : ℕ) (rest : List ℕ) → head_at bs ≡ Some ((m, n), rest)
    → parts_in major x ≡ cond (eqb m major) (Some (n, rest)) None
parts_shown x bs c major m n rest e =
    let both = same_Some ((major_in x, argument_in x), body_in x) ((m, n), rest) (sym (head_is x bs c) ∙ e) in
    ap (λ (p : (ℕ × ℕ) × List ℕ). cond (eqb p.0.0 major) (Some (p.0.1, p.1)) None) both

mutual
  pub wider : (x : Item) (d : ℕ) → Fits d x → Fits (suc d) x
  wider (uint n) d fits = fits
  wider (nint n) d fits = fits
  wider (bytes bs) d fits = fits
  wider (text bs) d fits = fits
  wider (array xs) zero fits = absurd fits.1
  wider (array xs) (suc d) fits = (fits.0, items_wider xs d fits.1)
  wider (map ps) zero fits = absurd fits.1
  wider (map ps) (suc d) fits = (fits.0, pairs_wider ps d [] fits.1)
  wider (boolean b) d fits = tt

  items_wider : (xs : Items) (d : ℕ) → ItemsFit d xs → ItemsFit (suc d) xs
  items_wider no_items d fits = tt
  items_wider (item x xs) d fits = (wider x d fits.0, items_wider xs d fits.1)

  pairs_wider : (ps : Pairs) (d : ℕ) (last : List ℕ) → PairsFit d last ps → PairsFit (suc d) last ps
  pairs_wider no_pairs d last fits = tt
  pairs_wider (pair k v ps) d last fits = (fits.0, fits.1, wider k d fits.2, wider v d fits.3, pairs_wider ps d (spelling k) fits.4)

module _ (v : Item) (bs a rest : List ℕ) (c : Canon v a) (e : bs ≡ a ++ rest) where
  front_is : take (length a) bs ≡ a
  front_is = rw e (take_at a rest (length a) refl)

  pub whole_front : length rest ≡ 0 → (a ≡ bs) × Canon (shown a) bs
  whole_front none =
      let same : bs ≡ a = rw (e, nil_from_length rest none) (append-nil a) in
      (sym same, rw same (shows v a c))

  pub front_found : (length a ≤ length bs) × (a ≡ take (length a) bs) × Canon (shown a) (take (length a) bs)
  front_found = (omega (arith, ap length e, length-append a rest), sym front_is, rw front_is (shows v a c))

  pub front_only : (w : Item) (n : ℕ) → n ≤ length bs → Canon w (take n bs) → (w ≡ shown a) × (n ≡ length a)
  front_only w n le d =
      let both = one_front v w a (take n bs) rest (drop n bs) bs c d e (sym (take-append-drop n bs)) in
      (sym both.0 ∙ sym (shown_is v a c), omega (arith, ap length both.1, length-drop n bs, ap length e, length-append a rest))

  pub no_whole : length rest ≢ 0 → (w : Item) → Canon w bs → ⊥
  no_whole some w d = some (ap length (one_front v w a bs rest [] bs c d e (sym (append-nil bs))).1)

  pub part_front : length rest ≢ 0 → (w : Item) × (n : ℕ) × (n < length bs) × Canon w (take n bs)
  part_front some = (v, length a, omega (arith, ap length e, length-append a rest, some), rw front_is c)

-- where checking the whole input is refused, no value is it
pub none_refused : {X : Type 0} (e : Error) (bs : List ℕ) → (e ≡ errors.NotCanonical) ⊎ (e ≡ errors.Trailing)
    → (◌≡◌ {A = Result X Error} (Err e) (Err errors.NotCanonical) → (v : Item) (n : ℕ) → Canon v (take n bs) → ⊥)
    → (◌≡◌ {A = Result X Error} (Err e) (Err errors.Trailing) → (v : Item) → Canon v bs → ⊥) → (v : Item) → Canon v bs → ⊥
none_refused e bs (inl is) none front = λ v canon. none (ap Err is) v (length bs) (canon.0, take-length bs ∙ canon.1)
none_refused e bs (inr is) none front = front (ap Err is)
