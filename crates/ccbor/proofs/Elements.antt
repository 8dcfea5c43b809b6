-- The items of an array, and the pairs of a map, one after another.
use Rattle.std.proofs.Common.{◌≡◌, ◌≢◌, [], append-nil, ℕ, ◌-◌, false, List, ◌++◌, Some, refl, ap, arith}
use Rattle.std.proofs.lemmas.Option.{same_Some}
use Rattle.ccbor.specs.Item.{Item, array, map, Items, no_items, item, Pairs, no_pairs, pair}
use Rattle.ccbor.specs.Canon.{spelling, spelling_of_items, spelling_of_pairs, count_of_items, count_of_pairs, Canon, PairsFit}
use Rattle.ccbor.specs.Access.{items_first, items_in, pairs_first, pairs_in}
use Rattle.ccbor.specs.Viewing.{AreItems, ArePairs, shown, shown_items, shown_pairs, parts_in}
use Rattle.ccbor.proofs.Firsts.{key_after_nothing}
use Rattle.ccbor.proofs.Trees.{items_again, pairs_again}
use Rattle.ccbor.proofs.Shows.{shown_is, shows, wider}

-- what the bytes are cut into, if a canonical encoding is at their front
abbrev Cuts : List ℕ → List ℕ → List ℕ → Type 0
Cuts bs found rest = (x : Item) (a more : List ℕ) → Canon x a → bs ≡ a ++ more → (found ≡ a) × (rest ≡ more)

-- none is there
abbrev pub NoFront : List ℕ → Type 0
NoFront bs = (x : Item) (a more : List ℕ) → Canon x a → bs ≡ a ++ more → ⊥

-- ---- items

pub shown_items_is : (xs : Items) (n : ℕ) (bs : List ℕ) → AreItems xs n bs → shown_items (n, bs) ≡ xs
shown_items_is xs n bs are = rw (are.count, are.spelled, ← append-nil (spelling_of_items xs), items_again false xs 3 [] are.fit) refl

shows_items : (xs : Items) (n : ℕ) (bs : List ℕ) → AreItems xs n bs → AreItems (shown_items (n, bs)) n bs
shows_items xs n bs are = rw (shown_items_is xs n bs are) are

pub array_items : (x : Item) (bs : List ℕ) → Canon x bs → (n : ℕ) (rest : List ℕ) → Some (n, rest) ≡ parts_in 4 x
    → AreItems (shown_items (n, rest)) n rest × (Some (shown_items (n, rest)) ≡ items_in x)
array_items (array xs) bs c n rest e =
    let both = same_Some (n, rest) (count_of_items xs, spelling_of_items xs) e in
    let are : AreItems xs n rest = record { count = ap (λ (p : ℕ × List ℕ). p.0) both; spelled = ap (λ (p : ℕ × List ℕ). p.1) both; fit = c.0.1 } in
    (shows_items xs n rest are, rw (shown_items_is xs n rest are) refl)
array_items _ bs c n rest e = absurd cc

pub no_item : (all : Items) (n : ℕ) (bs : List ℕ) → AreItems all n bs → n ≢ 0 → NoFront bs → ⊥
no_item no_items n bs are some none = some are.count
no_item (item x xs) n bs are some none = none x (spelling x) (spelling_of_items xs) (wider x 3 are.fit.0, refl) are.spelled

pub first_item : (all : Items) (n : ℕ) (bs found rest : List ℕ) → AreItems all n bs → n ≢ 0 → Cuts bs found rest
    → Canon (shown found) found × AreItems (shown_items (n - 1, rest)) (n - 1) rest × (Some (shown found, shown_items (n - 1, rest)) ≡ items_first all)
first_item no_items n bs found rest are some cuts = absurd (some are.count)
first_item (item x xs) n bs found rest are some cuts =
    let cut = cuts x (spelling x) (spelling_of_items xs) (wider x 3 are.fit.0, refl) are.spelled in
    let canon : Canon x found = (wider x 3 are.fit.0, cut.0) in
    let others : AreItems xs (n - 1) rest = record { count = omega (arith, are.count); spelled = cut.1; fit = are.fit.1 } in
    (shows x found canon, shows_items xs (n - 1) rest others, rw (shown_is x found canon, shown_items_is xs (n - 1) rest others) refl)

-- ---- pairs

pub shown_pairs_is : (ps : Pairs) (n : ℕ) (bs : List ℕ) → ArePairs ps n bs → shown_pairs (n, bs) ≡ ps
shown_pairs_is ps n bs are = rw (are.count, are.spelled, ← append-nil (spelling_of_pairs ps), pairs_again false ps 3 [] [] are.fit) refl

shows_pairs : (ps : Pairs) (n : ℕ) (bs : List ℕ) → ArePairs ps n bs → ArePairs (shown_pairs (n, bs)) n bs
shows_pairs ps n bs are = rw (shown_pairs_is ps n bs are) are

pub map_pairs : (x : Item) (bs : List ℕ) → Canon x bs → (n : ℕ) (rest : List ℕ) → Some (n, rest) ≡ parts_in 5 x
    → ArePairs (shown_pairs (n, rest)) n rest × (Some (shown_pairs (n, rest)) ≡ pairs_in x)
map_pairs (map ps) bs c n rest e =
    let both = same_Some (n, rest) (count_of_pairs ps, spelling_of_pairs ps) e in
    let are : ArePairs ps n rest = record { count = ap (λ (p : ℕ × List ℕ). p.0) both; spelled = ap (λ (p : ℕ × List ℕ). p.1) both; fit = c.0.1 } in
    (shows_pairs ps n rest are, rw (shown_pairs_is ps n rest are) refl)
map_pairs _ bs c n rest e = absurd cc

first_of : (ps : Pairs) (d : ℕ) (last : List ℕ) → PairsFit d last ps → PairsFit d [] ps
first_of no_pairs d last fits = tt
first_of (pair k v ps) d last fits = (fits.0, key_after_nothing k fits.0, fits.2, fits.3, fits.4)

pub no_key : (all : Pairs) (n : ℕ) (bs : List ℕ) → ArePairs all n bs → n ≢ 0 → NoFront bs → ⊥
no_key no_pairs n bs are some none = some are.count
no_key (pair k v ps) n bs are some none = none k (spelling k) (spelling v ++ spelling_of_pairs ps) (wider k 3 are.fit.2, refl) are.spelled

pub no_value : (all : Pairs) (n : ℕ) (bs found mid : List ℕ) → ArePairs all n bs → n ≢ 0 → Cuts bs found mid → NoFront mid → ⊥
no_value no_pairs n bs found mid are some cuts none = some are.count
no_value (pair k v ps) n bs found mid are some cuts none =
    none v (spelling v) (spelling_of_pairs ps) (wider v 3 are.fit.3, refl)
    (cuts k (spelling k) (spelling v ++ spelling_of_pairs ps) (wider k 3 are.fit.2, refl) are.spelled).1

pub first_pair : (all : Pairs) (n : ℕ) (bs found mid value rest : List ℕ) → ArePairs all n bs → n ≢ 0 → Cuts bs found mid → Cuts mid value rest
    → Canon (shown found) found × Canon (shown value) value × ArePairs (shown_pairs (n - 1, rest)) (n - 1) rest
    × (Some (shown found, shown value, shown_pairs (n - 1, rest)) ≡ pairs_first all)
first_pair no_pairs n bs found mid value rest are some cuts then = absurd (some are.count)
first_pair (pair k v ps) n bs found mid value rest are some cuts then =
    let one = cuts k (spelling k) (spelling v ++ spelling_of_pairs ps) (wider k 3 are.fit.2, refl) are.spelled in
    let two = then v (spelling v) (spelling_of_pairs ps) (wider v 3 are.fit.3, refl) one.1 in
    let key : Canon k found = (wider k 3 are.fit.2, one.0) in
    let canon : Canon v value = (wider v 3 are.fit.3, two.0) in
    let others : ArePairs ps (n - 1) rest = record { count = omega (arith, are.count); spelled = two.1; fit = first_of ps 3 (spelling k) are.fit.4 } in (
      shows k found key,
      shows v value canon,
      shows_pairs ps (n - 1) rest others,
      rw (shown_is k found key, shown_is v value canon, shown_pairs_is ps (n - 1) rest others) refl,
    )
