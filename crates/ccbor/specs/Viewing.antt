-- What encoded bytes show, where they lie: a value, or the pairs of a map that are left.
use Rattle.std.specs.Prelude.{◌≡◌, ◌==◌, ℕ, false, List, [], length, Option, Some, None, if◌then◌else◌}
use Rattle.ccbor.specs.Item.{Item, uint, nint, bytes, text, array, map, boolean, Items, no_items, Pairs, no_pairs}
use Rattle.ccbor.specs.Canon.{count_of_items, count_of_pairs, spelling_of_items, spelling_of_pairs, ItemsFit, PairsFit}
use Rattle.ccbor.specs.Reading.{Read, item_at, items_at, pairs_at}

-- the bytes are these n pairs, as they may stand in a map
pub record ArePairs (ps : Pairs) (n : ℕ) (bs : List ℕ) : Type 0 where
  pub count : n ≡ count_of_pairs ps
  pub spelled : bs ≡ spelling_of_pairs ps
  pub fit : PairsFit 3 [] ps

-- the bytes are these n items, as they may stand in an array
pub record AreItems (xs : Items) (n : ℕ) (bs : List ℕ) : Type 0 where
  pub count : n ≡ count_of_items xs
  pub spelled : bs ≡ spelling_of_items xs
  pub fit : ItemsFit 3 xs

abbrev pub read_or : {A : Type 0} → A → Read A → A
read_or other (Some x) = x.0
read_or other None = other

-- the value that the bytes encode, which is the only one (the law `shown_values`); 0 where they encode none
abbrev pub shown : List ℕ → Item
shown bs = read_or (uint 0) (item_at false 4 bs)

-- the n pairs that the bytes encode, which are the only ones; none where they encode no such
abbrev pub shown_pairs : ℕ × List ℕ → Pairs
shown_pairs m = read_or no_pairs (pairs_at false (item_at false 3) [] m.0 m.1)

-- the n items that the bytes encode, which are the only ones; none where they encode no such
abbrev pub shown_items : ℕ × List ℕ → Items
shown_items m = read_or no_items (items_at (item_at false 3) m.0 m.1)

-- ---- what private functions are proved against

-- a value's major type, its head's argument, and what follows the head
abbrev pub major_in : Item → ℕ
major_in (uint n) = 0
major_in (nint n) = 1
major_in (bytes bs) = 2
major_in (text bs) = 3
major_in (array xs) = 4
major_in (map ps) = 5
major_in (boolean b) = 7

abbrev pub argument_in : Item → ℕ
argument_in (uint n) = n
argument_in (nint n) = n
argument_in (bytes bs) = length bs
argument_in (text bs) = length bs
argument_in (array xs) = count_of_items xs
argument_in (map ps) = count_of_pairs ps
argument_in (boolean b) = if b then 21 else 20

abbrev pub body_in : Item → List ℕ
body_in (uint n) = []
body_in (nint n) = []
body_in (bytes bs) = bs
body_in (text bs) = bs
body_in (array xs) = spelling_of_items xs
body_in (map ps) = spelling_of_pairs ps
body_in (boolean b) = []

-- the argument and the body of a value of this major type
abbrev pub parts_in : ℕ → Item → Option (ℕ × List ℕ)
parts_in major x = if major_in x == major then Some (argument_in x, body_in x) else None
