-- What a value is, kind by kind, and what a map has at a key.
use Rattle.std.specs.Prelude.{ℕ, zero, suc, List, Bool, true, false, Option, Some, None, option_and_then, ◌==◌, if◌then◌else◌}
use Rattle.std.specs.Str.{bytes_eq}
use Rattle.ccbor.specs.Item.{Item, uint, nint, bytes, text, array, map, boolean, Items, no_items, item, Pairs, no_pairs, pair}
use Rattle.ccbor.specs.Canon.{count_of_items, count_of_pairs}
use Rattle.ccbor.specs.declared.value.MapKey.{MapKey}
use Rattle.ccbor.specs.declared.value.MapKey.TheVariants as keys

-- what a value of this kind has in it; one of another kind has nothing
abbrev pub uint_in : Item → Option ℕ
uint_in (uint n) = Some n
uint_in _ = None

abbrev pub nint_in : Item → Option ℕ
nint_in (nint n) = Some n
nint_in _ = None

abbrev pub bytes_in : Item → Option (List ℕ)
bytes_in (bytes bs) = Some bs
bytes_in _ = None

abbrev pub text_in : Item → Option (List ℕ)
text_in (text bs) = Some bs
text_in _ = None

abbrev pub bool_in : Item → Option Bool
bool_in (boolean b) = Some b
bool_in _ = None

abbrev pub items_in : Item → Option Items
items_in (array xs) = Some xs
items_in _ = None

abbrev pub pairs_in : Item → Option Pairs
pairs_in (map ps) = Some ps
pairs_in _ = None

-- the value that a key is
abbrev pub key_item : MapKey → Item
key_item (keys.Uint n) = uint n
key_item (keys.Nint n) = nint n
key_item (keys.Text s) = text s.now

-- whether a value is this key
abbrev pub is_same_key : Item → Item → Bool
is_same_key (uint n) (uint m) = n == m
is_same_key (nint n) (nint m) = n == m
is_same_key (text s) (text t) = bytes_eq s t
is_same_key _ _ = false

-- the value at the first pair with this key
abbrev pub value_at : Item → Pairs → Option Item
value_at k no_pairs = None
value_at k (pair l v ps) = if is_same_key l k then Some v else value_at k ps

-- the value at a key of a map; a value of another kind has none
abbrev pub member : Item → Item → Option Item
member k x = option_and_then (value_at k) (pairs_in x)

-- where the first pair has this key: its value, and the pairs after it
abbrev pub split_key : Item → Pairs → Option (Item × Pairs)
split_key k no_pairs = None
split_key k (pair l v ps) = if is_same_key l k then Some (v, ps) else None

-- no pairs are left
abbrev pub is_end : Pairs → Bool
is_end no_pairs = true
is_end (pair k v ps) = false

-- the first pair, and the pairs after it
abbrev pub pairs_first : Pairs → Option (Item × Item × Pairs)
pairs_first no_pairs = None
pairs_first (pair k v ps) = Some (k, v, ps)

-- the first item, and the items after it
abbrev pub items_first : Items → Option (Item × Items)
items_first no_items = None
items_first (item x xs) = Some (x, xs)

-- how many items an array has, or pairs a map; other values have none
abbrev pub len_in : Item → ℕ
len_in (array xs) = count_of_items xs
len_in (map ps) = count_of_pairs ps
len_in _ = 0

-- the pair at this place
abbrev pub pair_at : ℕ → Pairs → Option (Item × Item)
pair_at n no_pairs = None
pair_at zero (pair k v ps) = Some (k, v)
pair_at (suc n) (pair k v ps) = pair_at n ps

abbrev pub pair_in : ℕ → Item → Option (Item × Item)
pair_in n x = option_and_then (pair_at n) (pairs_in x)

-- the item at this place
abbrev pub item_at : ℕ → Items → Option Item
item_at n no_items = None
item_at zero (item x xs) = Some x
item_at (suc n) (item x xs) = item_at n xs

abbrev pub item_in : ℕ → Item → Option Item
item_in n x = option_and_then (item_at n) (items_in x)
