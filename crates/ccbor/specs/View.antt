-- The `Item` that a `Value` of the code stands for: variant by variant, a `Vec` by its items and a
-- `String` by its UTF-8.
use Rattle.std.specs.Prelude.{List, [], ◌∷◌, map, string_bytes}
use Rattle.ccbor.specs.Item as of
use Rattle.ccbor.specs.Item.{Item, Items, Pairs}
use Rattle.ccbor.specs.declared.value.Value.{Value, fold-Value}
use Rattle.ccbor.specs.declared.value.Value.TheOpen.{Value-F}

abbrev pub items_of : List Item → Items
items_of [] = of.no_items
items_of (x ∷ xs) = of.item x (items_of xs)

abbrev pub pairs_of : List (Item × Item) → Pairs
pairs_of [] = of.no_pairs
pairs_of (p ∷ ps) = of.pair p.0 p.1 (pairs_of ps)

-- one variant, with each value inside it seen as its `Item` already
abbrev pub view_step : Value-F Item → Item
view_step (Value-F.Uint n) = of.uint n
view_step (Value-F.Nint n) = of.nint n
view_step (Value-F.Bytes v) = of.bytes v.items
view_step (Value-F.Text s) = of.text (string_bytes s)
view_step (Value-F.Array v) = of.array (items_of v.items)
view_step (Value-F.Map v) = of.map (pairs_of v.items)
view_step (Value-F.Bool b) = of.boolean b

abbrev pub view : Value → Item
view = fold-Value Item view_step

-- the items of an array
abbrev pub items_view : List Value → Items
items_view vs = items_of (map view vs)

-- the pairs of a map
abbrev pub pairs_view : List (Value × Value) → Pairs
pairs_view ps = pairs_of (map (λ p. (view p.0, view p.1)) ps)
