-- A value of CBOR by its major type (RFC 8949, section 3.1), without where it lies in memory.
use Rattle.std.specs.Prelude.{ℕ, List, Bool}

mutual
  pub data Item : Type 0 where
    -- the number n
    uint : ℕ → Item
    -- the number -1 - n
    nint : ℕ → Item
    bytes : List ℕ → Item
    -- a text by its UTF-8
    text : List ℕ → Item
    array : Items → Item
    map : Pairs → Item
    boolean : Bool → Item

  pub data Items : Type 0 where
    no_items : Items
    item : Item → Items → Items

  pub data Pairs : Type 0 where
    no_pairs : Pairs
    -- a key, its value, and the pairs after them
    pair : Item → Item → Pairs → Pairs
