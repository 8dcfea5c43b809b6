-- The plain program that the private functions of reading are proved against. Of the public clauses
-- only those of views reach it, by `shown`, which the law `shown_values` pins to `Canon`.
-- Each function reads from the front of a list: what it read and the bytes after it, or None. Where the
-- bytes are known to be canonical, the order of keys and whether texts are UTF-8 are not looked at.
use Rattle.std.specs.Prelude.{◌≡◌, ℕ, zero, suc, ◌-◌, ◌/◌, ◌%◌, ◌^◌, List, [], ◌∷◌, length, take, drop, true, false, Option, Some, None, option_map}
use Rattle.std.specs.Prelude.{Result, Ok, Err, nat_lt, ◌==◌, ◌||◌, Bool, if◌then◌else◌}
use Rattle.std.specs.Str.{is_utf8}
use Rattle.std.specs.Int.{Width, w8, w16, w32, w64, byte_len, from_be_bytes}
use Rattle.ccbor.specs.declared.error.Error.{Error}
use Rattle.ccbor.specs.declared.error.Error.TheVariants as errors
use Rattle.ccbor.specs.Item.{Item, uint, nint, bytes, text, array, map, boolean, Items, no_items, item, Pairs, no_pairs, pair}
use Rattle.ccbor.specs.Canon.{before}

abbrev pub Read : Type 0 → Type 0
Read A = Option (A × List ℕ)

infixl 10 ◌>>=◌
abbrev pub ◌>>=◌ : {A B : Type 0} → Option A → (A → Option B) → Option B
(Some x) >>= f = f x
None >>= f = None

-- what a function answers, seen by view, is what reading gives; or memory ran out
abbrev pub Fails : {Y : Type 0} → Error → Option Y → Type 0
Fails errors.Memory read = Unit {0}
Fails errors.NotCanonical read = read ≡ None
Fails errors.Unfit read = ⊥
Fails errors.Trailing read = ⊥

abbrev pub Gives : {X Y : Type 0} → (X → Y) → Result X Error → Option Y → Type 0
Gives view (Ok x) read = read ≡ Some (view x)
Gives view (Err e) read = Fails e read

-- the same for a function that takes no memory
abbrev pub Refuses : {Y : Type 0} → Error → Option Y → Type 0
Refuses errors.NotCanonical read = read ≡ None
Refuses _ read = ⊥

abbrev pub Yields : {X Y : Type 0} → (X → Y) → Result X Error → Option Y → Type 0
Yields view (Ok x) read = read ≡ Some (view x)
Yields view (Err e) read = Refuses e read

-- what follows, without what was read
abbrev pub rest_of : {A : Type 0} → Read A → Option (List ℕ)
rest_of read = option_map (λ x. x.1) read

-- a key's encoding, and what follows it
abbrev pub key_rest : Read (Item × List ℕ) → Option (List ℕ × List ℕ)
key_rest read = option_map (λ x. (x.0.1, x.1)) read

abbrev pub at_least : ℕ → ℕ → List ℕ → Read ℕ
at_least least n rest = if nat_lt n least then None else Some (n, rest)

-- a number of this many bytes, no less than least
abbrev pub number_at : Width → ℕ → List ℕ → Read ℕ
number_at w least bs =
    if nat_lt (length bs) (byte_len w) then None
    else at_least least (from_be_bytes w (take (byte_len w) bs)) (drop (byte_len w) bs)

unfoldable pub argument_at : ℕ → List ℕ → Read ℕ
argument_at info bs =
    if nat_lt info 24 then Some (info, bs)
    else if info == 24 then number_at w8 24 bs
    else if info == 25 then number_at w16 (2 ^ 8) bs
    else if info == 26 then number_at w32 (2 ^ 16) bs
    else if info == 27 then number_at w64 (2 ^ 32) bs
    else None

-- the major type and the argument
unfoldable pub head_at : List ℕ → Read (ℕ × ℕ)
head_at [] = None
head_at (b ∷ bs) = do
  n ← argument_at (b % 32) bs
  Some ((b / 32, n.0), n.1)

unfoldable pub content_at : ℕ → List ℕ → Read (List ℕ)
content_at n bs = if nat_lt (length bs) n then None else Some (take n bs, drop n bs)

unfoldable pub bytes_at : ℕ → List ℕ → Read Item
bytes_at n bs = do
  c ← content_at n bs
  Some (bytes c.0, c.1)

unfoldable pub text_at : Bool → ℕ → List ℕ → Read Item
text_at known n bs = do
  c ← content_at n bs
  if known || is_utf8 c.0 then Some (text c.0, c.1) else None

-- what a head begins that is no array and no map
unfoldable pub leaf_at : Bool → ℕ × ℕ → List ℕ → Read Item
leaf_at known h bs =
    if h.0 == 0 then Some (uint h.1, bs)
    else if h.0 == 1 then Some (nint h.1, bs)
    else if h.0 == 2 then bytes_at h.1 bs
    else if h.0 == 3 then text_at known h.1 bs
    else if h.0 == 7 then (
    if h.1 == 20 then Some (boolean false, bs) else if h.1 == 21 then Some (boolean true, bs) else None)
    else None

-- whether a value of this major type may be a key
abbrev pub begins_key : ℕ → Bool
begins_key major = major == 0 || major == 1 || major == 3

-- a key, and its encoding
unfoldable pub key_at : Bool → List ℕ → Read (Item × List ℕ)
key_at known bs = do
  h ← head_at bs
  if begins_key h.0.0 then (do
    k ← leaf_at known h.0 h.1
    Some ((k.0, take (length bs - length k.1) bs), k.1)) else None

unfoldable pub items_at : (List ℕ → Read Item) → ℕ → List ℕ → Read Items
items_at inside zero bs = Some (no_items, bs)
items_at inside (suc n) bs = do
  x ← inside bs
  xs ← items_at inside n x.1
  Some (item x.0 xs.0, xs.1)

unfoldable pub pairs_at : Bool → (List ℕ → Read Item) → List ℕ → ℕ → List ℕ → Read Pairs
pairs_at known inside last zero bs = Some (no_pairs, bs)
pairs_at known inside last (suc n) bs = do
  k ← key_at known bs
  if known || before last k.0.1 then (do
    v ← inside k.1
    ps ← pairs_at known inside k.0.1 n v.1
    Some (pair k.0.0 v.0 ps.0, ps.1)) else None

abbrev pub nested_at : Bool → (List ℕ → Read Item) → ℕ × ℕ → List ℕ → Read Item
nested_at known inside h bs =
    if h.0 == 4 then (do
      xs ← items_at inside h.1 bs
      Some (array xs.0, xs.1))
    else if h.0 == 5 then (do
      ps ← pairs_at known inside [] h.1 bs
      Some (map ps.0, ps.1))
    else leaf_at known h bs

unfoldable pub item_at : Bool → ℕ → List ℕ → Read Item
item_at known zero bs = do
  h ← head_at bs
  leaf_at known h.0 h.1
item_at known (suc d) bs = do
  h ← head_at bs
  nested_at known (item_at known d) h.0 h.1
