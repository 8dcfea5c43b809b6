-- Canonical CBOR: the one encoding of each value. This is the CTAP2 canonical CBOR encoding form of
-- CTAP 2.1, "Message Encoding", over the heads of RFC 8949, section 3.
use Rattle.std.specs.Prelude.{◌≡◌, ℕ, zero, suc, ◌+◌, ◌*◌, ◌/◌, ◌^◌, ◌<◌, Bool, true, false, List, [], ◌∷◌, ◌++◌, length, slice_index, nat_lt, ◌==◌}
use Rattle.std.specs.Prelude.{IsTrue, IsUtf8, if◌then◌else◌}
use Rattle.std.specs.Cmp.Lexicographic.{slice_cmp}
use Rattle.std.specs.Int.{w8, w16, w32, w64, to_be_bytes}
use Rattle.std.specs.Ordering.{nat_cmp, is_lt}
use Rattle.ccbor.specs.Item.{Item, uint, nint, bytes, text, array, map, boolean, Items, no_items, item, Pairs, no_pairs, pair}

-- ---- heads: RFC 8949, section 3, each argument in the shortest form of section 4.2.1

-- The first byte has the major type in its high three bits. Its low five are the argument where it is
-- below 24; or 24, 25, 26 or 27, and the next 1, 2, 4 or 8 bytes are the argument, highest first.
unfoldable pub head : ℕ → ℕ → List ℕ
head major n =
    if nat_lt n 24 then (32 * major + n) ∷ []
    else if nat_lt n (2 ^ 8) then (32 * major + 24) ∷ to_be_bytes w8 n
    else if nat_lt n (2 ^ 16) then (32 * major + 25) ∷ to_be_bytes w16 n
    else if nat_lt n (2 ^ 32) then (32 * major + 26) ∷ to_be_bytes w32 n
    else (32 * major + 27) ∷ to_be_bytes w64 n

-- ---- values: RFC 8949, sections 3.1 (major types 0 to 5) and 3.3 (false and true)

-- how many items, and how many pairs
abbrev pub count_of_items : Items → ℕ
count_of_items no_items = 0
count_of_items (item x xs) = suc (count_of_items xs)

abbrev pub count_of_pairs : Pairs → ℕ
count_of_pairs no_pairs = 0
count_of_pairs (pair k v ps) = suc (count_of_pairs ps)

-- The encoding. CTAP 2.1 allows no indefinite lengths and no tags, and its messages have no floats,
-- no null and no other simple values, so there are none here.
abbrev mutual
  pub spelling : Item → List ℕ
  spelling (uint n) = head 0 n
  spelling (nint n) = head 1 n
  spelling (bytes bs) = head 2 (length bs) ++ bs
  spelling (text bs) = head 3 (length bs) ++ bs
  spelling (array xs) = head 4 (count_of_items xs) ++ spelling_of_items xs
  spelling (map ps) = head 5 (count_of_pairs ps) ++ spelling_of_pairs ps
  spelling (boolean b) = (if b then 0xf5 else 0xf4) ∷ []

  pub spelling_of_items : Items → List ℕ
  spelling_of_items no_items = []
  spelling_of_items (item x xs) = spelling x ++ spelling_of_items xs

  pub spelling_of_pairs : Pairs → List ℕ
  spelling_of_pairs no_pairs = []
  spelling_of_pairs (pair k v ps) = spelling k ++ (spelling v ++ spelling_of_pairs ps)

-- ---- keys: CTAP 2.1, "Message Encoding"

-- Numbers and texts are keys.
abbrev pub is_key : Item → Bool
is_key (uint n) = true
is_key (nint n) = true
is_key (bytes bs) = false
is_key (text bs) = true
is_key (array xs) = false
is_key (map ps) = false
is_key (boolean b) = false

abbrev pub major_of : List ℕ → ℕ
major_of key = slice_index key 0 / 32

-- Of two encoded keys the first comes before the second: it has the lower major type; or the same
-- one, and it is shorter; or the same type and length, and the lower byte where they first differ.
unfoldable pub before : List ℕ → List ℕ → Bool
before a b =
    if major_of a == major_of b
    then (if length a == length b then is_lt (slice_cmp nat_cmp a b) else nat_lt (length a) (length b))
    else nat_lt (major_of a) (major_of b)

-- ---- which values have an encoding: CTAP 2.1, "Message Encoding"

-- what holds with one level less, where there is one
abbrev pub Inside : (ℕ → Type 0) → ℕ → Type 0
Inside P zero = ⊥
Inside P (suc d) = P d

-- The value has an encoding with d levels of arrays and maps left: each number and length has a head,
-- texts are UTF-8 (RFC 8949, section 3.1), an array or a map takes a level, and each key of a map comes
-- before the next, so none comes twice.
abbrev mutual
  pub Fits : ℕ → Item → Type 0
  Fits d (uint n) = n < 2 ^ 64
  Fits d (nint n) = n < 2 ^ 64
  Fits d (bytes bs) = length bs < 2 ^ 64
  Fits d (text bs) = (length bs < 2 ^ 64) × IsUtf8 bs
  Fits d (array xs) = (count_of_items xs < 2 ^ 64) × Inside (λ e. ItemsFit e xs) d
  Fits d (map ps) = (count_of_pairs ps < 2 ^ 64) × Inside (λ e. PairsFit e [] ps) d
  Fits d (boolean b) = Unit {0}

  pub ItemsFit : ℕ → Items → Type 0
  ItemsFit d no_items = Unit {0}
  ItemsFit d (item x xs) = Fits d x × ItemsFit d xs

  -- each key comes after the last one; the first comes after no bytes at all, as every key does
  pub PairsFit : ℕ → List ℕ → Pairs → Type 0
  PairsFit d last no_pairs = Unit {0}
  PairsFit d last (pair k v ps) =
      IsTrue (is_key k) × IsTrue (before last (spelling k)) × Fits d k × Fits d v × PairsFit d (spelling k) ps

-- These bytes are the value's canonical encoding. There are four levels of arrays and maps.
abbrev pub Canon : Item → List ℕ → Type 0
Canon x bs = Fits 4 x × (bs ≡ spelling x)

-- the new bytes are the old ones and then the value's canonical encoding
abbrev pub AppendsCanon : Item → List ℕ → List ℕ → Type 0
AppendsCanon x old new = (bs : List ℕ) × Canon x bs × (new ≡ old ++ bs)
