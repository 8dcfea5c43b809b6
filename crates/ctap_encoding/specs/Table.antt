-- Tables of a map's members, as CTAP 2.1 (section 6) describes its maps, and the faults of a value against a table.
use Rattle.std.specs.Prelude.{ℕ, ◌==◌, List, [], ◌∷◌, length, find, Bool, true, false, ◌&&◌, ◌||◌, not, nat_le, nat_lt, ◌≡◌, Option, Some, None, is_some}
use Rattle.ccbor.specs.Item.{Item, bytes, text, array, Items, no_items, item, Pairs, no_pairs, pair}
use Rattle.ccbor.specs.Canon.{count_of_items}
use Rattle.ccbor.specs.Access.{is_same_key, member, uint_in, nint_in, bytes_in, text_in, bool_in, items_in, pairs_in}
use Rattle.ctap_encoding.specs.declared.fault.Fault.{Fault}
use Rattle.ctap_encoding.specs.declared.fault.Fault.TheVariants as faults

-- what a member may hold
mutual
  pub data Holds : Type 0 where
    a_number : Holds
    some_bytes : Holds
    a_text : Holds
    a_truth : Holds
    any_map : Holds
    -- this text
    that_text : List ℕ → Holds
    -- an unsigned number, at least this one
    unsigned : ℕ → Holds
    -- a map of texts to truth values
    truths : Holds
    list_of : Holds → Holds
    record_of : Members → Holds
    -- with a byte or an item, else there is this fault
    not_empty : Fault → Holds → Holds
    -- of this many bytes or items, from low to high, else there is this fault
    sized : ℕ → ℕ → Fault → Holds → Holds

  -- the key, whether it is required, and what it holds
  pub data Members : Type 0 where
    no_more : Members
    listed : Item → Bool → Holds → Members → Members

-- ---- faults

-- the gravest first
abbrev pub all_faults : List Fault
all_faults = faults.AnotherKind ∷ faults.UnlistedKey ∷ faults.MissingMember ∷ faults.InvalidSize ∷ faults.OverLimit ∷ []

abbrev pub place : Fault → ℕ
place faults.AnotherKind = 0
place faults.UnlistedKey = 1
place faults.MissingMember = 2
place faults.InvalidSize = 3
place faults.OverLimit = 4

-- the test fails, and this is the fault that is asked for
abbrev pub fails : Fault → Fault → Bool → Bool
fails f here test = not test && (place f == place here)

-- the fault lies in the part that is there; else there is another kind
abbrev pub within : {A : Type 0} → Fault → (A → Bool) → Option A → Bool
within f inside (Some x) = inside x
within f inside None = fails f faults.AnotherKind false

-- how many bytes, or items
abbrev pub size_of : Item → ℕ
size_of (bytes bs) = length bs
size_of (text bs) = length bs
size_of (array xs) = count_of_items xs
size_of _ = 0

abbrev pub any_item : (Item → Bool) → Items → Bool
any_item p no_items = false
any_item p (item x xs) = p x || any_item p xs

abbrev pub is_listed : Members → Item → Bool
is_listed no_more k = false
is_listed (listed l r h ms) k = is_same_key k l || is_listed ms k

abbrev pub all_keys : (Item → Bool) → Pairs → Bool
all_keys p no_pairs = true
all_keys p (pair k v ps) = p k && all_keys p ps

abbrev pub all_truths : Pairs → Bool
all_truths no_pairs = true
all_truths (pair k v ps) = is_some (text_in k) && is_some (bool_in v) && all_truths ps

abbrev pub in_member : (Item → Bool) → Bool → Option Item → Bool
in_member inside missing (Some x) = inside x
in_member inside missing None = missing

abbrev mutual
  -- the value has this fault somewhere in it
  pub has_fault : Fault → Holds → Item → Bool
  has_fault f a_number x = fails f faults.AnotherKind (is_some (uint_in x) || is_some (nint_in x))
  has_fault f some_bytes x = fails f faults.AnotherKind (is_some (bytes_in x))
  has_fault f a_text x = fails f faults.AnotherKind (is_some (text_in x))
  has_fault f a_truth x = fails f faults.AnotherKind (is_some (bool_in x))
  has_fault f any_map x = fails f faults.AnotherKind (is_some (pairs_in x))
  has_fault f (that_text t) x = fails f faults.AnotherKind (is_same_key x (text t))
  has_fault f (unsigned low) x = within f (λ n. fails f faults.AnotherKind (nat_le low n)) (uint_in x)
  has_fault f truths x = within f (λ ps. fails f faults.AnotherKind (all_truths ps)) (pairs_in x)
  has_fault f (list_of h) x = within f (any_item (has_fault f h)) (items_in x)
  has_fault f (record_of ms) x = within f (λ ps. fails f faults.UnlistedKey (all_keys (is_listed ms) ps) || in_members f ms x) (pairs_in x)
  has_fault f (not_empty here h) x = has_fault f h x || fails f here (nat_lt 0 (size_of x))
  has_fault f (sized low high here h) x = has_fault f h x || fails f here (nat_le low (size_of x) && nat_le (size_of x) high)

  -- a member that is there has it, or it is that a required one is missing
  pub in_members : Fault → Members → Item → Bool
  in_members f no_more x = false
  in_members f (listed k required h ms) x = in_member (has_fault f h) (fails f faults.MissingMember (not required)) (member k x) || in_members f ms x

-- the gravest fault that the value has
abbrev pub gravest : Holds → Item → Option Fault
gravest h x = find (λ f. has_fault f h x) all_faults

-- it has none
abbrev pub Clean : Holds → Item → Type 0
Clean h x = (f : Fault) → has_fault f h x ≡ false
