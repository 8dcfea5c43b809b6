-- The plain program that readers are proved against: the members of a map, taken one after another in the
-- table's order. That it reads the contents of the values without a fault, and no others, are lemmas.
use Rattle.std.specs.Prelude.{◌≡◌, ℕ, List, [], ◌∷◌, Bool, true, false, nat_le, nat_lt, ◌&&◌, Option, Some, None, is_some, Result, Ok, Err, ℤ, pos}
use Rattle.std.specs.Prelude.{negsuc, if◌then◌else◌}
use Rattle.ccbor.specs.Item as of
use Rattle.ccbor.specs.Item.{Item, Items, no_items, item, Pairs, no_pairs, pair}
use Rattle.ccbor.specs.Reading.{◌>>=◌}
use Rattle.ccbor.specs.Access.{split_key, is_same_key, is_end, bytes_in, text_in, bool_in, uint_in, items_in, pairs_in}
use Rattle.ctap_encoding.specs.Table.{Holds, a_number, some_bytes, a_text, a_truth, any_map, that_text, unsigned, truths, list_of, record_of, not_empty}
use Rattle.ctap_encoding.specs.Table.{sized, Members, no_more, listed, size_of}
use Rattle.ctap_encoding.specs.Content.{Content, Contents, Member}
use Rattle.ctap_encoding.specs.declared.map_error.MapError.{MapError}
use Rattle.ctap_encoding.specs.declared.map_error.MapError.TheVariants as errors

-- what a function returned, seen by view, is what reading gives, unless memory ran out
abbrev pub Fails : {Y : Type 0} → MapError → Option Y → Type 0
Fails errors.Memory read = Unit {0}
Fails errors.Shape read = read ≡ None

abbrev pub Gives : {X Y : Type 0} → (X → Y) → Result X MapError → Option Y → Type 0
Gives view (Ok x) read = read ≡ Some (view x)
Gives view (Err e) read = Fails e read

-- the same for a function that takes no memory
abbrev pub Yields : {X Y E : Type 0} → (X → Y) → Result X E → Option Y → Type 0
Yields view (Ok x) read = read ≡ Some (view x)
Yields view (Err e) read = read ≡ None

abbrev pub number_in : Item → Option ℤ
number_in (of.uint n) = Some (pos n)
number_in (of.nint n) = Some (negsuc n)
number_in _ = None

-- what is read, if the test holds
abbrev pub only_if : {A : Type 0} → Bool → Option A → Option A
only_if test read = if test then read else None

-- the test holds
abbrev pub checked : Bool → Option (Unit {0})
checked test = only_if test (Some tt)

abbrev pub is_within : ℕ → ℕ → Item → Bool
is_within low high x = nat_le low (size_of x) && nat_le (size_of x) high

abbrev pub named_truth : Item → Item → Option (List ℕ × Bool)
named_truth k v = text_in k >>= λ n. bool_in v >>= λ b. Some (n, b)

abbrev pub each_truth : Pairs → Option (List (List ℕ × Bool))
each_truth no_pairs = Some []
each_truth (pair k v ps) = named_truth k v >>= λ o. each_truth ps >>= λ rest. Some (o ∷ rest)

abbrev pub each_in : {A : Type 0} → (Item → Option A) → Items → Option (List A)
each_in f no_items = Some []
each_in f (item x xs) = f x >>= λ a. each_in f xs >>= λ rest. Some (a ∷ rest)

abbrev pub maybe : {A : Type 0} → (Item → Option A) → Option Item → Option (Option A)
maybe f (Some v) = f v >>= λ a. Some (Some a)
maybe f None = Some None

-- the value that the first pair has at this key, if it has it, and the pairs after it
abbrev pub taken_from : Option (Item × Pairs) → Pairs → Option Item × Pairs
taken_from (Some m) ps = (Some m.0, m.1)
taken_from None ps = (None, ps)

abbrev pub take_key : Item → Pairs → Option Item × Pairs
take_key k ps = taken_from (split_key k ps) ps

abbrev pub member_in : {A B : Type 0} → (required : Bool) → Item → (Item → Option A) → (Pairs → Option B) → Pairs → Option (Member required A × B)
member_in true k f members ps = split_key k ps >>= λ m. f m.0 >>= λ a. members m.1 >>= λ rest. Some (a, rest)
member_in false k f members ps = maybe f (take_key k ps).0 >>= λ a. members (take_key k ps).1 >>= λ rest. Some (a, rest)

abbrev mutual
  pub read_in : (h : Holds) → Item → Option (Content h)
  read_in a_number x = number_in x
  read_in some_bytes x = bytes_in x
  read_in a_text x = text_in x
  read_in a_truth x = bool_in x
  read_in any_map x = checked (is_some (pairs_in x)) >>= λ u. Some x
  read_in (that_text t) x = checked (is_same_key x (of.text t))
  read_in (unsigned low) x = uint_in x >>= λ n. only_if (nat_le low n) (Some n)
  read_in truths x = pairs_in x >>= each_truth
  read_in (list_of h) x = items_in x >>= each_in (read_in h)
  read_in (record_of ms) x = pairs_in x >>= members_in ms
  read_in (not_empty fault h) x = checked (nat_lt 0 (size_of x)) >>= λ u. read_in h x
  read_in (sized low high fault h) x = checked (is_within low high x) >>= λ u. read_in h x

  pub members_in : (ms : Members) → Pairs → Option (Contents ms)
  members_in no_more ps = checked (is_end ps)
  members_in (listed k required h ms) ps = member_in required k (read_in h) (members_in ms) ps
