-- What a value of a table has in it, and the value that has it.
use Rattle.std.specs.Prelude.{ℕ, List, Bool, true, false, Option, Some, None, ℤ, pos, negsuc, map}
use Rattle.ccbor.specs.Item as of
use Rattle.ccbor.specs.Item.{Item, Pairs, no_pairs, pair}
use Rattle.ccbor.specs.View.{items_of, pairs_of}
use Rattle.ctap_encoding.specs.Table.{Holds, a_number, some_bytes, a_text, a_truth, any_map, that_text, unsigned, truths, list_of, record_of, not_empty}
use Rattle.ctap_encoding.specs.Table.{sized, Members, no_more, listed}

-- of a member that is required, or may be absent
abbrev pub Member : Bool → Type 0 → Type 0
Member true A = A
Member false A = Option A

-- texts by their UTF-8; of a record its members' contents in the table's order
abbrev mutual
  pub Content : Holds → Type 0
  Content a_number = ℤ
  Content some_bytes = List ℕ
  Content a_text = List ℕ
  Content a_truth = Bool
  Content any_map = Item
  Content (that_text t) = Unit {0}
  Content (unsigned low) = ℕ
  Content truths = List (List ℕ × Bool)
  Content (list_of h) = List (Content h)
  Content (record_of ms) = Contents ms
  Content (not_empty fault h) = Content h
  Content (sized low high fault h) = Content h

  pub Contents : Members → Type 0
  Contents no_more = Unit {0}
  Contents (listed k required h ms) = Member required (Content h) × Contents ms

-- a number of CBOR: from -2^64 to 2^64 - 1 it has a head
abbrev pub number_item : ℤ → Item
number_item (pos n) = of.uint n
number_item (negsuc n) = of.nint n

abbrev pub truth_pair : List ℕ × Bool → Item × Item
truth_pair o = (of.text o.0, of.boolean o.1)

-- the pair of a member that is there, in front of others
abbrev pub optional : Item → Option Item → Pairs → Pairs
optional k (Some v) ps = pair k v ps
optional k None ps = ps

abbrev pub member_pair : {A : Type 0} → (required : Bool) → Item → (A → Item) → Member required A → Pairs → Pairs
member_pair true k f a ps = pair k (f a) ps
member_pair false k f (Some a) ps = pair k (f a) ps
member_pair false k f None ps = ps

abbrev mutual
  -- the value that has this content
  pub item_of : (h : Holds) → Content h → Item
  item_of a_number n = number_item n
  item_of some_bytes bs = of.bytes bs
  item_of a_text s = of.text s
  item_of a_truth b = of.boolean b
  item_of any_map x = x
  item_of (that_text t) u = of.text t
  item_of (unsigned low) n = of.uint n
  item_of truths os = of.map (pairs_of (map truth_pair os))
  item_of (list_of h) cs = of.array (items_of (map (item_of h) cs))
  item_of (record_of ms) c = of.map (members_item ms c)
  item_of (not_empty fault h) c = item_of h c
  item_of (sized low high fault h) c = item_of h c

  pub members_item : (ms : Members) → Contents ms → Pairs
  members_item no_more c = no_pairs
  members_item (listed k required h ms) c = member_pair required k (item_of h) c.0 (members_item ms c.1)
