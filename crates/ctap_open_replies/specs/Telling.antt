-- What a value tells by a table, where a map may have other members: CTAP 2.1, section 6, has a platform ignore
-- those that it doesn't know. Kinds and sizes of the listed ones are as the table has them.
use Rattle.std.specs.Prelude.{◌≡◌, ◌≤◌, ◌<◌, List, [], ◌∷◌, map, Bool, true, false, Some, None}
use Rattle.ccbor.specs.Item as of
use Rattle.ccbor.specs.Item.{Item, Items, no_items, item, Pairs}
use Rattle.ccbor.specs.View.{pairs_of}
use Rattle.ccbor.specs.Access.{member}
use Rattle.ctap_encoding.specs.Table.{Holds, a_number, some_bytes, a_text, a_truth, any_map, that_text, unsigned, truths, list_of, record_of, not_empty}
use Rattle.ctap_encoding.specs.Table.{sized, Members, no_more, listed, size_of}
use Rattle.ctap_encoding.specs.Content.{Content, Contents, Member, number_item, truth_pair}

-- each item tells the content at its place, and there are as many of both
abbrev pub EachTells : {A : Type 0} → (A → Item → Type 0) → List A → Items → Type 0
EachTells P [] no_items = Unit {0}
EachTells P [] (item x xs) = ⊥
EachTells P (c ∷ cs) no_items = ⊥
EachTells P (c ∷ cs) (item x xs) = P c x × EachTells P cs xs

-- the map has a value at this key, and it tells the content
abbrev pub Has : {A : Type 0} → (A → Item → Type 0) → Item → A → Item → Type 0
Has P k c x = (v : Item) × (member k x ≡ Some v) × P c v

-- of a member that is required, or may be absent
abbrev pub TellsMember : {A : Type 0} → (A → Item → Type 0) → (required : Bool) → Item → Member required A → Item → Type 0
TellsMember P true k c x = Has P k c x
TellsMember P false k (Some c) x = Has P k c x
TellsMember P false k None x = member k x ≡ None

abbrev mutual
  pub Tells : (h : Holds) → Content h → Item → Type 0
  Tells a_number n x = x ≡ number_item n
  Tells some_bytes bs x = x ≡ of.bytes bs
  Tells a_text s x = x ≡ of.text s
  Tells a_truth b x = x ≡ of.boolean b
  Tells any_map m x = (ps : Pairs) × (x ≡ of.map ps) × (m ≡ of.map ps)
  Tells (that_text t) u x = x ≡ of.text t
  Tells (unsigned low) n x = (x ≡ of.uint n) × (low ≤ n)
  Tells truths os x = x ≡ of.map (pairs_of (map truth_pair os))
  Tells (list_of h) cs x = (xs : Items) × (x ≡ of.array xs) × EachTells (Tells h) cs xs
  -- a map that has the listed members, whatever others it has
  Tells (record_of ms) c x = (ps : Pairs) × (x ≡ of.map ps) × TellsMembers ms c x
  Tells (not_empty fault h) c x = (0 < size_of x) × Tells h c x
  Tells (sized low high fault h) c x = (low ≤ size_of x) × (size_of x ≤ high) × Tells h c x

  pub TellsMembers : (ms : Members) → Contents ms → Item → Type 0
  TellsMembers no_more c x = Unit {0}
  TellsMembers (listed k required h ms) c x = TellsMember (Tells h) required k c.0 x × TellsMembers ms c.1 x
