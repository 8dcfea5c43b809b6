-- The status that answers a request: that of the first rank that applies. CTAP 2.1 has the status bytes
-- (section 8.2); their order is this product's.
use Rattle.std.specs.Prelude.{◌≡◌, ◌≢◌, ◌==◌, ℕ, List, [], ◌∷◌, Bool, true, false, ◌||◌, Option, Some}
use Rattle.refusal_order.specs.Lines.{First, NoneOf}
use Rattle.ccbor.specs.Item.{Item, Pairs}
use Rattle.ccbor.specs.Canon.{Canon}
use Rattle.ctap_encoding.specs.Table.{gravest}
use Rattle.ctap_encoding.specs.declared.fault.Fault as map_faults
use Rattle.ctap_encoding.specs.declared.fault.Fault.TheVariants as faults
use Rattle.ctap_requests.specs.Requests.{RequestMessage, RequestOf, map_of}
use Rattle.ctap_encoding.specs.declared.error.Error.{Error}
use Rattle.ctap_encoding.specs.declared.error.Error.TheVariants as errors

-- the ranks of a request's faults
pub data Rank : Type 0 where
  unknown_command : Rank
  bytes_after : Rank
  not_canonical : Rank
  another_kind : Rank
  unlisted_key : Rank
  missing_member : Rank
  invalid_size : Rank
  over_limit : Rank

-- what each is answered by
abbrev pub status_of : Rank → ℕ
status_of unknown_command = 0x01
status_of bytes_after = 0x02
status_of not_canonical = 0x12
status_of another_kind = 0x11
status_of unlisted_key = 0x02
status_of missing_member = 0x14
status_of invalid_size = 0x02
status_of over_limit = 0x15

-- makeCredential and getAssertion have a map after the command byte
abbrev pub has_map : ℕ → Bool
has_map command = command == 1 || command == 2

-- getInfo, reset and getNextAssertion have nothing there
abbrev pub has_none : ℕ → Bool
has_none command = command == 4 || command == 7 || command == 8

-- the command's map has this fault somewhere in it, and none that is graver
abbrev pub Fault : map_faults.Fault → List ℕ → Type 0
Fault f [] = ⊥
Fault f (command ∷ rest) = (has_map command ≡ true) × (v : Item) × Canon v rest × (gravest (map_of command) v ≡ Some f)

-- what each rank says of the bytes
abbrev pub Applies : List ℕ → Rank → Type 0
Applies [] unknown_command = Unit {0}
Applies (command ∷ rest) unknown_command = has_map command || has_none command ≡ false
Applies [] bytes_after = ⊥
Applies (command ∷ rest) bytes_after = (has_none command ≡ true) × (rest ≢ [])
Applies [] not_canonical = ⊥
Applies (command ∷ rest) not_canonical = (has_map command ≡ true) × ((v : Item) → Canon v rest → ⊥)
Applies bs another_kind = Fault faults.AnotherKind bs
Applies bs unlisted_key = Fault faults.UnlistedKey bs
Applies bs missing_member = Fault faults.MissingMember bs
Applies bs invalid_size = Fault faults.InvalidSize bs
Applies bs over_limit = Fault faults.OverLimit bs

-- the ranks in order
abbrev pub ranks : List Rank
ranks =
    unknown_command
    ∷ bytes_after
    ∷ not_canonical
    ∷ another_kind
    ∷ unlisted_key
    ∷ missing_member
    ∷ invalid_size
    ∷ over_limit
    ∷ []

-- no rank applies
abbrev pub NoStatus : List ℕ → Type 0
NoStatus bs = NoneOf (Applies bs) ranks

-- what is answered in place of a request: out of memory, or the status of the first rank that applies
abbrev pub Refused : List ℕ → Error → Type 0
Refused bs errors.Memory = Unit {0}
Refused bs (errors.Status s) = (r : Rank) × First (Applies bs) ranks r × (s ≡ status_of r)
Refused bs _ = ⊥

-- the bytes are this request with some extensions or none, and no other request; and no rank applies
pub record IsRequest (q : RequestMessage) (bs : List ℕ) : Type 0 where
  pub spelled : (x : Option Pairs) × RequestOf q x bs
  pub only : (r : RequestMessage) (x : Option Pairs) → RequestOf r x bs → r ≡ q
  pub clean : NoStatus bs
