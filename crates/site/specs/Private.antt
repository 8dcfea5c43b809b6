-- What private functions are proved against; no public clause cites it.
use Rattle.std.specs.Prelude.{◌≡◌, ◌≢◌, ◌<◌, ◌≤◌, ℕ, List, Bool, true, false, Option, Some, None, if◌then◌else◌}
use Rattle.ccbor.specs.Item.{Item, uint, Items}
use Rattle.ccbor.specs.Access.{split_key, is_end, uint_in, text_in, items_in, pairs_in}
use Rattle.ccbor.specs.Reading.{◌>>=◌}
use Rattle.ctap_encoding.specs.Table.{Members, no_more, listed, some_bytes, a_truth, any_map, unsigned}

-- the members of a credential's map: the key, whether it is required, and what it holds
abbrev pub credential_members : Members
credential_members =
    listed (uint 1) true some_bytes (
    listed (uint 2) true some_bytes (
    listed (uint 3) true any_map (
    listed (uint 4) true (unsigned 0) (
    listed (uint 5) false a_truth (
    listed (uint 6) false a_truth no_more)))))

-- the marks of eligibility and of retirement that a table of this version may hold
abbrev pub AreMarks : ℕ → Option Bool → Option Bool → Type 0
AreMarks version eligible retired = (retired ≢ Some false) × (version < 2 → eligible ≡ None) × (version < 3 → retired ≡ None)

-- the version, the rp id, the number of the next session and the credentials' values, from the front of the map
unfoldable pub table_in : Item → Option (ℕ × List ℕ × ℕ × Items)
table_in x = do
  ps ← pairs_in x
  one ← split_key (uint 1) ps
  version ← uint_in one.0
  two ← split_key (uint 2) one.1
  rp_id ← text_in two.0
  three ← split_key (uint 3) two.1
  next ← uint_in three.0
  four ← split_key (uint 4) three.1
  credentials ← items_in four.0
  if is_end four.1 then Some (version, rp_id, next, credentials) else None

-- they are of a version from 1 to 4, of this rp id, and of a session number that is one
abbrev pub IsOf : List ℕ → ℕ × List ℕ × ℕ × Items → Type 0
IsOf rp_id found = (1 ≤ found.0) × (found.0 ≤ 4) × (found.1 ≡ rp_id) × (1 ≤ found.2)
