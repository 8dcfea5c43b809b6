-- How deep values nest that answers tell.
use Rattle.std.specs.Prelude.{◌≤◌}
use Rattle.serde_json.specs.Data.{Data, Members, depth, members_depth}

-- each member nests at most 2 deep
abbrev pub AreFlat : Members → Type 0
AreFlat ms = members_depth ms ≤ 2

abbrev pub IsFlat : Data → Type 0
IsFlat d = depth d ≤ 2
