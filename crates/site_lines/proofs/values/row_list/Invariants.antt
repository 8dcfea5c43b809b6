-- What the loop of `row_list` keeps.
use Rattle.std.proofs.Common.{◌≡◌, map, take}
use Rattle.serde_json.specs.View.{view}
use Rattle.site_lines.specs.Written.{whole_rows}
use Rattle.site_lines.proofs.values.row_list.Given as goal

abbrev pub invariant-loop-at : goal.invariant-loop-at
invariant-loop-at l = map view l.list.items ≡ whole_rows (take l.at l.rows) l.known
