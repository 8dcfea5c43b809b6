-- What the loop of `text_list` keeps.
use Rattle.std.proofs.Common.{◌≤◌}
use Rattle.serde_json.specs.Data.{items_depth}
use Rattle.serde_json.specs.View.{items_view}
use Rattle.client_lines.proofs.values.text_list.Given as goal

abbrev pub invariant-loop-text : goal.invariant-loop-text
invariant-loop-text l = items_depth (items_view l.list.items) ≤ 0
