-- What the loop of `algorithm_list` keeps.
use Rattle.std.proofs.Common.{◌≤◌}
use Rattle.serde_json.specs.Data.{items_depth}
use Rattle.serde_json.specs.View.{items_view}
use Rattle.client_lines.proofs.information.algorithm_list.Given as goal

abbrev pub invariant-loop-parameters : goal.invariant-loop-parameters
invariant-loop-parameters l = items_depth (items_view l.list.items) ≤ 0
