-- What the loop of `choice_list` keeps.
use Rattle.std.proofs.Common.{◌≤◌}
use Rattle.serde_json.specs.Data.{items_depth}
use Rattle.serde_json.specs.View.{items_view}
use Rattle.client_lines.proofs.responses.choice_list.Given as goal

abbrev pub invariant-loop-assertion : goal.invariant-loop-assertion
invariant-loop-assertion l = items_depth (items_view l.told.items) ≤ 3
