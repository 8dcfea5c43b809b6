-- What the loop of `option_members` keeps.
use Rattle.std.proofs.Common.{◌≤◌}
use Rattle.serde_json.specs.Data.{members_depth}
use Rattle.serde_json.specs.View.{members_view}
use Rattle.client_lines.proofs.information.option_members.Given as goal

abbrev pub invariant-loop-name : goal.invariant-loop-name
invariant-loop-name l = members_depth (members_view l.members.entries) ≤ 0
