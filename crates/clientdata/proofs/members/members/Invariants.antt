use Rattle.std.proofs.Common.{◌≡◌, length}
use Rattle.serde_json.specs.Data.{Members, no_members}
use Rattle.clientdata.specs.Found.{IsFound}
use Rattle.clientdata.specs.Passing.{members_at}
use Rattle.clientdata.proofs.members.members.Given as goal

abbrev pub invariant-members : goal.invariant-members
invariant-members l = record {
  ms : Members;
  left : members_at 126 no_members l.fn.reader ≡ members_at 126 ms l.reader;
  found : IsFound l.found ms;
}

abbrev pub decreases-members : goal.decreases-members
decreases-members l = length l.reader
