use Rattle.std.proofs.Common.{◌≡◌, ◌≤◌, length, option_and_then}
use Rattle.std.specs.Prelude.{codes}
use Rattle.serde_json.specs.Data.{Members, no_members}
use Rattle.serde_json.specs.Find.{as_str, get_member}
use Rattle.clientdata.specs.Found.{text_in}
use Rattle.clientdata.specs.Passing.{members_at}
use Rattle.clientdata.proofs.members.status.Given as goal

abbrev pub invariant-members : goal.invariant-members
invariant-members l = record {
  ms : Members;
  left : members_at l.depth no_members l.fn.reader ≡ members_at l.depth ms l.reader;
  status : text_in l.status ≡ option_and_then as_str (get_member (codes "status") ms);
  shorter : length l.reader ≤ length l.fn.reader;
}

abbrev pub decreases-members : goal.decreases-members
decreases-members l = length l.reader
