-- What the loop of `is_listed` keeps.
use Rattle.std.proofs.Common.{◌≡◌, drop}
use Rattle.ccbor.specs.View.{view}
use Rattle.ctap_encoding.specs.Table.{is_listed}
use Rattle.ctap_encoding.specs.TableView.{members_view}
use Rattle.ctap_encoding.proofs.faults.is_listed.Given as goal

abbrev pub invariant-loop-key : goal.invariant-loop-key
invariant-loop-key l = is_listed (members_view (drop l.key-index l.members)) (view l.value) ≡ is_listed (members_view l.members) (view l.value)
