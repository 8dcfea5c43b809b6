-- What is owed of `View::to_value`.
use Rattle.ccbor.proofs.Shows.{readable}
use Rattle.ccbor.proofs.view.View.to_value.Goals as goal

pub unreachable-requires : goal.unreachable-requires
unreachable-requires c = readable c.self.inside.bytes.now c.self.invariant (rw c.in-Err-NotCanonical.field-0-is at c.in-Err-NotCanonical.ensures)
