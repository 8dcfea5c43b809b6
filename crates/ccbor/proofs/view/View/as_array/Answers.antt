-- What is owed of `View::as_array`.
use Rattle.ccbor.specs.Viewing.{shown}
use Rattle.ccbor.proofs.Elements.{array_items}
use Rattle.ccbor.proofs.view.View.as_array.Goals as goal

pub invariant_of-result : goal.invariant_of-result
invariant_of-result c = let bs = c.self.inside.bytes.now in let m = c.in_ok-left in
    (array_items (shown bs) bs c.self.invariant m.left m.bytes.now (m.ensures (shown bs) c.self.invariant)).0

pub returns : goal.returns
returns c = let bs = c.self.inside.bytes.now in let m = c.in_ok-left in
    rw (← c.self.view_is) (array_items (shown bs) bs c.self.invariant m.left m.bytes.now (m.ensures (shown bs) c.self.invariant)).1
