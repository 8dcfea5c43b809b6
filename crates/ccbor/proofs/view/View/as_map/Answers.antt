-- What is owed of `View::as_map`.
use Rattle.ccbor.specs.Viewing.{shown}
use Rattle.ccbor.proofs.Elements.{map_pairs}
use Rattle.ccbor.proofs.view.View.as_map.Goals as goal

pub invariant_of-result : goal.invariant_of-result
invariant_of-result c = let bs = c.self.inside.bytes.now in let m = c.in_ok-left in
    (map_pairs (shown bs) bs c.self.invariant m.left m.bytes.now (m.ensures (shown bs) c.self.invariant)).0

pub returns : goal.returns
returns c = let bs = c.self.inside.bytes.now in let m = c.in_ok-left in
    rw (← c.self.view_is) (map_pairs (shown bs) bs c.self.invariant m.left m.bytes.now (m.ensures (shown bs) c.self.invariant)).1
