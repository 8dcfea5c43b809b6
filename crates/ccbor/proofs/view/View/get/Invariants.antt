-- What the loop of `View::get` keeps.
use Rattle.std.proofs.Common.{◌≡◌}
use Rattle.ccbor.specs.Access.{key_item, member, value_at}
use Rattle.ccbor.specs.Viewing.{shown, shown_pairs}
use Rattle.ccbor.proofs.view.View.get.Given as goal

abbrev pub invariant-loop-found : goal.invariant-loop-found
invariant-loop-found l = value_at (key_item l.key) (shown_pairs l.pairs) ≡ member (key_item l.key) (shown l.self)

abbrev pub decreases-loop-found : goal.decreases-loop-found
decreases-loop-found l = l.pairs.0
