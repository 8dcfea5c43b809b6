-- What the loop of `View::pair` keeps.
use Rattle.std.proofs.Common.{◌≡◌, ◌-◌}
use Rattle.ccbor.specs.Access.{pair_at, pair_in}
use Rattle.ccbor.specs.Viewing.{shown, shown_pairs}
use Rattle.ccbor.proofs.view.View.pair.Given as goal

abbrev pub invariant-loop : goal.invariant-loop
invariant-loop l = pair_at (l.index - l.counter) (shown_pairs l.pairs) ≡ pair_in l.index (shown l.self)
