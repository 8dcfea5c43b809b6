-- What the loop of `View::item` keeps.
use Rattle.std.proofs.Common.{◌≡◌, ◌-◌}
use Rattle.ccbor.specs.Access.{item_at, item_in}
use Rattle.ccbor.specs.Viewing.{shown, shown_items}
use Rattle.ccbor.proofs.view.View.item.Given as goal

abbrev pub invariant-loop : goal.invariant-loop
invariant-loop l = item_at (l.index - l.counter) (shown_items l.items) ≡ item_in l.index (shown l.self)
