-- What the functions of `passing` that call each other keep.
use Rattle.std.proofs.Common.{◌≡◌, ◌+◌, ◌-◌, ◌*◌, []}
use Rattle.ccbor.specs.Reading.{rest_of, item_at, items_at, pairs_at}
use Rattle.ccbor.proofs.passing.+passing.Given as goal

abbrev pub decreases-after_item : goal.decreases-after_item
decreases-after_item l = 2 * l.depth

abbrev pub decreases-after_items : goal.decreases-after_items
decreases-after_items l = 2 * l.depth + 1

abbrev pub decreases-after_pairs : goal.decreases-after_pairs
decreases-after_pairs l = 2 * l.depth + 1

abbrev pub invariant-after_items-loop : goal.invariant-after_items-loop
invariant-after_items-loop l = rest_of (items_at (item_at l.known l.depth) (l.count - l.counter) l.rest) ≡ rest_of
    (items_at (item_at l.known l.depth) l.count l.bytes)

abbrev pub invariant-after_pairs-loop : goal.invariant-after_pairs-loop
invariant-after_pairs-loop l = rest_of (pairs_at l.known (item_at l.known l.depth) l.last (l.count - l.counter) l.rest) ≡ rest_of
    (pairs_at l.known (item_at l.known l.depth) [] l.count l.bytes)
