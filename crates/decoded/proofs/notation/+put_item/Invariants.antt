use Rattle.std.proofs.Common.{◌<◌}
use Rattle.decoded.proofs.notation.+put_item.Given as goal

abbrev pub decreases-put_item : goal.decreases-put_item
decreases-put_item l = l.levels

abbrev pub invariant-loop-i : goal.invariant-loop-i
invariant-loop-i l = 0 < l.levels

abbrev pub invariant-loop-i-2 : goal.invariant-loop-i-2
invariant-loop-i-2 l = 0 < l.levels
