use Rattle.std.proofs.Common.{◌<◌}
use Rattle.decoded.proofs.heads.+end_of.Given as goal

abbrev pub decreases-end_of : goal.decreases-end_of
decreases-end_of l = l.levels

abbrev pub invariant-loop : goal.invariant-loop
invariant-loop l = 0 < l.levels

abbrev pub invariant-loop-2 : goal.invariant-loop-2
invariant-loop-2 l = 0 < l.levels
