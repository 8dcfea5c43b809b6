-- The loop of `check_distinct`.
use Rattle.std.proofs.Common.{length}
use Rattle.certificates.proofs.Found.{DistinctSoFar}
use Rattle.certificates.proofs.extension.check_distinct.Given as goal

abbrev pub invariant-loop-rest : goal.invariant-loop-rest
invariant-loop-rest l = DistinctSoFar l.content l.rest

abbrev pub decreases-loop-rest : goal.decreases-loop-rest
decreases-loop-rest l = length l.rest
