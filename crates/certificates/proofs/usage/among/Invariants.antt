-- The loop of `among`.
use Rattle.std.proofs.Common.{length}
use Rattle.certificates.proofs.Purposes.{AmongSoFar}
use Rattle.certificates.proofs.usage.among.Given as goal

abbrev pub invariant-loop-rest : goal.invariant-loop-rest
invariant-loop-rest l = AmongSoFar l.content l.rest l.purpose l.found

abbrev pub decreases-loop-rest : goal.decreases-loop-rest
decreases-loop-rest l = length l.rest
