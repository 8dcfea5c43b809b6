-- The loop of `first`.
use Rattle.std.proofs.Common.{length}
use Rattle.std.specs.Prelude.{option_map}
use Rattle.certificates.specs.Extensions.{extension_view}
use Rattle.certificates.proofs.Found.{FirstSoFar}
use Rattle.certificates.proofs.extension.first.Given as goal

abbrev pub invariant-loop-rest : goal.invariant-loop-rest
invariant-loop-rest l = FirstSoFar l.content l.rest l.identifier (option_map extension_view l.found)

abbrev pub decreases-loop-rest : goal.decreases-loop-rest
decreases-loop-rest l = length l.rest
