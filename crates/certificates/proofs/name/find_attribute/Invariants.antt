-- The loop of `find_attribute`.
use Rattle.std.proofs.Common.{length}
use Rattle.std.specs.Prelude.{option_map}
use Rattle.certificates.specs.Names.{attribute_view}
use Rattle.certificates.proofs.Named.{NameSoFar}
use Rattle.certificates.proofs.name.find_attribute.Given as goal

abbrev pub invariant-loop-rest : goal.invariant-loop-rest
invariant-loop-rest l = NameSoFar l.name l.rest l.identifier (option_map attribute_view l.found)

abbrev pub decreases-loop-rest : goal.decreases-loop-rest
decreases-loop-rest l = length l.rest
