use Rattle.std.proofs.Common.{◌≡◌, ◌++◌, length}
use Rattle.std.specs.List.{AllByRecursion, concat}
use Rattle.site_seal.specs.Seal.{IsHash}
use Rattle.site_seal.proofs.opening.hashes_in.Given as goal

abbrev pub invariant-loop-hash : goal.invariant-loop-hash
invariant-loop-hash l = record { joined : concat l.hashes.items ++ l.rest ≡ l.bytes; each : AllByRecursion IsHash l.hashes.items }

abbrev pub decreases-loop-hash : goal.decreases-loop-hash
decreases-loop-hash l = length l.rest
