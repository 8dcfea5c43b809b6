-- What the loop of `are_plain` keeps.
use Rattle.std.proofs.Common.{take}
use Rattle.std.specs.List.{AllByRecursion}
use Rattle.site_acts.specs.Faults.{IsPlain}
use Rattle.site_acts.proofs.transports.are_plain.Given as goal

abbrev pub invariant-loop-byte : goal.invariant-loop-byte
invariant-loop-byte l = AllByRecursion IsPlain (take l.byte-index l.text)
