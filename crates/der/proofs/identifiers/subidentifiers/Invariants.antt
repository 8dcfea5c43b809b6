-- The loop of `subidentifiers`.
use Rattle.std.proofs.Common.{◌≡◌, true, drop}
use Rattle.der.specs.Reading.{subidentifiers_in}
use Rattle.der.proofs.identifiers.subidentifiers.Given as goal

-- what is left ends as the whole does
abbrev pub invariant-loop-octet : goal.invariant-loop-octet
invariant-loop-octet l = subidentifiers_in l.begins (drop l.octet-index l.content) ≡ subidentifiers_in true l.content
