-- What the loop of `is_one_of` keeps.
use Rattle.std.proofs.Common.{map, take}
use Rattle.json_lines.specs.Faults.{IsOneOf}
use Rattle.json_lines.proofs.names.is_one_of.Given as goal

abbrev pub invariant-loop-one : goal.invariant-loop-one
invariant-loop-one l = IsOneOf (map (λ n. n.now) (take l.one-index l.names)) l.name → ⊥
