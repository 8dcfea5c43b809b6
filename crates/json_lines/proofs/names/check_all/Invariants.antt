-- What the loop of `check_all` keeps.
use Rattle.std.proofs.Common.{map}
use Rattle.std.specs.Prelude.{string_bytes}
use Rattle.std.specs.List.{AllByRecursion}
use Rattle.json_lines.specs.Faults.{IsOneOf, taken}
use Rattle.json_lines.proofs.names.check_all.Given as goal

abbrev pub invariant-loop-name : goal.invariant-loop-name
invariant-loop-name l = AllByRecursion (IsOneOf (taken (map (λ n. n.now) l.names))) (map (λ p. string_bytes p.0.now) l.yielded)
