-- What the loop of `push_quoted` keeps.
use Rattle.std.proofs.Common.{◌≡◌, ◌++◌, ◌∷◌, string_bytes}
use Rattle.std.specs.Prelude.{flat_map}
use Rattle.clientdata.specs.Quoted.{escaped}
use Rattle.clientdata.proofs.quoting.push_quoted.Given as goal

-- the quotation mark and the code points so far
abbrev pub invariant-loop-c : goal.invariant-loop-c
invariant-loop-c l = string_bytes l.text ≡ string_bytes l.fn.text ++ 34 ∷ flat_map escaped l.yielded
