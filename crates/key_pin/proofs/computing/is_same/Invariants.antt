-- What the loop of `is_same` keeps.
use Rattle.key_pin.proofs.Same.{Gathers}
use Rattle.key_pin.proofs.computing.is_same.Given as goal

abbrev pub invariant-loop-i : goal.invariant-loop-i
invariant-loop-i l = Gathers l.differences l.left l.right l.i
