-- What the loop of `has_own` keeps.
use Rattle.std.proofs.Common.{ℕ, ◌<◌}
use Rattle.site_disk.specs.Mark.{IsMarked}
use Rattle.site_disk.proofs.mark.has_own.Given as goal

abbrev pub invariant-loop-i : goal.invariant-loop-i
invariant-loop-i l = (j : ℕ) → j < l.i → ((follows : ℕ) × IsMarked l.log l.root j l.own follows) → ⊥
