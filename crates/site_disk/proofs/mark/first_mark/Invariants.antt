-- What the loop of `first_mark` keeps.
use Rattle.site_disk.specs.Mark.{HasNoMark}
use Rattle.site_disk.proofs.mark.first_mark.Given as goal

abbrev pub invariant-loop-i : goal.invariant-loop-i
invariant-loop-i l = HasNoMark l.log l.root l.i
