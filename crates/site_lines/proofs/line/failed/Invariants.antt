-- What the loop of `failed` keeps.
use Rattle.std.proofs.Common.{◌≡◌, map, take}
use Rattle.site_lines.specs.Batches.{failed_as}
use Rattle.site_lines.proofs.line.failed.Given as goal

abbrev pub invariant-loop-answered : goal.invariant-loop-answered
invariant-loop-answered l = l.told.items ≡ map (failed_as l.why) (take l.answered-index l.answers)
