-- What the loop of `tell` keeps.
use Rattle.std.proofs.Common.{take}
use Rattle.explanation.proofs.Rows.{SoFar}
use Rattle.explanation.proofs.told.tell.Given as goal

abbrev pub invariant-loop-step : goal.invariant-loop-step
invariant-loop-step g l = SoFar l.reached l.failed (take l.step-index l.steps) l.rows.items
