-- What the loop of `lines_of` keeps.
use Rattle.std.proofs.Common.{take, string_bytes}
use Rattle.site_program.specs.Told.{AreLinesOf}
use Rattle.site_program.proofs.telling.lines_of.Given as goal

abbrev pub invariant-loop-answered : goal.invariant-loop-answered
invariant-loop-answered l = AreLinesOf l.teller (take l.answered-index l.answers) (string_bytes l.text)
