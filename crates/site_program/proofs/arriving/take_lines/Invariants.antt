-- What the loop of `take_lines` keeps.
use Rattle.std.specs.Io.KnownBytes.{Consumes}
use Rattle.site_program.specs.Words.{words_in}
use Rattle.site_program.proofs.arriving.take_lines.Given as goal

abbrev pub invariant-loop : goal.invariant-loop
invariant-loop g l = Consumes (g.W.Read.remaining l.fn.random) (g.W.Read.remaining l.random) (words_in l.arrived.items)
