-- What the loop of `carry_all` keeps.
use Rattle.std.proofs.Common.{take}
use Rattle.site_rows.specs.Calls.{IsQuiet}
use Rattle.site_lines.specs.Batches.{Runs}
use Rattle.site_lines.proofs.line.carry_all.Given as goal

abbrev pub invariant-loop-one : goal.invariant-loop-one
invariant-loop-one g l = record {
  ran : Runs g.S.Store.view g.S.Store.faults l.now l.initial.site (take l.one-index l.arrived) l.answers.items l.site;
  quiet : IsQuiet g.S.Store l.initial.site.store l.site.store;
}
