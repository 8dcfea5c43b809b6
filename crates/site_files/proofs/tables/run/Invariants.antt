-- What the loop of `run` keeps.
use Rattle.std.proofs.Common.{◌≤◌}
use Rattle.sqlite_trees.specs.View.{doubt}
use Rattle.sqlite.specs.Held.{state}
use Rattle.site_files.proofs.tables.run.Given as goal

abbrev pub invariant-loop-text : goal.invariant-loop-text
invariant-loop-text g l = doubt (state g.S.Store l.fn.conn).is_clean ≤ doubt (state g.S.Store l.conn).is_clean
