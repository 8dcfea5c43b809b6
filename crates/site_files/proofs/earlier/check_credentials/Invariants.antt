-- What the loop of `check_credentials` keeps.
use Rattle.sqlite_trees.specs.View.{KeepsSchema}
use Rattle.site_rows.specs.Calls.{HasCursor, IsQuiet}
use Rattle.site_rows.specs.Held.{IsSameView}
use Rattle.site_files.proofs.earlier.check_credentials.Given as goal

abbrev pub invariant-loop : goal.invariant-loop
invariant-loop g l =
    HasCursor (g.S.Store.view l.store)
    × IsSameView (g.S.Store.view l.fn.store) (g.S.Store.view l.store)
    × KeepsSchema (g.S.Store.view l.fn.store) (g.S.Store.view l.store)
    × IsQuiet g.S.Store l.fn.store l.store
