-- What is owed of `Table::has`.
use Rattle.site_state.proofs.Entries.{has_not}
use Rattle.site_state.proofs.table.Table.has.Goals as goal

pub returns : goal.returns
returns c = rw (← c.self.view_is) (has_not c.args.id.now c.self.inside.rows.entries c.contains_key.result c.contains_key.ensures)
