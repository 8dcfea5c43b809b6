-- What is owed of `one_table`.
use Rattle.site.proofs.Tables.{one_saved}
use Rattle.site.proofs.law.one_table.Goals as goal

pub returns : goal.returns
returns c = one_saved
