-- What is owed of `stored_laws`.
use Rattle.site_stored.proofs.Laws.{laws}
use Rattle.site_stored.proofs.law.stored_laws.Goals as goal

pub returns : goal.returns
returns c = laws
