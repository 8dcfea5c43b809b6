-- What is owed of `commit`.
use Rattle.stored_runs.proofs.Bound.{commits}
use Rattle.stored_runs.proofs.making.commit.Goals as goal

pub returns : goal.returns
returns g c = commits g.S.Store.view _ _ _ c.commit.ensures.kept c.commit.ensures.given c.commit.ensures.held c.commit.ensures.beside
