-- What is owed of `one_statement`.
use Rattle.authdata.proofs.Statements.{one_statement}
use Rattle.authdata.proofs.law.one_statement.Goals as goal

pub returns : goal.returns
returns g c = λ scheme. one_statement (g.V.Verifier.valid scheme)
