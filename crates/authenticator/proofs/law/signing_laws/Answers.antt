-- What is owed of `signing_laws`.
use Rattle.authenticator.proofs.Waiting.{laws}
use Rattle.authenticator.proofs.law.signing_laws.Goals as goal

pub returns : goal.returns
returns g c = λ verifier public. laws (g.V.Verifier.valid verifier) public
