-- What is owed of `step_laws`.
use Rattle.authenticator.proofs.Soundness.{laws}
use Rattle.authenticator.proofs.law.step_laws.Goals as goal

pub returns : goal.returns
returns g c = λ verifier public. laws (g.V.Verifier.valid verifier) public
