-- What is owed of `serving_laws`.
use Rattle.security_key.proofs.Acting.{laws}
use Rattle.security_key.proofs.law.serving_laws.Goals as goal

pub returns : goal.returns
returns g c = λ verifier public. laws (g.V.Verifier.valid verifier) public
