-- What is owed of `same_steps`.
use Rattle.site_seal.proofs.Judging.{same_step}
use Rattle.site_seal.proofs.law.same_steps.Goals as goal

pub returns : goal.returns
returns g c = λ verifier. same_step (g.V.Verifier.valid verifier)
