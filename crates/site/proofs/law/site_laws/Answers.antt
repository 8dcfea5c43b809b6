-- What is owed of `site_laws`.
use Rattle.site.proofs.Goings.{laws}
use Rattle.site.proofs.law.site_laws.Goals as goal

pub returns : goal.returns
returns g c = λ verifier. laws (g.V.Verifier.valid verifier)
