-- What is owed of `agreement`.
use Rattle.agreement.proofs.Registering.{registers}
use Rattle.agreement.proofs.SigningIn.{signs_in}
use Rattle.agreement.proofs.Runs.{agrees}
use Rattle.agreement.proofs.Lived.{lives}
use Rattle.agreement.proofs.law.agreement.Goals as goal

pub returns-clause-registers : goal.returns-clause-registers
returns-clause-registers g c = λ scheme x. registers (g.S.Verifier.valid scheme) (g.S.Signer.public_of scheme)
    (c.below.ensures scheme (g.S.Signer.public_of scheme)) (g.met.S.Signer.keeps_alg scheme) x

pub returns-clause-signs_in : goal.returns-clause-signs_in
returns-clause-signs_in g c = λ scheme x credential n idle h shared low asked. signs_in (g.S.Verifier.valid scheme) (g.S.Signer.public_of scheme)
    (c.below.ensures scheme (g.S.Signer.public_of scheme)) x credential n idle h shared low asked

pub returns-clause-agrees : goal.returns-clause-agrees
returns-clause-agrees g c = λ scheme x h. agrees (g.S.Verifier.valid scheme) (g.S.Signer.public_of scheme)
    (c.below.ensures scheme (g.S.Signer.public_of scheme)) (g.met.S.Signer.keeps_alg scheme) x h

pub returns-clause-lives : goal.returns-clause-lives
returns-clause-lives g c = λ scheme x h p t. lives (g.S.Verifier.valid scheme) (g.S.Signer.public_of scheme)
    (c.below.ensures scheme (g.S.Signer.public_of scheme)) (g.met.S.Signer.keeps_alg scheme) x h p t

pub returns-clause-of_all_runs : goal.returns-clause-of_all_runs
returns-clause-of_all_runs g c = λ scheme. c.of_all_runs.ensures.agreement scheme (g.S.Signer.public_of scheme)
