-- What is owed of `begin_registration`.
use Rattle.std.proofs.Common.{arith}
use Rattle.site_state.specs.Sessions.{OpensRegistration}
use Rattle.agreement.proofs.Acted.{begins}
use Rattle.agreement.proofs.acting.begin_registration.Goals as goal

pub returns : goal.returns
returns c =
    begins c.args.site.now _ (OpensRegistration c.args.user.now c.args.algorithms.now c.args.uv c.args.words.now c.args.asks)
    c.begin_registration_for.result (λ i. omega (arith, c.fits-words i)) c.begin_registration_for.ensures.passes c.begin_registration_for.ensures.begun
