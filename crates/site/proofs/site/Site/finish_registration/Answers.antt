-- What is owed of `Site::finish_registration`.
use Rattle.std.proofs.Common.{subst}
use Rattle.std.specs.Prelude.{IfErr, IfOk}
use Rattle.verification.specs.Registration.{PassesRegistration}
use Rattle.verification.specs.RegistrationAnswers.{IsRefused}
use Rattle.site.specs.Answers.{IsRegistered}
use Rattle.site.specs.State.{judged_registration}
use Rattle.site.proofs.site.Site.finish_registration.Goals as goal

pub returns-clause-accepted : goal.returns-clause-accepted
returns-clause-accepted g c =
    subst (λ r. IfOk c.finish_registration_parts.result
    (λ x. PassesRegistration (g.V.Verifier.valid c.args.verifier.now) (judged_registration c.args.self.now c.args.session r)
    × IsRegistered c.args.self.now r x))
    c.parts.ensures c.finish_registration_parts.ensures.accepted

pub returns-clause-refused : goal.returns-clause-refused
returns-clause-refused g c =
    subst (λ r. IfErr c.finish_registration_parts.result (IsRefused (g.V.Verifier.valid c.args.verifier.now) (judged_registration c.args.self.now c.args.session r)))
    c.parts.ensures c.finish_registration_parts.ensures.refused
