-- What is owed of `profiles`.
use Rattle.verification.proofs.Differing.{registrations_differ, sign_ins_differ}
use Rattle.verification.proofs.law.profiles.Goals as goal

pub returns-clause-sign_ins : goal.returns-clause-sign_ins
returns-clause-sign_ins g c = λ verifier x step. sign_ins_differ (g.V.Verifier.valid verifier) x step

pub returns-clause-registrations : goal.returns-clause-registrations
returns-clause-registrations g c = λ verifier x step. registrations_differ (g.V.Verifier.valid verifier) x step
