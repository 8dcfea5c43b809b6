-- What is owed of `VerifiedRegistration::admit`.
use Rattle.std.proofs.Common.{◌∙◌}
use Rattle.verification.proofs.Registrations.{registered, full, admitted}
use Rattle.verification.proofs.registration.VerifiedRegistration.admit.Goals as goal

pub returns-then-is_registered-clause-refused : goal.returns-then-is_registered-clause-refused
returns-then-is_registered-clause-refused c = λ x tells r f. registered x c.args.self.now tells (r ∙ c.if-is_registered.true)

pub returns-then-is_full-clause-refused : goal.returns-then-is_full-clause-refused
returns-then-is_full-clause-refused c = λ x tells r f. full x c.args.self.now tells (r ∙ c.if-is_registered.false) (f ∙ c.if-is_full.true)

pub returns-clause-passes : goal.returns-clause-passes
returns-clause-passes c = λ x tells r f. admitted x c.args.self.now tells (r ∙ c.if-is_registered.false) (f ∙ c.if-is_full.false)
