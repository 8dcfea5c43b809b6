-- What is owed of `one_verdict`.
use Rattle.ceremony.specs.SignIn as sign_in
use Rattle.ceremony.specs.Registration as registration
use Rattle.ceremony.proofs.OneVerdict.{not_both_verdicts, one_acceptance, one_refusal, registration_one, sign_in_one}
use Rattle.ceremony.proofs.law.one_verdict.Goals as goal

pub returns-clause-sign_in_one_acceptance : goal.returns-clause-sign_in_one_acceptance
returns-clause-sign_in_one_acceptance g c =
    λ verifier s session t k ps n j r q. one_acceptance (sign_in.sign_in (g.V.Verifier.valid verifier) s session t)
    (sign_in_one (g.V.Verifier.valid verifier) s session t) k ps n j r q

pub returns-clause-sign_in_not_both : goal.returns-clause-sign_in_not_both
returns-clause-sign_in_not_both g c =
    λ verifier s session t k ps n r e low all. not_both_verdicts (sign_in.sign_in (g.V.Verifier.valid verifier) s session t)
    (sign_in_one (g.V.Verifier.valid verifier) s session t) k ps low all n r e

pub returns-clause-sign_in_one_refusal : goal.returns-clause-sign_in_one_refusal
returns-clause-sign_in_one_refusal g c =
    λ verifier s session t k ps e f low all. one_refusal (sign_in.sign_in (g.V.Verifier.valid verifier) s session t)
    (sign_in_one (g.V.Verifier.valid verifier) s session t) k ps low all e f

pub returns-clause-registration_one_acceptance : goal.returns-clause-registration_one_acceptance
returns-clause-registration_one_acceptance g c =
    λ verifier s session t k ps n j r q. one_acceptance (registration.registration (g.V.Verifier.valid verifier) s session t)
    (registration_one (g.V.Verifier.valid verifier) s session t) k ps n j r q

pub returns-clause-registration_not_both : goal.returns-clause-registration_not_both
returns-clause-registration_not_both g c =
    λ verifier s session t k ps n r e low all. not_both_verdicts (registration.registration (g.V.Verifier.valid verifier) s session t)
    (registration_one (g.V.Verifier.valid verifier) s session t) k ps low all n r e

pub returns-clause-registration_one_refusal : goal.returns-clause-registration_one_refusal
returns-clause-registration_one_refusal g c =
    λ verifier s session t k ps e f low all. one_refusal (registration.registration (g.V.Verifier.valid verifier) s session t)
    (registration_one (g.V.Verifier.valid verifier) s session t) k ps low all e f
