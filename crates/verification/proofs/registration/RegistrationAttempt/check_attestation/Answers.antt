-- What is owed of `RegistrationAttempt::check_attestation`.
use Rattle.verification.specs.Views.{judged_without_table, registration_view}
use Rattle.verification.proofs.Registrations.{statement_fails, not_accepted, attestation_passes}
use Rattle.verification.proofs.registration.RegistrationAttempt.check_attestation.Goals as goal

pub returns-in-Err-clause-refused : goal.returns-in-Err-clause-refused
returns-in-Err-clause-refused g c =
    statement_fails (g.V.Verifier.valid c.args.verifier.now) (judged_without_table c.args.self.now) _ _ _ c.requires.attests (registration_view c.args.session.now) c.requires.session c.in-Err.refusal
    (rw (c.hash-hash.ensures, c.profile-profile.ensures) at c.in-Err.ensures.refused)

pub returns-then-not-is_accepted-clause-refused : goal.returns-then-not-is_accepted-clause-refused
returns-then-not-is_accepted-clause-refused g c =
    not_accepted (g.V.Verifier.valid c.args.verifier.now) (judged_without_table c.args.self.now) _ _ _ c.requires.attests (registration_view c.args.session.now) c.requires.session c.in-Ok.kind
    (rw (c.hash-hash.ensures, c.profile-profile.ensures) at c.in-Ok.ensures.shown)
    (λ accepts. let yes = c.is_accepted.ensures.1 accepts in let no = c.if-not-is_accepted.true in absurd cc)

pub returns-clause-passes : goal.returns-clause-passes
returns-clause-passes g c =
    attestation_passes (g.V.Verifier.valid c.args.verifier.now) (judged_without_table c.args.self.now) _ _ _ c.requires.attests (registration_view c.args.session.now) c.requires.session c.in-Ok.kind
    (rw (c.hash-hash.ensures, c.profile-profile.ensures) at c.in-Ok.ensures.shown)
    (c.is_accepted.ensures.0 c.if-not-is_accepted.false)
