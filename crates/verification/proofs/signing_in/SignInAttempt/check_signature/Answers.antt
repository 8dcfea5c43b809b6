-- What is owed of `SignInAttempt::check_signature`.
use Rattle.authdata.specs.Layout.{lent_auth_view}
use Rattle.verification.specs.Views.{judged_sign_in_view, credential_view}
use Rattle.verification.proofs.Steps.{HasBoth, bad_signature, not_greater, changed, signature_passes}
use Rattle.verification.proofs.signing_in.SignInAttempt.check_signature.Goals as goal

pub returns-then-not-is_signed-clause-refused : goal.returns-then-not-is_signed-clause-refused
returns-then-not-is_signed-clause-refused g c =
    let has : HasBoth (judged_sign_in_view c.args.self.now) (credential_view c.args.credential.now) (lent_auth_view c.args.auth_data.now) =
    record { credential = c.requires.credential; spelled = c.requires.auth_data } in
    bad_signature (g.V.Verifier.valid c.args.verifier.now) _ _ _ has
    (λ v. let yes = c.is_signed.ensures.1 v in let no = c.if-not-is_signed.true in absurd cc)

pub returns-then-not-is_counted-clause-refused : goal.returns-then-not-is_counted-clause-refused
returns-then-not-is_counted-clause-refused g c =
    let has : HasBoth (judged_sign_in_view c.args.self.now) (credential_view c.args.credential.now) (lent_auth_view c.args.auth_data.now) =
    record { credential = c.requires.credential; spelled = c.requires.auth_data } in
    not_greater (g.V.Verifier.valid c.args.verifier.now) _ _ _ has (c.is_signed.ensures.0 c.if-not-is_signed.false)
    (λ k. let yes = c.is_counted.ensures.1 k in let no = c.if-not-is_counted.true in absurd cc)

pub returns-then-not-is_eligible_as-clause-refused : goal.returns-then-not-is_eligible_as-clause-refused
returns-then-not-is_eligible_as-clause-refused g c =
    let has : HasBoth (judged_sign_in_view c.args.self.now) (credential_view c.args.credential.now) (lent_auth_view c.args.auth_data.now) =
    record { credential = c.requires.credential; spelled = c.requires.auth_data } in
    changed (g.V.Verifier.valid c.args.verifier.now) _ _ _ has (c.is_signed.ensures.0 c.if-not-is_signed.false)
    (c.is_counted.ensures.0 c.if-not-is_counted.false)
    (λ k. let yes = c.is_eligible_as.ensures.1 k in let no = c.if-not-is_eligible_as.true in absurd cc)

pub returns-clause-passes : goal.returns-clause-passes
returns-clause-passes g c =
    let has : HasBoth (judged_sign_in_view c.args.self.now) (credential_view c.args.credential.now) (lent_auth_view c.args.auth_data.now) =
    record { credential = c.requires.credential; spelled = c.requires.auth_data } in
    signature_passes (g.V.Verifier.valid c.args.verifier.now) _ _ _ has (c.is_signed.ensures.0 c.if-not-is_signed.false)
    (c.is_counted.ensures.0 c.if-not-is_counted.false)
    (c.is_eligible_as.ensures.0 c.if-not-is_eligible_as.false)
