-- What is owed of `SignInAttempt::expected`.
use Rattle.std.proofs.Common.{ap, refl, rules}
use Rattle.std.specs.Prelude.{option_map}
use Rattle.refusal_order.proofs.Laws.{first_at}
use Rattle.verification.specs.Views.{credential_view, sign_in_view}
use Rattle.verification.proofs.signing_in.SignInAttempt.expected.Goals as goal

pub returns-in_default-clause-refused : goal.returns-in_default-clause-refused
returns-in_default-clause-refused c = first_at 0 refl (search rules) (search rules)

pub returns-then-not-is_allowed-clause-refused : goal.returns-then-not-is_allowed-clause-refused
returns-then-not-is_allowed-clause-refused c = first_at 1 refl (search rules) (λ passes.
    let is_open = ap (option_map (λ s. sign_in_view s.now)) c.in-Some.is in
    let allowed = passes (sign_in_view c.in-Some.session.now) is_open in
    let yes = c.is_allowed.ensures.1 (rw c.deref.ensures.value allowed) in
    let no = c.if-not-is_allowed.true in absurd cc)

pub returns-in_default-credential-clause-refused : goal.returns-in_default-credential-clause-refused
returns-in_default-credential-clause-refused c = first_at 2 refl (search rules) (search rules)

pub returns-then-credential-clause-refused : goal.returns-then-credential-clause-refused
returns-then-credential-clause-refused c = first_at 2 refl (search rules) (search rules)

pub returns-then-not-are_user-clause-refused : goal.returns-then-not-are_user-clause-refused
returns-then-not-are_user-clause-refused c = first_at 3 refl (search rules) (λ passes.
    let is_open = ap (option_map (λ s. sign_in_view s.now)) c.in-Some.is in
    let is_there = ap (option_map credential_view) c.in-Some-credential.is in
    let user = passes (sign_in_view c.in-Some.session.now) is_open (credential_view c.in-Some-credential.credential) is_there in
    let yes = c.are_user.ensures.1 user in
    let no = c.if-not-are_user.true in absurd cc)
