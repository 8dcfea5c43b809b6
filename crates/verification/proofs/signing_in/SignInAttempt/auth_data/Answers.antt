-- What is owed of `SignInAttempt::auth_data`.
use Rattle.std.proofs.Common.{refl, sym, ◌∙◌}
use Rattle.authdata.specs.Layout.{lent_auth_view}
use Rattle.verification.specs.Views.{judged_sign_in_view, sign_in_view}
use Rattle.verification.proofs.Steps.{HasBare, unbare, wrong_party, not_present, not_verified, data_passes}
use Rattle.verification.proofs.signing_in.SignInAttempt.auth_data.Goals as goal

pub returns-in_default-clause-refused : goal.returns-in_default-clause-refused
returns-in_default-clause-refused c = unbare (judged_sign_in_view c.args.self.now) (rw (sym c.profile.ensures) (c.in_default.ensures.none refl))

pub returns-then-not-is_hash-clause-refused : goal.returns-then-not-is_hash-clause-refused
returns-then-not-is_hash-clause-refused c =
    let has : HasBare (judged_sign_in_view c.args.self.now) (lent_auth_view c.in-Some.data) =
    record { spelled = rw (sym c.profile.ensures) c.in-Some.ensures.found.0; bare = c.in-Some.ensures.found.1 } in
    wrong_party _ _ has (λ same. let yes = c.is_hash.ensures.1 same in let no = c.if-not-is_hash.true in absurd cc)

pub returns-then-not-is_set-clause-refused : goal.returns-then-not-is_set-clause-refused
returns-then-not-is_set-clause-refused c =
    let has : HasBare (judged_sign_in_view c.args.self.now) (lent_auth_view c.in-Some.data) =
    record { spelled = rw (sym c.profile.ensures) c.in-Some.ensures.found.0; bare = c.in-Some.ensures.found.1 } in
    not_present _ _ has (c.is_hash.ensures.0 c.if-not-is_hash.false) (λ set. let yes = c.is_set.ensures ∙ set in let no = c.if-not-is_set.true in absurd cc)

pub returns-then-not-is_verified_as-clause-refused : goal.returns-then-not-is_verified_as-clause-refused
returns-then-not-is_verified_as-clause-refused c =
    let has : HasBare (judged_sign_in_view c.args.self.now) (lent_auth_view c.in-Some.data) =
    record { spelled = rw (sym c.profile.ensures) c.in-Some.ensures.found.0; bare = c.in-Some.ensures.found.1 } in
    not_verified _ (sign_in_view c.args.session.now) _ c.requires has (c.is_hash.ensures.0 c.if-not-is_hash.false) (sym c.is_set.ensures
    ∙ c.if-not-is_set.false)
    (λ verified. let yes = c.is_verified_as.ensures.1 verified in let no = c.if-not-is_verified_as.true in absurd cc)

pub returns-clause-passes : goal.returns-clause-passes
returns-clause-passes c =
    let has : HasBare (judged_sign_in_view c.args.self.now) (lent_auth_view c.in-Some.data) =
    record { spelled = rw (sym c.profile.ensures) c.in-Some.ensures.found.0; bare = c.in-Some.ensures.found.1 } in
    data_passes _ (sign_in_view c.args.session.now) _ c.requires has (c.is_hash.ensures.0 c.if-not-is_hash.false) (sym c.is_set.ensures ∙ c.if-not-is_set.false)
    (c.is_verified_as.ensures.0 c.if-not-is_verified_as.false)
