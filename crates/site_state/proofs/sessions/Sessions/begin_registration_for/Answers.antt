-- What is owed of `Sessions::begin_registration_for`.
use Rattle.std.proofs.Common.{ap, arith}
use Rattle.std.proofs.lemmas.Result.{err_from_is_err_and}
use Rattle.authdata.specs.declared.profile.Profile.TheVariants.{Strict}
use Rattle.site_state.specs.Sessions.{OpensRegistration}
use Rattle.site_state.proofs.sessions.Sessions.begin_registration_for.Goals as goal

pub returns-in_err-admit-clause-refused : goal.returns-in_err-admit-clause-refused
returns-in_err-admit-clause-refused c = λ profile.
    let p = err_from_is_err_and c.from_residual.result c.from_residual.ensures.1 in
    let asked = OpensRegistration c.args.user.now c.args.algorithms.now c.args.uv c.args.words c.args.asks in
    rw (p.1, p.2) (c.in_err-admit.ensures.refused profile asked (c.is_registration.ensures profile c.args.words c.args.uv c.args.asks))

pub add-requires-clause-number : goal.add-requires-clause-number
add-requires-clause-number c =
    let asked = OpensRegistration c.args.user.now c.args.algorithms.now c.args.uv c.args.words c.args.asks in
    (c.in_ok-admit.ensures.passes Strict asked (c.is_registration.ensures Strict c.args.words c.args.uv c.args.asks)).1.1.0

pub add-requires-clause-limits : goal.add-requires-clause-limits
add-requires-clause-limits c =
    let asked = OpensRegistration c.args.user.now c.args.algorithms.now c.args.uv c.args.words c.args.asks in
    rw (ap (λ e. e.user) c.in_ok-expected.ensures) (c.in_ok-admit.ensures.passes Strict asked (c.is_registration.ensures Strict c.args.words c.args.uv c.args.asks)).0.0

pub returns-clause-passes : goal.returns-clause-passes
returns-clause-passes c = λ profile.
    let asked = OpensRegistration c.args.user.now c.args.algorithms.now c.args.uv c.args.words c.args.asks in
    c.in_ok-admit.ensures.passes profile asked (c.is_registration.ensures profile c.args.words c.args.uv c.args.asks)

pub add-requires-clause-challenge : goal.add-requires-clause-challenge
add-requires-clause-challenge c = (omega arith, (c.args.words, rw (← c.self.view_is) (ap (λ e. e.challenge) c.in_ok-expected.ensures)))
