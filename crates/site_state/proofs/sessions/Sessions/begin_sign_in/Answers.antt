-- What is owed of `Sessions::begin_sign_in`.
use Rattle.std.proofs.Common.{ap, arith, map}
use Rattle.std.specs.Prelude.{option_map}
use Rattle.std.proofs.lemmas.Result.{err_from_is_err_and}
use Rattle.site_state.specs.Sessions.{OpensSignIn}
use Rattle.site_state.proofs.sessions.Sessions.begin_sign_in.Goals as goal

pub returns-in_err-admit-clause-refused : goal.returns-in_err-admit-clause-refused
returns-in_err-admit-clause-refused c =
    let p = err_from_is_err_and c.from_residual.result c.from_residual.ensures.1 in
    let asked = OpensSignIn (option_map (λ u. u.now) c.args.user) (map (λ id. id.now) c.args.allow.now) c.args.uv c.args.words in
    rw (p.1, p.2) (c.in_err-admit.ensures.refused c.args.profile asked (c.is_sign_in.ensures c.args.words c.args.uv))

pub add-requires-clause-number : goal.add-requires-clause-number
add-requires-clause-number c =
    let asked = OpensSignIn (option_map (λ u. u.now) c.args.user) (map (λ id. id.now) c.args.allow.now) c.args.uv c.args.words in
    (c.in_ok-admit.ensures.passes c.args.profile asked (c.is_sign_in.ensures c.args.words c.args.uv)).1.1.0

pub returns-clause-passes : goal.returns-clause-passes
returns-clause-passes c =
    let asked = OpensSignIn (option_map (λ u. u.now) c.args.user) (map (λ id. id.now) c.args.allow.now) c.args.uv c.args.words in
    c.in_ok-admit.ensures.passes c.args.profile asked (c.is_sign_in.ensures c.args.words c.args.uv)

pub add-requires-clause-challenge : goal.add-requires-clause-challenge
add-requires-clause-challenge c = (omega arith, (c.args.words, rw (← c.self.view_is) (ap (λ e. e.challenge) c.in_ok-expected.ensures)))
