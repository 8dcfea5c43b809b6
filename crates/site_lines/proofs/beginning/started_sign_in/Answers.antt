-- What is owed of `started_sign_in`.
use Rattle.std.proofs.Common.{map, option_map, rules}
use Rattle.site_state.specs.Sessions.{OpensSignIn}
use Rattle.site_lines.specs.Answers.{opens_sign_in}
use Rattle.site_lines.proofs.Kept.{begins_none, same_sign_in, session_begins}
use Rattle.site_lines.proofs.beginning.started_sign_in.Goals as goal

pub returns-clause-refused : goal.returns-clause-refused
returns-clause-refused g c =
    begins_none (OpensSignIn (option_map (λ u. u.now) c.as_deref.result) (map (λ id. id.now) c.as_slice-2.result.now) c.args.begin.now.user_verification c.args.words)
    (opens_sign_in c.args.begin.now c.args.words) c.args.site.now c.begin_sign_in.new.self c.begin_sign_in.result
    (same_sign_in _ _ _ _ c.args.begin.now.user_verification c.args.words (search rules) (search rules))
    c.begin_sign_in.ensures.begins.refused

pub returns-clause-begun : goal.returns-clause-begun
returns-clause-begun g c =
    session_begins g.S.Store
    (OpensSignIn (option_map (λ u. u.now) c.as_deref.result) (map (λ id. id.now) c.as_slice-2.result.now) c.args.begin.now.user_verification c.args.words)
    (opens_sign_in c.args.begin.now c.args.words) c.args.words c.args.now c.args.site.now c.begin_sign_in.new.self
    c.begin_sign_in.result
    (same_sign_in _ _ _ _ c.args.begin.now.user_verification c.args.words (search rules) (search rules))
    c.begin_sign_in.ensures.begins
