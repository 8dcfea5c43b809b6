-- What is owed of `sign_in_session`.
use Rattle.std.proofs.Common.{rules}
use Rattle.std.specs.Prelude.{IsTrue}
use Rattle.site_state.proofs.sessions.sign_in_session.Goals as goal

pub returns-then-not-is_sign_in-clause-refused : goal.returns-then-not-is_sign_in-clause-refused
returns-then-not-is_sign_in-clause-refused c = λ input.
    let yes : IsTrue c.is_sign_in.result = (c.is_sign_in.ensures c.args.words.now c.args.uv).1 input in search rules

pub returns-clause-input : goal.returns-clause-input
returns-clause-input c = (c.is_sign_in.ensures c.args.words.now c.args.uv).0 (search rules)
