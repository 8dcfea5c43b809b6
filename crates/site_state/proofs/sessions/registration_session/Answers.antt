-- What is owed of `registration_session`.
use Rattle.std.proofs.Common.{rules}
use Rattle.std.specs.Prelude.{IsTrue}
use Rattle.site_state.proofs.sessions.registration_session.Goals as goal

pub returns-then-not-is_registration-clause-refused : goal.returns-then-not-is_registration-clause-refused
returns-then-not-is_registration-clause-refused c = λ profile input.
    let yes : IsTrue c.is_registration.result = (c.is_registration.ensures profile c.args.words.now c.args.uv c.args.asks).1 input in search rules

pub returns-clause-input : goal.returns-clause-input
returns-clause-input c = λ profile. (c.is_registration.ensures profile c.args.words.now c.args.uv c.args.asks).0 (search rules)
