-- What is owed of `after_challenge`.
use Rattle.clientdata.proofs.Whole.{behind_front, no_front}
use Rattle.clientdata.proofs.expected.after_challenge.Goals as goal

pub returns-in_err-rest : goal.returns-in_err-rest
returns-in_err-rest c = rw c.from_residual.ensures
    (no_front c.args.kind c.args.challenge.now c.args.bytes.now c.before_challenge.result.now c.challenge_characters-challenge.result
    c.before_challenge.ensures c.challenge_characters-challenge.ensures.text c.challenge_characters-challenge.ensures.plain c.in_err-rest.ensures)

pub returns : goal.returns
returns c = behind_front c.args.kind c.args.challenge.now c.args.bytes.now c.before_challenge.result.now c.challenge_characters-challenge.result
    c.before_challenge.ensures c.challenge_characters-challenge.ensures.text c.challenge_characters-challenge.ensures.plain
    c.after-2.result c.in_ok-rest.rest.now c.in_ok-rest.ensures c.after-2.ensures
