-- What is owed of `check_client_data`.
use Rattle.std.proofs.Common.{refl, rules}
use Rattle.refusal_order.proofs.Laws.{first_at}
use Rattle.verification.proofs.Expected.{expected_says}
use Rattle.verification.proofs.client_data.check_client_data.Goals as goal

pub returns-in-Err-Unreadable-clause-refused : goal.returns-in-Err-Unreadable-clause-refused
returns-in-Err-Unreadable-clause-refused c = first_at 0 refl (search rules) (search rules)

pub returns-then-expects-clause-passes : goal.returns-then-expects-clause-passes
returns-then-expects-clause-passes c = expected_says c.args.kind c.args.challenge.now c.args.bytes.now c.args.party.now (c.expects.ensures.0 c.if-expects.true)
