-- What is owed of `one_first_line`.
use Rattle.refusal_order.proofs.Laws.{one_first, none_first, none_holds}
use Rattle.refusal_order.proofs.law.one_first_line.Goals as goal

pub returns-clause-one : goal.returns-clause-one
returns-clause-one g c = one_first (λ x none holds. none holds)

pub returns-clause-none : goal.returns-clause-none
returns-clause-none g c = λ lines. (λ none x first. none_first (λ y out holds. out holds) lines x none first, none_holds g.L.Line.holds lines)

pub returns-clause-one_failing : goal.returns-clause-one_failing
returns-clause-one_failing g c = one_first (λ x holds none. none holds)

pub returns-clause-none_failing : goal.returns-clause-none_failing
returns-clause-none_failing g c = none_first (λ x holds none. none holds)
