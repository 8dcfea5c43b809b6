-- What is owed of `one_refusal`.
use Rattle.authdata.specs.Refusals.{order}
use Rattle.refusal_order.proofs.Laws.{one_first}
use Rattle.authdata.proofs.NoRefusal.{none_applies}
use Rattle.authdata.proofs.law.one_refusal.Goals as goal

pub returns-clause-none : goal.returns-clause-none
returns-clause-none c = none_applies

pub returns-clause-one : goal.returns-clause-one
returns-clause-one c = λ p bs. one_first (λ e out applies. out applies) order
