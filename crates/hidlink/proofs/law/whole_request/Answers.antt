-- What is owed of `whole_request`.
use Rattle.hidlink.proofs.Whole.{comes, quiet, stays, ends}
use Rattle.hidlink.proofs.law.whole_request.Goals as goal

pub returns-clause-comes : goal.returns-clause-comes
returns-clause-comes c = comes

pub returns-clause-quiet : goal.returns-clause-quiet
returns-clause-quiet c = quiet

pub returns-clause-kept : goal.returns-clause-kept
returns-clause-kept c = stays

pub returns-clause-answered : goal.returns-clause-answered
returns-clause-answered c = ends
