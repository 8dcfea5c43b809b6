-- What is owed of `read`.
use Rattle.std.proofs.Common.{rules}
use Rattle.clientdata.specs.Reading.{seen_of}
use Rattle.clientdata.proofs.seen.read.Goals as goal

pub returns-in_default-clause-unreadable : goal.returns-in_default-clause-unreadable
unfolding seen_of
returns-in_default-clause-unreadable c = search rules

pub returns-clause-ok : goal.returns-clause-ok
unfolding seen_of
returns-clause-ok c = search rules

pub returns-clause-unreadable : goal.returns-clause-unreadable
unfolding seen_of
returns-clause-unreadable c = search rules

pub returns-clause-nothing : goal.returns-clause-nothing
unfolding seen_of
returns-clause-nothing c = search rules
