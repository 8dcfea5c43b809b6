-- What is owed of `ExpectedOrigin::new`.
use Rattle.std.proofs.Common.{rules}
use Rattle.clientdata.specs.Expected.{after_challenge}
use Rattle.clientdata.proofs.expected.ExpectedOrigin.new.Goals as goal

pub invariant_of-result : goal.invariant_of-result
unfolding after_challenge
invariant_of-result c = search rules
