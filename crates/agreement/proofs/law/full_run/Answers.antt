-- What is owed of `full_run`.
use Rattle.cose.specs.Bench.{bench_public}
use Rattle.agreement.proofs.OneRun.{everything, happens}
use Rattle.agreement.proofs.law.full_run.Goals as goal

pub returns-clause-honest : goal.returns-clause-honest
returns-clause-honest c = happens (c.below.ensures (record {}) bench_public)

pub returns-clause-full : goal.returns-clause-full
returns-clause-full c = everything (c.below.ensures (record {}) bench_public)
