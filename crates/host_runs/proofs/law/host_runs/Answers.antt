-- What is owed of `host_runs`.
use Rattle.cose.specs.Bench.{bench_public}
use Rattle.host_runs.proofs.Races.{races}
use Rattle.host_runs.proofs.Runs.{host_runs}
use Rattle.host_runs.proofs.Shown.{shown}
use Rattle.host_runs.proofs.law.host_runs.Goals as goal

pub returns-clause-runs : goal.returns-clause-runs
returns-clause-runs g c = λ wide public.
    host_runs (g.V.Verifier.valid) (g.W.Verifier.valid wide) public (c.hosts_runs.ensures wide public) (c.of_all_runs.ensures.agreement wide public)

pub returns-clause-races : goal.returns-clause-races
returns-clause-races g c = λ first second. races (g.V.Verifier.valid first) (g.W.Verifier.valid second)

pub returns-clause-shown : goal.returns-clause-shown
returns-clause-shown g c = shown (c.below.ensures (record {}) bench_public)
