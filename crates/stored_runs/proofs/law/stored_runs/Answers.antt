-- What is owed of `stored_runs`.
use Rattle.cose.specs.Bench.{bench_public}
use Rattle.stored_runs.proofs.Histories.{stored}
use Rattle.stored_runs.proofs.Shown.{shown}
use Rattle.stored_runs.proofs.law.stored_runs.Goals as goal

pub returns-clause-runs : goal.returns-clause-runs
returns-clause-runs g c = λ wide public.
    stored g.row.S.Denot (g.V.Verifier.valid) (g.W.Verifier.valid wide) public (record {
      stored = c.stored_laws.ensures;
      site = c.site_laws.ensures wide;
      one_text = c.one_text.ensures;
      same_steps = c.same_steps.ensures wide;
    }) (c.hosts_runs.ensures wide public) (c.of_all_runs.ensures.agreement wide public) (c.of_all_runs.ensures.ledger wide public)
    (c.of_all_runs.ensures.dropped wide public) (c.of_all_runs.ensures.begun wide public)

pub returns-clause-shown : goal.returns-clause-shown
returns-clause-shown g c = shown (c.below.ensures (record {}) bench_public)
