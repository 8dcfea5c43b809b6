-- What is owed of `shown_runs`.
use Rattle.cose.specs.Bench.{bench_public}
use Rattle.shown_runs.proofs.Forged.{forged_run}
use Rattle.shown_runs.proofs.Told.{telling}
use Rattle.shown_runs.proofs.law.shown_runs.Goals as goal

pub returns-clause-telling : goal.returns-clause-telling
returns-clause-telling c =
    let laws = c.of_all_runs.ensures in
    telling (c.below.ensures (record {}) bench_public) (laws.agreement (record {}) bench_public) (laws.ledger (record {}) bench_public)
    (laws.dropped (record {}) bench_public) (laws.begun (record {}) bench_public) (laws.stays (record {}) bench_public) (laws.pages (record {}) bench_public)
    (laws.forgeries (record {}) bench_public)

pub returns-clause-forged : goal.returns-clause-forged
returns-clause-forged c = forged_run (c.below.ensures (record {}) bench_public) (c.of_all_runs.ensures.forgeries (record {}) bench_public)
