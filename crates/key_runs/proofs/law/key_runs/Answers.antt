-- What is owed of `key_runs`.
use Rattle.key_runs.proofs.Runs.{key_runs, loaded_runs}
use Rattle.key_runs.proofs.Signed.{signed_runs}
use Rattle.key_runs.proofs.law.key_runs.Goals as goal

pub returns-clause-runs : goal.returns-clause-runs
returns-clause-runs c = key_runs c.pin_laws.ensures

pub returns-clause-loaded : goal.returns-clause-loaded
returns-clause-loaded c = loaded_runs c.pin_laws.ensures

pub returns-clause-signed : goal.returns-clause-signed
returns-clause-signed c = signed_runs c.one_reading.ensures.one_front c.pin_laws.ensures
