-- What is owed of `hosts_runs`.
use Rattle.agreement.proofs.HostsRun.{hosts_runs}
use Rattle.agreement.proofs.law.hosts_runs.Goals as goal

pub returns : goal.returns
returns g c = λ wide public. hosts_runs (g.V.Verifier.valid) (g.W.Verifier.valid wide) public
