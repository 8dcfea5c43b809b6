-- What is owed of `of_all_runs`.
use Rattle.agreement.proofs.AllRuns.{forgeries_of_all_runs, of_all_runs}
use Rattle.agreement.proofs.Began.{began}
use Rattle.agreement.proofs.CallsActed.{calls_act}
use Rattle.agreement.proofs.Dropped.{dropped_of_all_runs}
use Rattle.agreement.proofs.Ledger.{ledger}
use Rattle.agreement.proofs.Premised.{premises}
use Rattle.agreement.proofs.Pages.{pages_of_all_runs}
use Rattle.agreement.proofs.Stayed.{stays_of_all_runs}
use Rattle.agreement.proofs.law.of_all_runs.Goals as goal

pub returns-clause-agreement : goal.returns-clause-agreement
returns-clause-agreement g c = λ verifier public. of_all_runs (g.V.Verifier.valid verifier) public (c.below.ensures verifier public)

pub returns-clause-forgeries : goal.returns-clause-forgeries
returns-clause-forgeries g c = λ verifier public. forgeries_of_all_runs (g.V.Verifier.valid verifier) public (c.below.ensures verifier public)

pub returns-clause-ledger : goal.returns-clause-ledger
returns-clause-ledger g c = λ verifier public. ledger (g.V.Verifier.valid verifier) public (c.below.ensures verifier public)

pub returns-clause-dropped : goal.returns-clause-dropped
returns-clause-dropped g c = λ verifier public. dropped_of_all_runs (g.V.Verifier.valid verifier) public (c.below.ensures verifier public)

pub returns-clause-begun : goal.returns-clause-begun
returns-clause-begun g c = λ verifier public. began (g.V.Verifier.valid verifier) public (c.below.ensures verifier public)

pub returns-clause-premises : goal.returns-clause-premises
returns-clause-premises g c = λ verifier public. premises (g.V.Verifier.valid verifier) public

pub returns-clause-pages : goal.returns-clause-pages
returns-clause-pages g c = λ verifier public. pages_of_all_runs (g.V.Verifier.valid verifier) public (c.below.ensures verifier public)

pub returns-clause-stays : goal.returns-clause-stays
returns-clause-stays g c = λ verifier public. stays_of_all_runs (g.V.Verifier.valid verifier) public (c.below.ensures verifier public)

pub returns-clause-calls : goal.returns-clause-calls
returns-clause-calls g c = λ verifier public. calls_act (g.V.Verifier.valid verifier) public
