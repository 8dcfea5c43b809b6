-- What is owed of `finished`.
use Rattle.std.proofs.Common.{ℕ, Vec, Global}
use Rattle.ccbor.specs.View.{view}
use Rattle.ctap_open_requests.proofs.Finishing.{not_written}
use Rattle.ctap_open_requests.proofs.writing.finished.Goals as goal

pub returns-in-Err : goal.returns-in-Err
returns-in-Err c = not_written {V = Vec ℕ Global} (λ v. v.items) c.args.max c.args.command (view c.args.value.now) c.args.fault c.in-Err.e c.in-Err.ensures.errors
    c.in-Err.ensures.unfit
