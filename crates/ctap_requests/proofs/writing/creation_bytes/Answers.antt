-- What is owed of `creation_bytes`.
use Rattle.std.proofs.Common.{ℕ, Vec, Global}
use Rattle.ccbor.specs.View.{view}
use Rattle.ctap_requests.specs.RequestView.{creation_view}
use Rattle.ctap_requests.proofs.Unwritten.{creation_written, creation_unbuilt}
use Rattle.ctap_requests.proofs.writing.creation_bytes.Goals as goal

pub returns-in-Ok : goal.returns-in-Ok
returns-in-Ok c =
    creation_written (λ v. v.items) (view c.in-Ok.value) (creation_view c.args.request.now) c.with_map.result c.in-Ok.ensures
    c.with_map.ensures.written c.with_map.ensures.unfit c.with_map.ensures.errors

pub returns-in-Err : goal.returns-in-Err
returns-in-Err c = creation_unbuilt {V = Vec ℕ Global} (λ v. v.items) (creation_view c.args.request.now) c.in-Err.e c.in-Err.ensures
