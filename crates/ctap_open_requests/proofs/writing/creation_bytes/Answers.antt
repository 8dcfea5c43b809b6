-- What is owed of `creation_bytes`.
use Rattle.std.proofs.Common.{ℕ, Vec, Global}
use Rattle.ccbor.specs.View.{view}
use Rattle.ctap_open_requests.specs.Requests.{creation_content, creation_members}
use Rattle.ctap_open_requests.specs.RequestView.{creation_view}
use Rattle.ctap_open_requests.proofs.Finishing.{of_value}
use Rattle.ctap_open_requests.proofs.writing.creation_bytes.Goals as goal

pub returns : goal.returns
returns c =
    of_value 1 creation_members (creation_content (creation_view c.args.request)) (view c.in_ok-value.value) c.creation_fault-fault.result c.in_ok-value.ensures
    c.creation_fault-fault.ensures {V = Vec ℕ Global} (λ v. v.items) c.args.max c.finished.result c.finished.ensures
