-- What is owed of `assertion_bytes`.
use Rattle.std.proofs.Common.{ℕ, Vec, Global}
use Rattle.ccbor.specs.View.{view}
use Rattle.ctap_open_requests.specs.Requests.{assertion_content, assertion_members}
use Rattle.ctap_open_requests.specs.RequestView.{assertion_view}
use Rattle.ctap_open_requests.proofs.Finishing.{of_value}
use Rattle.ctap_open_requests.proofs.writing.assertion_bytes.Goals as goal

pub returns : goal.returns
returns c =
    of_value 2 assertion_members (assertion_content (assertion_view c.args.request)) (view c.in_ok-value.value) c.assertion_fault-fault.result c.in_ok-value.ensures
    c.assertion_fault-fault.ensures {V = Vec ℕ Global} (λ v. v.items) c.args.max c.finished.result c.finished.ensures
