-- What is owed of `assertion_bytes`.
use Rattle.ccbor.specs.View.{view}
use Rattle.ctap_requests.specs.RequestView.{assertion_view}
use Rattle.ctap_requests.proofs.Unwritten.{assertion_written}
use Rattle.ctap_requests.proofs.writing.assertion_bytes.Goals as goal

pub returns : goal.returns
returns c =
    assertion_written (λ v. v.items) (view c.in_ok-value.value) (assertion_view c.args.request.now) c.with_map.result c.in_ok-value.ensures
    c.with_map.ensures.written c.with_map.ensures.unfit c.with_map.ensures.errors
