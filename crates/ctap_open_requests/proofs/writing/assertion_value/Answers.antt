-- What is owed of `assertion_value`.
use Rattle.std.proofs.Common.{◌∙◌}
use Rattle.ccbor.proofs.Views.{view-Map}
use Rattle.ctap_open_requests.proofs.writing.assertion_value.Goals as goal

pub returns : goal.returns
returns c = view-Map c.push_assertion.new.pairs ∙ c.in_ok-push_assertion.ensures
