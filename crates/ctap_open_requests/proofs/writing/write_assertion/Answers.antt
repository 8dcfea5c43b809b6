-- What is owed of `write_assertion`.
use Rattle.std.proofs.Common.{map}
use Rattle.ctap_open_replies.specs.ReplyView.{info_view}
use Rattle.ctap_open_requests.specs.Requests.{AssertionOf}
use Rattle.ctap_open_requests.specs.RequestView.{assertion_view, options_view}
use Rattle.ctap_open_requests.proofs.Finishing.{beyond}
use Rattle.ctap_open_requests.proofs.writing.write_assertion.Goals as goal

pub returns-in-Err-clause-refused : goal.returns-in-Err-clause-refused
returns-in-Err-clause-refused c = beyond (info_view c.args.info.now) (options_view c.args.request.options) (map (λ b. b.now) c.args.request.allow.now) (AssertionOf (assertion_view c.args.request)) c.in-Err.e c.in-Err.ensures.beyond
