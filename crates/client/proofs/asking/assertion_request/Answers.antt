-- What is owed of `assertion_request`.
use Rattle.std.proofs.Common.{◌∙◌, ap}
use Rattle.std.proofs.lemmas.Result.{err_from_is_err_and}
use Rattle.ctap_requests.specs.Requests.{get_assertion}
use Rattle.client.specs.Asked.{sign_in_call, assertion_of}
use Rattle.client.specs.Options.{sign_in_options_view}
use Rattle.client.proofs.Refusals.{origin_fails}
use Rattle.client.proofs.asking.assertion_request.Goals as goal

pub returns-in_err-check_origin-clause-refused : goal.returns-in_err-check_origin-clause-refused
returns-in_err-check_origin-clause-refused c =
    let p = err_from_is_err_and c.from_residual.result c.from_residual.ensures.1 in
    rw (p.1, p.2) (origin_fails (sign_in_call c.args.origin.now (sign_in_options_view c.args.options.now)) c.in_err-check_origin.field-0.0
    c.in_err-check_origin.ensures.refused)

pub returns : goal.returns
returns c =
    let o = sign_in_options_view c.args.options.now in
    let same = c.deref.ensures.value ∙ c.in_ok-client_data.ensures in
    let request = ap get_assertion (c.in_ok-request.ensures ∙ ap (assertion_of o) same) in
    let x = sign_in_call c.args.origin.now o in
    let may = c.in_ok-check_origin.ensures.may_ask in
    record {
      passes = c.outgoing.ensures.passes x may request;
      asks = c.outgoing.ensures.asks x c.in_ok-client_data.ensures request;
      refused = c.outgoing.ensures.refused x may request;
    }
