-- What is owed of `read_param`.
use Rattle.pin_key_messages.specs.ProtectedView.{protection_view}
use Rattle.pin_key_messages.proofs.Saying.{if_err, if_ok, is_assertion, is_creation, no_assertion, no_creation}
use Rattle.pin_key_messages.proofs.param.read_param.Goals as goal

pub returns-in-Some-clause-found : goal.returns-in-Some-clause-found
returns-in-Some-clause-found c =
    if_ok c.param_in.result (λ p said. is_creation (protection_view p) c.args.request.now c.in-Some.rest.now c.in-Some.ensures.found (said 1)) c.param_in.ensures.found

pub returns-in-Some-clause-refused : goal.returns-in-Some-clause-refused
returns-in-Some-clause-refused c =
    if_err c.param_in.result (λ e u. no_creation c.args.request.now c.in-Some.rest.now c.in-Some.ensures.found e (u 1)) c.param_in.ensures.refused

pub returns-in-Some-after-clause-found : goal.returns-in-Some-after-clause-found
returns-in-Some-after-clause-found c =
    let b = c.in-Some-after in
    if_ok c.param_in-in-Some-after.result (λ p said. is_assertion (protection_view p) c.args.request.now b.rest.now b.ensures.found (said 2))
    c.param_in-in-Some-after.ensures.found

pub returns-in-Some-after-clause-refused : goal.returns-in-Some-after-clause-refused
returns-in-Some-after-clause-refused c =
    let b = c.in-Some-after in
    if_err c.param_in-in-Some-after.result (λ e u. no_assertion c.args.request.now b.rest.now b.ensures.found e (u 2)) c.param_in-in-Some-after.ensures.refused
