-- What is owed of `Authenticator::begin`.
use Rattle.ctap_requests.specs.RequestView.{lent_request_view}
use Rattle.authenticator.proofs.Asked.{has_user}
use Rattle.authenticator.proofs.Calls.{stepped, unread}
use Rattle.authenticator.proofs.authenticator.Authenticator.begin.Goals as goal

pub carry_out-requires : goal.carry_out-requires
carry_out-requires g c = has_user (lent_request_view c.in-Ok.request) c.args.request.now c.in-Ok.ensures.found

pub returns-in-Ok-clause-begun : goal.returns-in-Ok-clause-begun
returns-in-Ok-clause-begun g c = λ public agrees.
    stepped public c.args.self.now c.carry_out.new.self c.args.channel c.args.request.now c.args.consent c.args.words
    (lent_request_view c.in-Ok.request) c.carry_out.result
    c.in-Ok.ensures.found (c.carry_out.ensures.done public agrees)

pub returns-in_ok-refuse-in-Err-Status-clause-begun : goal.returns-in_ok-refuse-in-Err-Status-clause-begun
returns-in_ok-refuse-in-Err-Status-clause-begun g c = λ public agrees.
    unread public c.args.self.now c.refuse.new.self c.args.channel c.args.request.now c.args.consent c.args.words
    c.in-Err-Status.status c.in_ok-refuse-in-Err-Status.field-0
    (rw c.in-Err-Status.field-0-is at c.in-Err-Status.ensures.refused) (rw c.in-Err-Status.field-0-is at c.in_ok-refuse-in-Err-Status.ensures.reply)
    c.in_ok-refuse-in-Err-Status.ensures.ok
