-- What is owed of `secret`.
use Rattle.pin_protocols.specs.Asks.{entries}
use Rattle.pin_protocols.specs.FlowView.{secret_view}
use Rattle.key_pin.proofs.Host.{secret_is, secret_stop}
use Rattle.key_pin.proofs.computing.secret.Goals as goal

pub returns-in-Ok : goal.returns-in-Ok
returns-in-Ok c = secret_is (entries c.args.answers.now) c.args.protocol c.args.z.now (secret_view c.in-Ok.secret) c.in-Ok.ensures.secret

pub returns-in-Err : goal.returns-in-Err
returns-in-Err c = rw c.from.ensures (secret_stop (entries c.args.answers.now) c.args.protocol c.args.z.now c.in-Err.stop c.in-Err.ensures.stops)
