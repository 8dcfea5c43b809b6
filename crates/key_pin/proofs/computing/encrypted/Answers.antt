-- What is owed of `encrypted`.
use Rattle.pin_protocols.specs.Asks.{entries}
use Rattle.pin_protocols.specs.Protocols.{encryption}
use Rattle.key_pin.proofs.Host.{answered_is, stop_is}
use Rattle.key_pin.proofs.computing.encrypted.Goals as goal

pub returns-in-Ok : goal.returns-in-Ok
returns-in-Ok c = answered_is (entries c.args.answers.now) (encryption c.args.protocol c.args.secret.now.aes.items c.args.text.now) c.in-Ok.sealed.now c.in-Ok.ensures.sealed

pub returns-in-Err : goal.returns-in-Err
returns-in-Err c = rw c.from.ensures (stop_is (entries c.args.answers.now) (encryption c.args.protocol c.args.secret.now.aes.items c.args.text.now) c.in-Err.stop c.in-Err.ensures.stops)
