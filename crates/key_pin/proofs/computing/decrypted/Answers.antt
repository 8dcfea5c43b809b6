-- What is owed of `decrypted`.
use Rattle.pin_protocols.specs.Asks.{entries}
use Rattle.pin_protocols.specs.Protocols.{decryption}
use Rattle.key_pin.proofs.Host.{answered_is, stop_is}
use Rattle.key_pin.proofs.computing.decrypted.Goals as goal

pub returns-in-Ok : goal.returns-in-Ok
returns-in-Ok c = answered_is (entries c.args.answers.now) (decryption c.args.protocol c.args.secret.now.aes.items c.args.ciphertext.now) c.in-Ok.text.now c.in-Ok.ensures.opened

pub returns-in-Err : goal.returns-in-Err
returns-in-Err c = rw c.from.ensures (stop_is (entries c.args.answers.now) (decryption c.args.protocol c.args.secret.now.aes.items c.args.ciphertext.now) c.in-Err.stop c.in-Err.ensures.stops)
