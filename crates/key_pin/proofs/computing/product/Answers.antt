-- What is owed of `product`.
use Rattle.pin_client_messages.specs.CommandView.{point_view}
use Rattle.pin_protocols.specs.Asks.{entries}
use Rattle.key_pin.proofs.Host.{product_is, product_stop}
use Rattle.key_pin.proofs.computing.product.Goals as goal

pub returns-in-Ok : goal.returns-in-Ok
returns-in-Ok c = product_is (entries c.args.answers.now) c.args.key.now (point_view c.args.peer.now) c.in-Ok.z.now c.in-Ok.ensures.product

pub returns-in-Err : goal.returns-in-Err
returns-in-Err c = rw c.no_product.ensures (product_stop (entries c.args.answers.now) c.args.key.now (point_view c.args.peer.now) c.in-Err.stop c.in-Err.ensures.stops)
