-- What is owed of `verified`.
use Rattle.std.proofs.Common.{sym, ◌∙◌, true, false}
use Rattle.pin_protocols.specs.Asks.{entries}
use Rattle.key_pin.proofs.Host.{tag_is, tag_stop}
use Rattle.key_pin.proofs.computing.verified.Goals as goal

pub returns-in-Err : goal.returns-in-Err
returns-in-Err c = rw c.from.ensures (tag_stop (entries c.args.answers.now) c.args.protocol c.args.key.now c.args.message.now c.args.param.now c.in-Err.stop c.in-Err.ensures.stops)

pub returns-then-is_same : goal.returns-then-is_same
returns-then-is_same c = tag_is (entries c.args.answers.now) c.args.protocol c.args.key.now c.args.message.now c.args.param.now c.in-Ok.tag.now true c.in-Ok.ensures.authenticated (sym c.is_same.ensures ∙ c.if-is_same.true)

pub returns-else-is_same : goal.returns-else-is_same
returns-else-is_same c = tag_is (entries c.args.answers.now) c.args.protocol c.args.key.now c.args.message.now c.args.param.now c.in-Ok.tag.now false c.in-Ok.ensures.authenticated (sym c.is_same.ensures ∙ c.if-is_same.false)
