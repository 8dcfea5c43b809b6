-- What is owed of `command_goes_on`.
use Rattle.std.proofs.Common.{refl}
use Rattle.key_pin.specs.State.{pin_view}
use Rattle.key_pin.specs.declared.words.PinStep.TheVariants as steps
use Rattle.key_device.proofs.Stepping.{stepped}
use Rattle.key_device.proofs.computing.command_goes_on.Goals as goal

pub returns-in-Ok-Asks-clause-computed : goal.returns-in-Ok-Asks-clause-computed
returns-in-Ok-Asks-clause-computed c =
    stepped (pin_view c.args.pin.now) _ _ _ _ _ _ _ _ _ (steps.Asks c.in-Ok-Asks.ask) _ _ c.lent_command.ensures (rw c.in-Ok-Asks.field-0-is at (c.in-Ok-Asks.ensures.step))
    c.in-Ok-Asks.ensures.state (c.asks.ensures.awaits, c.asks.ensures.told, refl, refl)

pub returns-in-Ok-Replies-clause-computed : goal.returns-in-Ok-Replies-clause-computed
returns-in-Ok-Replies-clause-computed c =
    stepped (pin_view c.args.pin.now) _ _ _ _ _ _ _ _ _ (steps.Replies c.in-Ok-Replies.reply) _ _ c.lent_command.ensures (rw c.in-Ok-Replies.field-0-is at (c.in-Ok-Replies.ensures.step))
    c.in-Ok-Replies.ensures.state (refl, refl, rw c.deref.ensures.value at (c.answer.ensures.answered))
