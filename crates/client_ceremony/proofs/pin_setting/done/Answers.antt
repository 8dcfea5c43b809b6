-- What is owed of `done`.
use Rattle.client_ceremony.specs.Pieces.{so}
use Rattle.std.proofs.Common.{inl, inr, refl}
use Rattle.client_ceremony.proofs.pin_setting.done.Goals as goal

pub returns-in-Err : goal.returns-in-Err
returns-in-Err c =
    so (inl (c.args.request, refl, c.in-Err.ensures.sends.0, c.in-Err.ensures.sends.1))

pub returns-in-Ok-read_done : goal.returns-in-Ok-read_done
returns-in-Ok-read_done c =
    so (inr (c.in-Ok.reply.now, ((c.args.request.items, refl), c.in-Ok.ensures.replied), inr (c.in-Ok-read_done.ensures.done, refl)))

pub returns-in-Err-read_done : goal.returns-in-Err-read_done
returns-in-Err-read_done c =
    so (inr (c.in-Ok.reply.now, ((c.args.request.items, refl), c.in-Ok.ensures.replied), inl (c.of_reply.result, (c.in-Err-read_done.e, c.in-Err-read_done.ensures.refused, c.of_reply.ensures), refl)))
