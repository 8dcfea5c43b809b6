-- What is owed of `protected_request`.
use Rattle.std.proofs.Common.{subst}
use Rattle.pin_key_messages.specs.Pieces.{RefusedOwned}
use Rattle.pin_key_messages.proofs.Pairs.{no_part}
use Rattle.pin_key_messages.proofs.Saying.{if_err}
use Rattle.pin_key_messages.proofs.bare.protected_request.Goals as goal

pub returns-in-Ok-clause-refused : goal.returns-in-Ok-clause-refused
returns-in-Ok-clause-refused c =
    if_err c.owned.result (λ e h. no_part c.args.request.now c.in-Ok.bytes.items c.in-Ok.ensures.bytes e (subst (λ bs. RefusedOwned bs e) c.deref.ensures.value h))
    c.owned.ensures.refused
