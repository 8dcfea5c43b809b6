-- What is owed of `pin_message`.
use Rattle.client_ceremony.specs.Pieces.{for}
use Rattle.pin_client_messages.specs.CommandView.{command_view}
use Rattle.pin_client_messages.specs.Commands.{PinRequest}
use Rattle.std.proofs.Common.{List, refl, subst, ℕ}
use Rattle.client_ceremony.proofs.replies.pin_message.Goals as goal

pub returns-in-Err-Unfit-clause-none : goal.returns-in-Err-Unfit-clause-none
returns-in-Err-Unfit-clause-none c =
    let no : (m : List ℕ) → PinRequest c.number.result (command_view c.args.command.now) m → ⊥ = c.in-Err-Unfit.ensures.unfit (cc) in
    for (refl, subst (λ (n : ℕ). (m : List ℕ) → PinRequest n (command_view c.args.command.now) m → ⊥) c.number.ensures no)
