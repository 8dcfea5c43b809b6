-- What is owed of `sent`.
use Rattle.std.proofs.Common.{ℕ, Vec, Global, Result, Err, ap, subst, sym}
use Rattle.ctap_encoding.specs.declared.error.Error.{Error}
use Rattle.pin_client_messages.specs.CommandView.{command_view}
use Rattle.pin_client_messages.specs.Commands.{PinRequest}
use Rattle.pin_protocols.proofs.requests.sent.Goals as goal

abbrev failed : Error → Result (Vec ℕ Global) Error
failed e = Err e

pub returns-in-Err-Unfit-clause-unfit : goal.returns-in-Err-Unfit-clause-unfit
returns-in-Err-Unfit-clause-unfit c = λ e bs s.
    c.in-Err-Unfit.ensures.unfit (ap failed c.in-Err-Unfit.field-0-is) bs
    (subst (λ (n : ℕ). PinRequest n (command_view c.args.command.now) bs) (sym c.number.ensures) s)
