-- What is owed of `reply`.
use Rattle.std.proofs.Common.{refl}
use Rattle.ctap_open_replies.proofs.Failing.{yields_none}
use Rattle.pin_client_messages.proofs.maps.reply.Goals as goal

pub returns-in_err-power_cycle : goal.returns-in_err-power_cycle
returns-in_err-power_cycle c = yields_none _ _ _ c.from_residual-in_err-power_cycle.ensures.0
    (rw (c.in_ok-any_map.ensures, c.in_ok-key.ensures, c.in_ok-token.ensures, c.in_ok-pin_retries.ensures, c.in_err-power_cycle.ensures) refl)
