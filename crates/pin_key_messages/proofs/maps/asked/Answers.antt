-- What is owed of `asked`.
use Rattle.std.proofs.Common.{refl}
use Rattle.ctap_open_replies.proofs.Failing.{yields_none}
use Rattle.pin_key_messages.proofs.maps.asked.Goals as goal

pub returns-in_err-param : goal.returns-in_err-param
returns-in_err-param c = yields_none _ _ _ c.from_residual-in_err-param.ensures.0
    (rw (c.in_ok-any_map.ensures, c.in_ok-protocol.ensures, c.in_ok-subcommand.ensures, c.in_ok-key.ensures, c.in_err-param.ensures) refl)

pub returns-in_err-rp_id : goal.returns-in_err-rp_id
returns-in_err-rp_id c = yields_none _ _ _ c.from_residual-in_err-rp_id.ensures.0
    (rw (
      c.in_ok-any_map.ensures,
      c.in_ok-protocol.ensures,
      c.in_ok-subcommand.ensures,
      c.in_ok-key.ensures,
      c.in_ok-param.ensures,
      c.in_ok-new_pin.ensures,
      c.in_ok-pin_hash.ensures,
      c.in_ok-permissions.ensures,
      c.in_err-rp_id.ensures,
    ) refl)
