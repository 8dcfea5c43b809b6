-- What is owed of `user`.
use Rattle.std.proofs.Common.{refl}
use Rattle.ctap_open_replies.proofs.Failing.{yields_none}
use Rattle.ctap_open_replies.proofs.maps.user.Goals as goal

pub returns-in_err-display_name : goal.returns-in_err-display_name
returns-in_err-display_name c = yields_none _ _ _ c.from_residual-in_err-display_name.ensures.0
    (rw (c.in_ok-any_map.ensures, c.in_ok-id.ensures, c.in_ok-icon.ensures, c.in_ok-name.ensures, c.in_err-display_name.ensures) refl)
