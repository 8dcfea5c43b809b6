-- What is owed of `creation`.
use Rattle.std.proofs.Common.{refl}
use Rattle.ctap_open_replies.proofs.Failing.{gives_none}
use Rattle.ctap_open_replies.proofs.maps.creation.Goals as goal

pub returns-in_err-enterprise : goal.returns-in_err-enterprise
returns-in_err-enterprise c = gives_none _ _ _ c.from_residual-in_err-enterprise.ensures.0
    (rw (c.in_ok-any_map.ensures, c.in_ok-fmt.ensures, c.in_ok-auth_data.ensures, c.in_ok-statement.ensures, c.in_err-enterprise.ensures) refl)
