-- What is owed of `agreement_key`.
use Rattle.std.proofs.Common.{refl}
use Rattle.ctap_open_replies.proofs.Failing.{yields_none}
use Rattle.pin_client_messages.proofs.maps.agreement_key.Goals as goal

pub returns-in_err-x : goal.returns-in_err-x
returns-in_err-x c = yields_none _ _ _ c.from_residual-in_err-x.ensures.0
    (rw (c.in_ok-any_map.ensures, c.in_ok-kty.ensures, c.in_ok-alg.ensures, c.in_ok-crv.ensures, c.in_err-x.ensures) refl)
