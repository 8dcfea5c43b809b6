-- What is owed of `assertion_members`.
use Rattle.std.proofs.Common.{refl}
use Rattle.ctap_open_replies.proofs.Failing.{yields_none}
use Rattle.ctap_open_replies.proofs.maps.assertion_members.Goals as goal

pub returns-in_err-user : goal.returns-in_err-user
returns-in_err-user c = yields_none _ _ _ c.from_residual-in_err-user.ensures.0
    (rw (c.in_ok-any_map.ensures, c.in_ok-told.ensures, c.in_ok-auth_data.ensures, c.in_ok-signature.ensures, c.in_err-user.ensures) refl)
