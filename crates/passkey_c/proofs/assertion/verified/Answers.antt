-- What is owed of `verified`.
use Rattle.passkey_c.proofs.Moved.{same_sign_in, sign_in_fails, sign_in_passes}
use Rattle.passkey_c.proofs.assertion.verified.Goals as goal

pub returns-in-Ok-clause-accepted : goal.returns-in-Ok-clause-accepted
returns-in-Ok-clause-accepted c =
    let same = same_sign_in _ _ _ _ _ _ _ _ c.requires.party c.requires.session c.row.ensures c.response.ensures in
    sign_in_passes _ _ _ _ c.requires.verified same c.in-Ok.ensures.accepted.0

pub returns-in-Err-Refused-clause-refused : goal.returns-in-Err-Refused-clause-refused
returns-in-Err-Refused-clause-refused c =
    let same = same_sign_in _ _ _ _ _ _ _ _ c.requires.party c.requires.session c.row.ensures c.response.ensures in
    let refused = rw c.in-Err-Refused.field-0-is at c.in-Err-Refused.ensures.refused in
    (sign_in_fails _ _ _ _ _ c.requires.verified same refused, c.requires.limits)
