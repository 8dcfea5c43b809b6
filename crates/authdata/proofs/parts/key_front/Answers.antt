-- What is owed of `key_front`.
use Rattle.std.proofs.Common.{refl}
use Rattle.authdata.proofs.Fronts.{other_value, no_value}
use Rattle.authdata.proofs.parts.key_front.Goals as goal

pub returns-in-Err-clause-none : goal.returns-in-Err-clause-none
returns-in-Err-clause-none c = (refl, λ h. other_value _ _ _ c.in-Ok.ensures.only (c.in-Err.ensures.none refl) h)

pub returns-in_default-clause-none : goal.returns-in_default-clause-none
returns-in_default-clause-none c = (refl, λ h. no_value _ c.in_default.ensures.none h)
