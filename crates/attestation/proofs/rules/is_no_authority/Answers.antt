-- What is owed of `is_no_authority`.
use Rattle.std.proofs.Common.{refl, false}
use Rattle.attestation.proofs.Extending.{one_authority}
use Rattle.attestation.proofs.rules.is_no_authority.Goals as goal

pub returns-in-Ok : goal.returns-in-Ok
returns-in-Ok c = one_authority _ _ _ c.in-Ok.ensures.found

pub returns-in-Err : goal.returns-in-Err
returns-in-Err c = (λ not. absurd cc, λ k. absurd (c.in-Err.ensures.none refl false k.0 k.1))
