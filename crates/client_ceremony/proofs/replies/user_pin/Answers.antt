-- What is owed of `user_pin`.
use Rattle.client_ceremony.proofs.Stages.{first_halts}
use Rattle.client_ceremony.specs.Exchanges.{later}
use Rattle.client_ceremony.specs.Pieces.{so}
use Rattle.std.proofs.Common.{Bor, List, ap, refl, ℕ}
use Rattle.std.specs.Prelude.{option_map}
use Rattle.client_ceremony.proofs.replies.user_pin.Goals as goal

pub returns-in-Err-clause-halts : goal.returns-in-Err-clause-halts
returns-in-Err-clause-halts c =
    first_halts c.in-Err.ensures.halts

pub returns-in-Some-clause-pin : goal.returns-in-Some-clause-pin
returns-in-Some-clause-pin c =
    ((c.in-Ok.retries, c.in-Ok.ensures.left), (ap (option_map (λ (b : Bor (List ℕ)). b.now)) c.in-Some.is))

pub returns-in-None-clause-halts : goal.returns-in-None-clause-halts
returns-in-None-clause-halts c =
    so (later c.in-Ok.retries c.in-Ok.ensures.left ((ap (option_map (λ (b : Bor (List ℕ)). b.now)) c.in-None.is), refl))
