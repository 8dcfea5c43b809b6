-- What is owed of `protocol_told`.
use Rattle.std.proofs.Common.{refl, sym}
use Rattle.client_ceremony.proofs.verifying.protocol_told.Goals as goal

pub returns-in-Some-clause-told : goal.returns-in-Some-clause-told
returns-in-Some-clause-told c =
    sym c.in-Some.ensures

pub returns-in-None-clause-none : goal.returns-in-None-clause-none
returns-in-None-clause-none c =
    (sym c.in-None.ensures, refl)
