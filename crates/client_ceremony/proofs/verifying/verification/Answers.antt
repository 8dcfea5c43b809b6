-- What is owed of `verification`.
use Rattle.client_ceremony.specs.Pieces.{so}
use Rattle.std.proofs.Common.{refl}
use Rattle.client_ceremony.proofs.verifying.verification.Goals as goal

pub returns-in-BuiltInToken-clause-verified : goal.returns-in-BuiltInToken-clause-verified
returns-in-BuiltInToken-clause-verified c =
    rw c.in-BuiltInToken.is c.with_uv.ensures.verified

pub returns-in-BuiltInToken-clause-halts : goal.returns-in-BuiltInToken-clause-halts
returns-in-BuiltInToken-clause-halts c =
    rw c.in-BuiltInToken.is c.with_uv.ensures.halts

pub returns-in-BuiltInOption-clause-verified : goal.returns-in-BuiltInOption-clause-verified
returns-in-BuiltInOption-clause-verified c =
    rw c.in-BuiltInOption.is refl

pub returns-in-Pin-clause-verified : goal.returns-in-Pin-clause-verified
returns-in-Pin-clause-verified c =
    rw c.in-Pin.is c.with_pin.ensures.verified

pub returns-in-Pin-clause-halts : goal.returns-in-Pin-clause-halts
returns-in-Pin-clause-halts c =
    rw c.in-Pin.is c.with_pin.ensures.halts

pub returns-in-Presence-clause-verified : goal.returns-in-Presence-clause-verified
returns-in-Presence-clause-verified c =
    rw c.in-Presence.is refl

pub returns-in-Nothing-clause-halts : goal.returns-in-Nothing-clause-halts
returns-in-Nothing-clause-halts c =
    rw c.in-Nothing.is (so refl)
