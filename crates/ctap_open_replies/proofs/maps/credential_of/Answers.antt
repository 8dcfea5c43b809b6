-- What is owed of `credential_of`.
use Rattle.std.proofs.Common.{refl}
use Rattle.ctap_open_replies.proofs.maps.credential_of.Goals as goal

pub returns-in-Some : goal.returns-in-Some
returns-in-Some c = rw c.in-Some.is refl

pub returns-in-Some-listed : goal.returns-in-Some-listed
returns-in-Some-listed c = rw (c.in-None.is, c.in-Some-listed.is) refl

pub returns-in-None-listed : goal.returns-in-None-listed
returns-in-None-listed c = rw (c.in-None.is, c.in-None-listed.is) refl
