-- What is owed of `attested_in`.
use Rattle.std.proofs.Common.{ap, option_map}
use Rattle.authdata.specs.Layout.{lent_attested_view, lent_auth_view}
use Rattle.verification.proofs.Registrations.{bare}
use Rattle.verification.proofs.registration.attested_in.Goals as goal

pub returns-in-None-clause-none : goal.returns-in-None-clause-none
returns-in-None-clause-none c = λ _.
    bare c.args.profile (lent_auth_view c.in-Ok.auth_data) c.args.bytes.now c.in-Ok.ensures.found (ap (option_map lent_attested_view) c.in-None.is)
