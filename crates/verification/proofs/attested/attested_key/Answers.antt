-- What is owed of `attested_key`.
use Rattle.std.proofs.Common.{◌≡◌, None, ap, option_map}
use Rattle.authdata.specs.Layout.{lent_attested_view, lent_auth_view}
use Rattle.authdata.proofs.Unique.{one_value}
use Rattle.verification.proofs.attested.attested_key.Goals as goal

pub returns-in-None : goal.returns-in-None
returns-in-None c = λ b credential read attests.
    let none : (lent_auth_view c.in-Ok.data).attested ≡ None = ap (option_map lent_attested_view) c.in-None.is in
    let same : lent_auth_view c.in-Ok.data ≡ b = one_value c.args.profile c.args.profile _ b c.args.auth_data.now c.in-Ok.ensures.found read in cc
