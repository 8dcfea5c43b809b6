-- What is owed of `open_session`.
use Rattle.std.proofs.Common.{◌≡◌, None}
use Rattle.site_stored.proofs.SessionTexts.{if_none}
use Rattle.site_stored.proofs.session.open_session.Goals as goal

pub returns-in_default-clause-session : goal.returns-in_default-clause-session
returns-in_default-clause-session g c = λ clean ended h n x given going.
    let nothing : c.in_ok-given.field-0 ≡ None = cc in
    if_none c.in_ok-given.field-0 _ nothing c.in_ok-given.ensures.none n x given
