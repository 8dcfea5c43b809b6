-- What is owed of `is_excluded`.
use Rattle.authenticator.specs.Views.{credential_sources_view}
use Rattle.authenticator.proofs.Store.{excluded_is}
use Rattle.authenticator.proofs.credentials.is_excluded.Goals as goal

pub returns-in-Some : goal.returns-in-Some
returns-in-Some c = excluded_is c.args.rp_id.now
    (credential_sources_view c.args.credentials.now) c.args.descriptors.now c.in-Some.descriptors c.deref.result.now c.is_any_stored.result c.in-Some.is
    c.deref.ensures.value c.is_any_stored.ensures
