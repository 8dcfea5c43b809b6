-- What is owed of `listed`.
use Rattle.authenticator.specs.Views.{credential_source_view, credential_sources_view}
use Rattle.authenticator.proofs.Store.{listed_at}
use Rattle.authenticator.proofs.credentials.listed.Goals as goal

pub returns-in-Some : goal.returns-in-Some
returns-in-Some c = listed_at (credential_sources_view c.args.credentials.now) c.args.rp_id.now c.args.descriptors.now c.loop-descriptor.descriptor-index _
    (credential_source_view c.in-Some.credential.now) _ c.loop-descriptor-test.true c.loop-descriptor.invariant c.in-Some.ensures c.new.ensures.items
