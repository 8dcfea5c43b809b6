-- What is owed of `SiteStore::reserve_for`.
use Rattle.site_stored.proofs.Reserved.{beside_site}
use Rattle.site_stored.proofs.site_store.SiteStore.reserve_for.Goals as goal

pub returns-clause-beside : goal.returns-clause-beside
returns-clause-beside g c = λ clean tree apart.
    beside_site c.args.rp_id.now _ (g.S.Store.view c.args.self.now.store).trees (g.S.Store.view c.reserve.new.self.store).trees tree
    (c.in_ok-reserve.ensures.trees clean) apart.0
