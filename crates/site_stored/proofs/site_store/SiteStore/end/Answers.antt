-- What is owed of `SiteStore::end`.
use Rattle.site_rows.proofs.Transactions.{on_ok}
use Rattle.site_stored.proofs.Endings.{ended}
use Rattle.site_stored.proofs.site_store.SiteStore.end.Goals as goal

pub returns-clause-ended : goal.returns-clause-ended
returns-clause-ended g c =
    on_ok c.put_ending.result _ _ (λ put clean.
    ended c.args.tree c.args.now c.args.number c.args.ending (g.S.Store.view c.args.self.now.store) (g.S.Store.view c.purge.new.self.store)
    (g.S.Store.view c.put_ending.new.self.store) (c.in_ok-purge.ensures.purged (c.put_ending.ensures.writes.quiet.clean clean)) (put clean)) c.put_ending.ensures.put
