-- What is owed of `write_mark`.
use Rattle.site_rows.proofs.Transactions.{on_ok}
use Rattle.site_stored.proofs.Reserved.{marked}
use Rattle.site_stored.proofs.marks.write_mark.Goals as goal

pub returns-clause-held : goal.returns-clause-held
returns-clause-held g c =
    on_ok c.put.result _ _ (λ ok clean placed rp_id next h.
    marked (g.S.Store.view c.args.store.now) (g.S.Store.view c.put.new.self) placed rp_id next _ (ok clean) h) c.put.ensures.ok
