-- What is owed of `reserve`.
use Rattle.site_rows.proofs.Transactions.{on_ok}
use Rattle.site_stored.proofs.Reserved.{reserved}
use Rattle.site_stored.proofs.rows.reserve.Goals as goal

pub returns-clause-reserved : goal.returns-clause-reserved
returns-clause-reserved g c =
    on_ok c.put.result _ _ (λ ok clean placed was h.
    reserved (g.S.Store.view c.args.store.now) (g.S.Store.view c.put.new.self) placed c.args.rp_id.now was c.args.next _
    c.in_ok-row.ensures.row (ok clean) h) c.put.ensures.ok
