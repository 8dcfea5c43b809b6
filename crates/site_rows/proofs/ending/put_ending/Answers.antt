-- What is owed of `put_ending`.
use Rattle.site_rows.proofs.Transactions.{on_ok}
use Rattle.site_rows.proofs.EndingTables.{put}
use Rattle.site_rows.proofs.ending.put_ending.Goals as goal

pub returns-clause-put : goal.returns-clause-put
returns-clause-put g c =
    on_ok c.put.result _ _ (λ ok clean.
    put c.args.tree (g.S.Store.view c.args.store.now) (g.S.Store.view c.put.new.self) c.args.number c.args.ending _ c.in_ok-row.ensures (ok clean)) c.put.ensures.ok
