-- What is owed of `put_detail`.
use Rattle.site_rows.proofs.Transactions.{on_ok}
use Rattle.site_state.specs.Details.{detail_view}
use Rattle.site_rows.proofs.DetailTables.{put}
use Rattle.site_rows.proofs.details.put_detail.Goals as goal

pub returns-clause-put : goal.returns-clause-put
returns-clause-put g c =
    on_ok c.put.result _ _ (λ ok clean.
    put (g.S.Store.view c.args.store.now) (g.S.Store.view c.put.new.self) c.args.place (detail_view c.args.detail.now) _ c.in_ok-row.ensures (ok clean)) c.put.ensures.ok
