-- What is owed of `delete_detail`.
use Rattle.std.proofs.Common.{rules}
use Rattle.site_rows.proofs.Transactions.{on_ok}
use Rattle.site_rows.proofs.DetailTables.{deleted}
use Rattle.site_rows.proofs.details.delete_detail.Goals as goal

pub returns-clause-deleted : goal.returns-clause-deleted
returns-clause-deleted g c =
    on_ok c.delete.result _ _ (λ ok clean.
    deleted (g.S.Store.view c.args.store.now) (g.S.Store.view c.delete.new.self) c.args.place _ (search rules) (ok clean)) c.delete.ensures.ok
