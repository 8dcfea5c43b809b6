-- What is owed of `add`.
use Rattle.verification.specs.Views.{credential_view}
use Rattle.site_rows.proofs.Seeks.{clean_before}
use Rattle.site_rows.proofs.Transactions.{added, on_ok}
use Rattle.site_rows.proofs.writing.add.Goals as goal

pub returns-clause-added : goal.returns-clause-added
returns-clause-added g c =
    on_ok c.insert-2.result _ _ (λ ok clean placed h fresh none.
    let two = clean_before _ _ c.insert-2.ensures.quiet.clean clean in
    let one = clean_before _ _ c.in_ok-insert.ensures.quiet.clean two in
    added (g.S.Store.view c.args.store.now) (g.S.Store.view c.put.new.self) (g.S.Store.view c.insert.new.self) (g.S.Store.view c.insert-2.new.self)
    placed c.args.place (credential_view c.args.credential.now) _ _ _ c.in_ok-row.ensures.row c.in_ok-by_id.ensures c.in_ok-by_user.ensures
    (c.in_ok-put.ensures.ok one) (c.in_ok-insert.ensures.ok two) (ok clean) (c.requires.trees (clean_before _ _ c.in_ok-put.ensures.quiet.clean one)) c.ranges.place.fits c.in_ok-row.ensures.stored h fresh none)
    c.insert-2.ensures.ok
