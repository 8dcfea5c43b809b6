-- What is owed of `remove`.
use Rattle.std.proofs.Common.{rules}
use Rattle.verification.specs.Views.{credential_view}
use Rattle.site_rows.proofs.Seeks.{clean_before}
use Rattle.site_rows.proofs.Transactions.{on_ok, removed}
use Rattle.site_rows.proofs.writing.remove.Goals as goal

pub returns-clause-removed : goal.returns-clause-removed
returns-clause-removed g c =
    on_ok c.remove-2.result _ _ (λ ok clean placed h there.
    let two = clean_before _ _ c.remove-2.ensures.quiet.clean clean in
    let one = clean_before _ _ c.in_ok-remove.ensures.quiet.clean two in
    removed (g.S.Store.view c.args.store.now) (g.S.Store.view c.delete.new.self) (g.S.Store.view c.remove.new.self) (g.S.Store.view c.remove-2.new.self)
    placed c.args.place (credential_view c.args.credential.now) _ _ _ (search rules) c.in_ok-by_id.ensures c.in_ok-by_user.ensures
    (c.in_ok-delete.ensures.ok one) (c.in_ok-remove.ensures.ok two) (ok clean) (c.requires.trees (clean_before _ _ c.in_ok-delete.ensures.quiet.clean one)) h there) c.remove-2.ensures.ok
