-- What is owed of `set`.
use Rattle.verification.specs.Views.{credential_view}
use Rattle.site_rows.proofs.Transactions.{on_ok, set_there}
use Rattle.site_rows.proofs.writing.set.Goals as goal

pub returns-clause-set : goal.returns-clause-set
returns-clause-set g c =
    on_ok c.put.result _ _ (λ ok clean placed was h there id user.
    set_there (g.S.Store.view c.args.store.now) (g.S.Store.view c.put.new.self) placed c.args.place was (credential_view c.args.credential.now) _
    c.in_ok-row.ensures.row (ok clean) c.in_ok-row.ensures.stored h there id user) c.put.ensures.ok
