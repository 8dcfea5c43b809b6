-- What is owed of `SiteStore::find`.
use Rattle.sqlite_trees.specs.View.{IsClean}
use Rattle.site_rows.specs.Held.{Holds}
use Rattle.site_stored.proofs.Held.{found_as}
use Rattle.site_stored.proofs.site_store.SiteStore.find.Goals as goal

pub returns-clause-found : goal.returns-clause-found
returns-clause-found g c =
    found_as (IsClean (g.S.Store.view c.find.new.store)) (λ placed. Holds placed (g.S.Store.view c.args.self.now.store).trees) c.args.id.now c.in_ok-found.found
    c.in_ok-found.ensures.found c.in_ok-found.ensures.none
