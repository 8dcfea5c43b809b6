-- What is owed of `connected`.
use Rattle.std.proofs.Common.{◌≡◌, inr, subst}
use Rattle.sqlite_store.specs.FileStore.{view}
use Rattle.sqlite.specs.Files.{HoldsDatabase}
use Rattle.site_state.proofs.Kept.{if_ok}
use Rattle.site_files.proofs.Found.{same_image}
use Rattle.site_files.proofs.stores.connected.Goals as goal

pub returns-in-Ok-clause-found : goal.returns-in-Ok-clause-found
returns-in-Ok-clause-found g c =
    let held = c.in-Ok.ensures.held in
    if_ok c.by_sql.result _ _ (λ store found clean is_open.
    inr (subst (λ i. (db : _) → HoldsDatabase i db → (view store).trees ≡ db) (same_image held.0 held.1) (found clean is_open))) c.by_sql.ensures.found
