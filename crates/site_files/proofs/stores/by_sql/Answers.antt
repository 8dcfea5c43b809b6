-- What is owed of `by_sql`.
use Rattle.std.proofs.Common.{rules}
use Rattle.sqlite_store.specs.FileStore.{view}
use Rattle.sqlite.specs.Files.{HoldsDatabase, image_of}
use Rattle.site_files.proofs.Found.{found_behind, rests_behind}
use Rattle.site_files.proofs.stores.by_sql.Goals as goal

pub returns-in-Ok-clause-found : goal.returns-in-Ok-clause-found
returns-in-Ok-clause-found g c clean is_open =
    found_behind (view c.in-Ok.conn.store) (view c.into_store.result) (HoldsDatabase (image_of g.D.Disk c.args.files))
    (λ here. (c.in-Ok.ensures.found here).holds) c.into_store.ensures.undone c.into_store.ensures.quiet.clean clean is_open

pub returns-in-Ok-clause-rests : goal.returns-in-Ok-clause-rests
returns-in-Ok-clause-rests g c = (search rules, rests_behind (view c.in-Ok.conn.store) (view c.into_store.result) c.into_store.ensures.undone)
