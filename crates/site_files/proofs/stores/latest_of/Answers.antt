-- What is owed of `latest_of`.
use Rattle.std.proofs.Common.{subst}
use Rattle.sqlite_store.specs.FileStore.{view}
use Rattle.site_state.proofs.Kept.{if_ok}
use Rattle.site_files.specs.Files.{IsFoundIn}
use Rattle.site_files.proofs.Found.{image_from}
use Rattle.site_files.proofs.stores.latest_of.Goals as goal

pub returns-clause-found : goal.returns-clause-found
returns-clause-found g c =
    if_ok c.opened.result _ _ (λ store found clean.
    subst (λ i. IsFoundIn i (view store).trees) (image_from c.in_ok-it.it c.args.files.log c.args.files.db c.in_ok-it.ensures.files)
    (found clean _ c.in_ok-it.ensures.size)) c.opened.ensures.found
