-- What is owed of `latest_at`.
use Rattle.std.proofs.Common.{subst, inl}
use Rattle.sqlite_store.specs.FileStore.{view}
use Rattle.site_files.specs.Files.{IsFoundIn}
use Rattle.site_state.proofs.Kept.{if_ok}
use Rattle.site_files.proofs.Found.{same_image}
use Rattle.site_files.proofs.stores.latest_at.Goals as goal

pub returns-in-Ok-clause-found : goal.returns-in-Ok-clause-found
returns-in-Ok-clause-found g c =
    let held = c.in-Ok.ensures.held in
    if_ok c.latest_of.result _ _ (λ store found clean is_open. inl (subst (λ i. IsFoundIn i (view store).trees) (same_image held.0 held.1) (found clean)))
    c.latest_of.ensures.found
