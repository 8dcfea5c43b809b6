-- What is owed of `opened`.
use Rattle.std.proofs.Common.{◌∙◌, inl, inr}
use Rattle.sqlite_store.specs.FileStore.{view}
use Rattle.site_state.proofs.Kept.{if_ok}
use Rattle.site_files.proofs.opening.opened.Goals as goal

pub returns-in-Ok-clause-found : goal.returns-in-Ok-clause-found
returns-in-Ok-clause-found g c =
    let at = c.in-Ok.ensures in
    if_ok c.site_in.result _ _ (λ site found clean.
    let was = found clean in (
      (view c.in-Ok.store).trees,
      at.found was.0 was.1,
      elim was.2 [
        | inl e ↦ inl (e ∙ at.rests.1 was.0 was.1)
        | inr first ↦ inr first
      ],
    )) c.site_in.ensures.found
