-- What is owed of `opened`.
use Rattle.std.proofs.Common.{◌≡◌, sym, ap, ap₂, subst, ◌∙◌}
use Rattle.std.proofs.lemmas.Bool.{cond-true}
use Rattle.std.proofs.Math.Logic.{∥∥₁_map}
use Rattle.std.proofs.Math.Path.{subst₃}
use Rattle.sqlite_pool.specs.Stored.{Recovers, used_size}
use Rattle.sqlite_store.specs.FileStore.{state, view}
use Rattle.sqlite_store.specs.Listing.{IsOurs, file_trees}
use Rattle.sqlite_store.specs.Saved.{kept_schema}
use Rattle.sqlite_store.specs.Unopened.{image, wanted_by}
use Rattle.sqlite_trees.specs.Tree.{no_trees}
use Rattle.sqlite_trees.proofs.Doubt.{clean_of}
use Rattle.site_files.proofs.stores.opened.Goals as goal

pub returns-in-Ok-clause-found : goal.returns-in-Ok-clause-found
returns-in-Ok-clause-found g c clean has_sums size =
    let e = c.in-Ok.ensures in
    let store = c.in-Ok.store in
    let now = clean_of (view store).is_clean clean in
    let sized = (e.kept now).size ∙ size in
    let listing : kept_schema store.saved store.schema.items ≡ wanted_by c.args.it =
    ap (λ o. kept_schema o store.schema.items) e.ready.unaltered ∙ e.schema in
    let reads : (view store).trees ≡ file_trees (used_size 4096 has_sums) (wanted_by c.args.it) (state store).committed =
    e.ready.clean
    ∙ cond-true _ (file_trees (state store).page_size (kept_schema store.saved store.schema.items) (state store).committed) no_trees now
    ∙ ap₂ (λ n s. file_trees n s (state store).committed) sized listing in (
      has_sums,
      (state store).committed,
      wanted_by c.args.it,
      subst (λ n. Recovers n (image c.args.it) (state store).committed) size (e.found now),
      ∥∥₁_map (store.stored (e.ready.is_open clean)) (λ s. subst₃ (λ n b x. IsOurs n b x (state store).committed) sized e.numbered listing s.ours),
      reads,
    )

pub returns-in-Ok-clause-rests : goal.returns-in-Ok-clause-rests
returns-in-Ok-clause-rests g c = sym c.in-Ok.ensures.ready.clean
