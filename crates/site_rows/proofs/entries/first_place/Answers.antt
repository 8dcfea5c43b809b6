-- What is owed of `first_place`.
use Rattle.std.proofs.Common.{[], ◌∷◌}
use Rattle.sqlite_value.specs.Keys.{plain}
use Rattle.sqlite_value.specs.declared.value.Value.TheVariants.{Blob}
use Rattle.sqlite_trees.specs.Tree.{from_key}
use Rattle.site_rows.specs.Held.{entry}
use Rattle.site_rows.proofs.Seeks.{first_stands, if_some}
use Rattle.site_rows.proofs.Users.{all_from, none_sought}
use Rattle.site_rows.proofs.entries.first_place.Goals as goal

pub returns-clause-place : goal.returns-clause-place
returns-clause-place g c =
    if_some c.in_ok-found.found _ _ (λ place read clean are.
    let es = (g.S.Store.view c.args.store.now).trees c.args.tree in
    let before = c.in_ok-found.ensures.reads.quiet.clean clean in
    let left = from_key plain (Blob c.args.key.now ∷ []) es in
    let step = read clean left (c.in_ok-seek_key.ensures.sought before) (all_from _ (Blob c.args.key.now ∷ []) es are) in
    first_stands (Blob c.args.key.now ∷ []) (entry c.args.key.now place) step.0 es step.1) c.in_ok-found.ensures.place

pub returns-clause-none : goal.returns-clause-none
returns-clause-none g c = λ none clean are p stands.
    let es = (g.S.Store.view c.args.store.now).trees c.args.tree in
    let before = c.in_ok-found.ensures.reads.quiet.clean clean in
    let left = from_key plain (Blob c.args.key.now ∷ []) es in
    none_sought c.args.key.now p es are (c.in_ok-seek_key.ensures.sorted before)
    (c.in_ok-found.ensures.past none clean left (c.in_ok-seek_key.ensures.sought before) (all_from _ (Blob c.args.key.now ∷ []) es are)) stands
