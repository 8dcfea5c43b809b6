-- What is owed of `begin_scan`.
use Rattle.std.proofs.Common.{◌∙◌, ap, Some}
use Rattle.sqlite_trees.specs.Tree.{from_key, order_of}
use Rattle.site_stored.proofs.Scans.{from_none}
use Rattle.site_stored.proofs.scan.begin_scan.Goals as goal

pub returns-clause-first : goal.returns-clause-first
returns-clause-first g c clean =
    let was = g.S.Store.view c.args.store.now in
    ap (λ v. v.cursors 0) (c.in_ok-seek.ensures.ok clean)
    ∙ ap (λ key. Some (from_key (order_of (was.shape c.args.tree)) key (was.trees c.args.tree))) c.new-key.ensures
    ∙ ap Some (from_none (order_of (was.shape c.args.tree)) (was.trees c.args.tree))
